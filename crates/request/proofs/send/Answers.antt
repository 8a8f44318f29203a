-- `send` meets its contract: the length is added up first, so that 11 has changed nothing; then heading and blocks are put.
use native.Mathlib.Omega.{arith}
use borrow.Author.Rules.{rules}
use mathlib.Core.Path.{◌≡◌, refl, sym}
use lib.ListN.{length}
use Prim.Native.Nat.{◌+◌}
use Rattle.number.proofs.Encode.{width_bounds}
use Rattle.field.proofs.Sends.{sent_long}
use Rattle.request.specs.Draft.{request_bytes}
use Rattle.request.proofs.Aged.{age_bound}
use Rattle.request.proofs.Writing.{heading_length, request_length, request_sent}
use Rattle.request.proofs.send.Goals as goal

pub overflow_add-length : goal.overflow_add-length
overflow_add-length c =
    let a = c.args in
    let h = c.args.heading in
    omega (
      arith,
      c.width.ensures,
      heading_length h.kind a.unit a.tenancy h.age h.blocks c.requires.0,
      width_bounds a.unit,
      width_bounds a.tenancy,
      age_bound h.kind h.age,
      width_bounds h.blocks,
      c.requires.2.small,
      c.requires.2.count,
    )

pub returns-then-out-length : goal.returns-then-out-length
returns-then-out-length c =
    let long = request_length _ _ _ _ _ _ c.requires.1 c.width.ensures c.requires.2 in
    rw c.at.ensures (sent_long _ _ (sym long) c.if-out-length.true)

pub returns : goal.returns
returns c =
    let h = c.args.heading in
    let long : length (request_bytes h.kind c.args.unit c.args.tenancy h.age c.args.copies.now) ≡ c.width.result + c.args.n =
    request_length _ _ _ _ _ _ c.requires.1 c.width.ensures c.requires.2 in
    request_sent _ _ _ _ _ _ c.requires.1 (omega (arith, long, c.if-out-length.false)) c.put.ensures c.put_blocks.ensures refl
    (search rules)
