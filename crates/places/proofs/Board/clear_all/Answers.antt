-- `places::Board::clear_all` meets its contract.
use Prim.Native.Nat.{ℕ}
use mathlib.Core.Path.{◌≡◌, refl, subst}
use Rattle.places.proofs.Clearing.{Clearing, clearing_start, clearing_more, cleared}
use native.Mathlib.Omega.{arith}
use Rattle.places.proofs.Board.clear_all.Goals as goal

pub loop-b-init : goal.loop-b-init
loop-b-init c = (clearing_start (omega (arith, c.requires.disks)) c.requires.long_seats c.rings.ensures, refl, refl)

pub loop-b-preserved : goal.loop-b-preserved
loop-b-preserved c =
    let i = c.loop-b.invariant in
    (clearing_more i.0 (omega (arith, c.loop-b-test.true, c.requires.blocks)) c.link.ensures, i.1, i.2)

pub returns : goal.returns
returns c =
    let l = c.loop-b in
    let s = l.self in
    let e : l.b ≡ c.args.q = omega arith in (
      rw l.invariant.1
          (cleared c.requires (subst (λ (b : ℕ). Clearing c.args.n b s.seats s.nodes.next s.nodes.prev) e l.invariant.0)),
      l.invariant.2,
    )
