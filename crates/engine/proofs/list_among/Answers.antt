-- `engine::list_among` meets its contract.
use Prim.Native.Nat.{◌≤◌}
use mathlib.Core.Path.{◌≡◌, sym, ◌∙◌}
use Rattle.places.specs.Among.{among}
use Rattle.engine.proofs.Lists.{listing_start, listing_put, listing_skip, listing_front, listing_same}
use native.Mathlib.Omega.{arith}
use lib.ListN.{length}
use Rattle.engine.proofs.list_among.Goals.{then-all_in, else-all_in}
use Rattle.engine.proofs.list_among.Goals as goal

pub loop-b-init : goal.loop-b-init
loop-b-init c = listing_start (among c.args.masks.now c.args.x) c.args.short.now

pub bounds-short-size : goal.bounds-short-size
bounds-short-size c =
    let i = c.loop-b.invariant in
    omega (arith, i.few, i.long, c.requires.1)

pub overflow_add-size : goal.overflow_add-size
overflow_add-size c = omega (arith, c.loop-b.invariant.few)

pub loop-b-preserved : goal.loop-b-preserved
loop-b-preserved c =
    let i = c.loop-b.invariant in
    elim c.if-all_in.branch [
      | then-all_in v ↦
          rw (v.short-is, v.size-is)
          (listing_put i (sym c.all_in.ensures ∙ v.if-all_in.true) (omega (arith, i.few, i.long, c.requires.1)))
      | else-all_in v ↦
          rw (v.short-is, v.size-is)
          (listing_skip i (sym c.all_in.ensures ∙ v.if-all_in.false))
    ]

pub shape_of-short : goal.shape_of-short
shape_of-short c = c.loop-b.invariant.long

pub returns : goal.returns
returns c =
    let l = c.loop-b in
    let e : l.b ≡ c.args.q = omega arith in
    let room : l.b ≤ length c.args.short.now = omega (arith, e, c.requires.1) in
    rw (← e) (record { set = listing_front l.invariant room; same = listing_same l.invariant room })
