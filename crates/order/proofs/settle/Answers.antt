-- `order::settle` meets its contract.
use mathlib.Core.Path.{refl, sym, ◌∙◌}
use Rattle.places.proofs.Seats.{ringed_unlink, ringed_bind}
use Rattle.order.proofs.Lowering.{disk, lower_none, asked_less, done}
use native.Mathlib.Omega.{arith}
use Rattle.order.proofs.settle.Goals as goal

pub lower_copies-lower-requires : goal.lower_copies-lower-requires
lower_copies-lower-requires c =
    let p = c.requires in
    (omega (arith, p.1, p.0.bound.placed.blocks), disk p.0 p.1)

pub loop-lower-init : goal.loop-lower-init
loop-lower-init c = (refl, c.requires.0, c.lower_copies-lower.ensures)

pub lower_once-free-requires : goal.lower_once-free-requires
lower_once-free-requires c =
    (c.loop-lower.invariant.1, c.requires.1, c.loop-lower.invariant.2)

pub lower_copies-lower-requires-in-loop-lower : goal.lower_copies-lower-requires-in-loop-lower
lower_copies-lower-requires-in-loop-lower c =
    let p = c.requires in
    (omega (arith, p.1, p.0.bound.placed.blocks), disk c.lower_once-free.ensures.sorting p.1)

pub loop-lower-smaller : goal.loop-lower-smaller
loop-lower-smaller c =
    let t = c.loop-lower-test in
    asked_less c.lower_once-free.ensures t.true c.lower_copies-lower-in-loop-lower.type_inv c.lower_copies-lower-in-loop-lower.ensures

pub loop-lower-preserved : goal.loop-lower-preserved
loop-lower-preserved c =
    let l = c.loop-lower in
    let e = c.lower_once-free.ensures in
    (l.invariant.0 ∙ sym e.copies, e.sorting, c.lower_copies-lower-in-loop-lower.ensures)

pub only-requires : goal.only-requires
only-requires c =
    disk c.loop-lower.invariant.1 c.requires.1

pub unlink-requires : goal.unlink-requires
unlink-requires c =
    ringed_unlink c.loop-lower.invariant.1.standing.ringed _ c.requires.1

pub returns : goal.returns
returns c =
    let s = c.loop-lower.invariant.1 in
    let h = c.requires.1 in
    let o = c.only in
    let t = c.loop-lower-test in
    rw c.loop-lower.invariant.0
    (done s h o.result o.ensures (lower_none c.loop-lower.invariant.2 t.false) (ringed_bind s.standing.ringed h c.unlink.ensures))
