-- `capacity::room_at` meets its contract: what is summed, with the room of the disks left, is the room of x.
use Rattle.capacity.proofs.Rooms.{left_all, left_next, rooms_all, rooms_first, rooms_end, room_most}
use mathlib.Core.Path.{ap, ◌∙◌}
use native.Mathlib.Omega.{arith}
use Rattle.mask.specs.Rising.{disks_left}
use Rattle.capacity.proofs.room_at.Goals as goal

pub loop-d-init : goal.loop-d-init
loop-d-init c =
    let a = c.args in
    let e = ap disks_left c.into_iter-d-iterator.ensures.into_iter_gives ∙ c.disks-d-items.ensures in
    rw e (
      left_all c.requires.1,
      omega (arith, rooms_all a.n a.rates.costs.now a.rates.starts.now a.x a.t c.requires.0.few (omega (arith, c.ranges.x)) c.requires.1),
    )

pub overflow_add-total : goal.overflow_add-total
overflow_add-total c =
    let a = c.args in
    omega (
      arith,
      c.able.type_inv,
      c.loop-d.invariant.1,
      room_most a.n a.rates.costs.now a.rates.starts.now a.x a.t (omega (arith, c.ranges.t)),
      c.requires.0.few,
    )

pub loop-d-preserved : goal.loop-d-preserved
loop-d-preserved c =
    let i = c.loop-d.invariant in
    let a = c.args in
    let o = c.in-Some.ensures.steps in (
      (left_next c.requires.1 i.0 o).1,
      omega (arith, i.1, c.able.ensures, rooms_first a.rates.costs.now a.rates.starts.now a.t o),
    )

pub returns : goal.returns
returns c =
    let a = c.args in
    omega (arith, c.loop-d.invariant.1, rooms_end a.rates.costs.now a.rates.starts.now a.t c.in-None.ensures.steps.0)
