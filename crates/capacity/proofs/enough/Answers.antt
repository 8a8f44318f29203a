-- `capacity::enough` meets its contract.
use mathlib.Core.Path.{ap, ◌∙◌}
use Rattle.mask.specs.Rising.{disks_left}
use Rattle.capacity.proofs.Rooms.{left_all, left_next, enough_last, enough_alone}
use Rattle.capacity.proofs.enough.Goals as goal

pub loop-d-init : goal.loop-d-init
loop-d-init c =
    let e = ap disks_left c.into_iter-d-iterator.ensures.into_iter_gives ∙ c.disks-d-items.ensures in
    rw e (left_all c.requires.small, enough_last c.requires)

pub loop-d-preserved : goal.loop-d-preserved
loop-d-preserved c =
    let i = c.loop-d.invariant in
    let o = left_next c.requires.small i.0 c.in-Some.ensures.steps in
    (o.1, rw c.min-high.ensures (enough_alone c.requires c.in-Some.d o.0 c.alone.ensures i.1))
