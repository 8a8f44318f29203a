-- Block by block the disks that are out are taken from the copies: `Kept`.
use Rattle.planner.proofs.Cut.{kept_start, kept_step, kept_done}
use Rattle.planner.proofs.keep.Goals as goal

pub loop-m-init : goal.loop-m-init
loop-m-init c = kept_start _ _

pub loop-m-preserved : goal.loop-m-preserved
loop-m-preserved c = kept_step _ c.loop-m-test.true c.loop-m.invariant c.without.ensures

pub returns : goal.returns
returns c = kept_done c.loop-m.auto.m-index-end c.loop-m-test.false c.loop-m.invariant
