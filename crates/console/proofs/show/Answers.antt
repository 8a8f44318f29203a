-- `show`: what is read back of a plan sheet is the plan, and it is never refused.
use native.Mathlib.Omega.{arith}
use lib.Seq.{length-take-le}
use mathlib.Core.Path.{sym, ap}
use Rattle.console.proofs.Benching.{back_disks, back_short, back_plan, back_never}
use Rattle.line.proofs.Lines.{printed_same}
use Rattle.line.specs.Line.{plan_line}
use Rattle.console.proofs.show.Goals as goal

pub slice_bounds-disks-end : goal.slice_bounds-disks-end
slice_bounds-disks-end c = back_disks _ _ _ _ _ _ _ _ c.in-Ok.ensures

pub slice_bounds-plan_line-end : goal.slice_bounds-plan_line-end
slice_bounds-plan_line-end c = sym (length-take-le _ _ (back_disks _ _ _ _ _ _ _ _ c.in-Ok.ensures))

pub slice_bounds-short-end : goal.slice_bounds-short-end
slice_bounds-short-end c = back_short _ _ _ _ _ _ _ _ c.in-Ok.ensures

pub slice_bounds-plan_line-end-in-Ok : goal.slice_bounds-plan_line-end-in-Ok
slice_bounds-plan_line-end-in-Ok c = sym (length-take-le _ _ (back_short _ _ _ _ _ _ _ _ c.in-Ok.ensures))

pub returns-in-Ok : goal.returns-in-Ok
returns-in-Ok c =
    λ p r l q. printed_same
    (ap (plan_line _ _) (back_plan _ _ _ _ _ _ _ _ c.in-Ok.ensures c.ranges.unit.fits c.ranges.tenancy.fits p r l q)) c.plan_line.ensures

pub returns-in-Err : goal.returns-in-Err
returns-in-Err c =
    λ p r l q. absurd
    (back_never _ _ _ _ _ _ _ _ c.in-Err.ensures c.ranges.unit.fits c.ranges.tenancy.fits (omega arith) (omega arith) p r l q)
