-- `read_disks`. Each disk stands in the list at the place where the one before it ended.
use native.Mathlib.Omega.{arith}
use Prim.Native.Nat.{◌-◌}
use mathlib.Core.Path.{sym, ◌∙◌}
use lib.Seq.{length-take-le}
use Rattle.basics.specs.Limits.{disks_most}
use Rattle.basics.proofs.Question.{passed_on}
use Rattle.number.specs.Bytes.{Bytes}
use Rattle.field.proofs.Lists.{times_start, times_step, times_stop, times_done}
use Rattle.field.proofs.Values.{between_range}
use Rattle.plan.proofs.Reading.{filled_more, filled_stop, filled_all}
use Rattle.plan.proofs.read_disks.Goals as goal

pub loop-x-init : goal.loop-x-init
loop-x-init c = times_start _ _ _ _

pub returns-in_err-disk : goal.returns-in_err-disk
returns-in_err-disk c =
    filled_stop _ _ _ c.loop-x.invariant _ _ (passed_on c.from_residual.ensures)
    (times_stop _ _ _ _ _ _ (omega (arith, length-take-le c.args.q c.args.out.now c.requires)) (sym c.in_err-disk.ensures))

pub overflow_cast-x : goal.overflow_cast-x
unfolding Bytes
overflow_cast-x c = omega (arith, between_range 0 (disks_most - 1) 16 16 _ _ (sym c.in_ok-disk.ensures))

pub loop-x-preserved : goal.loop-x-preserved
loop-x-preserved c =
    filled_more _ _ _ c.loop-x.invariant _ _ (omega arith)
    (times_step _ _ _ _ _ _ (omega (arith, length-take-le c.args.q c.args.out.now c.requires)) (sym c.in_ok-disk.ensures))

pub returns : goal.returns
returns c =
    let l = length-take-le c.args.q c.args.out.now c.requires in
    filled_all _ _ _ c.loop-x.invariant _ _ _ (c.loop-x.auto.x-items ∙ l) (omega (arith, l)) (times_done _ _ _ _ _ _ (omega (arith, l)))
