-- `read_short`. Each block stands in the list at the place where the one before it ended, and is above it.
use native.Mathlib.Omega.{arith}
use mathlib.Core.Path.{sym, ◌∙◌}
use lib.Seq.{length-take-le}
use Rattle.basics.proofs.Question.{passed_on}
use Rattle.number.specs.Bytes.{Bytes}
use Rattle.field.proofs.Lists.{ascending_start, ascending_step, ascending_stop, ascending_done}
use Rattle.field.proofs.Values.{between_range}
use Rattle.plan.proofs.Reading.{filled_more, filled_stop, filled_all}
use Rattle.plan.proofs.read_short.Goals as goal

pub loop-x-init : goal.loop-x-init
loop-x-init c = ascending_start _ _ _ _ _

pub returns-in_err-block : goal.returns-in_err-block
returns-in_err-block c =
    rw (sym c.saturating_sub-last.ensures)
    (filled_stop _ _ _ c.loop-x.invariant _ _ (passed_on c.from_residual.ensures)
    (ascending_stop _ _ _ _ _ _ _ (omega (arith, length-take-le c.args.m c.args.out.now c.requires.0)) (sym c.in_err-block.ensures)))

pub overflow_cast-x : goal.overflow_cast-x
unfolding Bytes
overflow_cast-x c = omega (arith, between_range _ _ 8 16 _ _ (sym c.in_ok-block.ensures))

pub overflow_add-floor : goal.overflow_add-floor
unfolding Bytes
overflow_add-floor c = omega (arith, between_range _ _ 8 16 _ _ (sym c.in_ok-block.ensures))

pub loop-x-preserved : goal.loop-x-preserved
loop-x-preserved c =
    filled_more _ _ _ c.loop-x.invariant _ _ (omega arith)
    (ascending_step _ _ _ _ _ _ _ (omega (arith, length-take-le c.args.m c.args.out.now c.requires.0)) (sym c.in_ok-block.ensures))

pub returns : goal.returns
returns c =
    let l = length-take-le c.args.m c.args.out.now c.requires.0 in
    rw (sym c.saturating_sub-last.ensures)
    (filled_all _ _ _ c.loop-x.invariant _ _ _ (c.loop-x.auto.x-items ∙ l) (omega (arith, l))
    (ascending_done _ _ _ _ _ _ _ (omega (arith, l))))
