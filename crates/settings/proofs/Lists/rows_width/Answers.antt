-- The loop's invariant is `Sized`: the rows so far are in range, and the sum is the length of their bytes.
use mathlib.Core.Path.{◌∙◌}
use native.Mathlib.Omega.{arith}
use Rattle.settings.proofs.Rows.{rows_below, rows_end, sized_start, sized_small, sized_step, sized_stop, sized_done}
use Rattle.settings.proofs.Lists.rows_width.Goals as goal

pub loop-disk-init : goal.loop-disk-init
loop-disk-init c = sized_start _ _

pub returns-in_err-total : goal.returns-in_err-total
returns-in_err-total c =
    c.from_residual.ensures
    ∙ sized_stop c.loop-disk.invariant (rows_below c.requires.level c.loop-disk-test.true) c.row.ensures c.in_err-total.ensures

pub overflow_add-total : goal.overflow_add-total
overflow_add-total c =
    omega (
      arith,
      sized_small c.loop-disk.invariant (rows_below c.requires.level c.loop-disk-test.true) c.row.ensures c.in_ok-total.ensures,
      c.requires.few,
    )

pub loop-disk-preserved : goal.loop-disk-preserved
loop-disk-preserved c =
    sized_step c.loop-disk.invariant (rows_below c.requires.level c.loop-disk-test.true) c.row.ensures c.in_ok-total.ensures

pub returns : goal.returns
returns c = sized_done c.loop-disk.invariant (rows_end c.requires.level (omega arith))
