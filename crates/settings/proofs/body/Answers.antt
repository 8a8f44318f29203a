-- The loop's invariant is `Rows`: what was read, then the definition of the rest.
use mathlib.Core.Path.{sym, ap, ◌∙◌}
use native.Mathlib.Omega.{arith}
use Rattle.basics.proofs.Question.{passed_on}
use Rattle.field.specs.Sheet.{got}
use Rattle.field.specs.Told.{told_by}
use Rattle.settings.proofs.Reading.{rows_start, slots_length, rows_step, rows_stop, rows_extra, rows_told}
use Rattle.settings.proofs.body.Goals as goal

pub loop-slot-init : goal.loop-slot-init
loop-slot-init c = rows_start _ _ _ c.empty.ensures c.requires

pub returns-in_err-row : goal.returns-in_err-row
returns-in_err-row c =
    ap (told_by (λ t. got t _)) (passed_on c.from_residual.ensures)
    ∙ sym (rows_stop c.loop-slot.invariant (omega (arith, slots_length c.loop-slot.invariant)) (sym c.in_err-row.ensures))

pub loop-slot-preserved : goal.loop-slot-preserved
loop-slot-preserved c = rows_step c.loop-slot.invariant (omega (arith, slots_length c.loop-slot.invariant)) (sym c.in_ok-row.ensures)

pub returns-in_err-end : goal.returns-in_err-end
returns-in_err-end c =
    ap (told_by (λ t. got t _)) (passed_on c.from_residual-in_err-end.ensures)
    ∙ sym (rows_extra c.loop-slot.invariant (omega (arith, slots_length c.loop-slot.invariant)) (sym c.in_err-end.ensures))

pub returns : goal.returns
returns c = rows_told c.loop-slot.invariant c.empty.ensures (omega (arith, slots_length c.loop-slot.invariant)) (sym c.in_ok-end.ensures)
