-- One law of the reader for each field at which a row may stop, and one for a row that is read.
use mathlib.Core.Path.{sym, ap, ◌∙◌}
use Rattle.basics.proofs.Question.{passed_on}
use Rattle.field.specs.Told.{told}
use Rattle.settings.proofs.Reading.{row_got, row_first, row_second, row_third, row_fourth}
use Rattle.settings.proofs.row_at.Goals as goal

pub returns-in_err-cost : goal.returns-in_err-cost
returns-in_err-cost c = ap told (passed_on c.from_residual.ensures) ∙ sym (row_first _ _ _ (sym c.in_err-cost.ensures))

pub returns-in_err-load : goal.returns-in_err-load
returns-in_err-load c =
    ap told (passed_on c.from_residual-in_err-load.ensures)
    ∙ sym (row_second _ _ _ (sym c.in_ok-cost.ensures) (sym c.in_err-load.ensures))

pub returns-in_err-delay : goal.returns-in_err-delay
returns-in_err-delay c =
    ap told (passed_on c.from_residual-in_err-delay.ensures)
    ∙ sym (row_third _ _ _ (sym c.in_ok-cost.ensures) (sym c.in_ok-load.ensures) (sym c.in_err-delay.ensures))

pub returns-in_err-mark : goal.returns-in_err-mark
returns-in_err-mark c =
    ap told (passed_on c.from_residual-in_err-mark.ensures)
    ∙ sym (row_fourth _ _ _ (sym c.in_ok-cost.ensures) (sym c.in_ok-load.ensures) (sym c.in_ok-delay.ensures) (sym c.in_err-mark.ensures))

pub returns : goal.returns
returns c =
    sym (row_got _ _ _ (sym c.in_ok-cost.ensures) (sym c.in_ok-load.ensures) (sym c.in_ok-delay.ensures) (sym c.in_ok-mark.ensures))
