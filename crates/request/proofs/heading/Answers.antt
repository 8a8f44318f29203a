-- `heading` meets its contract, by the laws of the heading: one for each part that can stop it.
use mathlib.Core.Path.{sym, ap, ◌∙◌}
use Rattle.basics.proofs.Question.{passed_on}
use Rattle.field.specs.Told.{told}
use Rattle.request.proofs.Reading.{heading_stops, heading_age, heading_count, heading_of}
use Rattle.request.proofs.heading.Goals as goal

pub returns-in_err-kind : goal.returns-in_err-kind
returns-in_err-kind c = ap told (passed_on c.from_residual.ensures) ∙ sym (heading_stops _ _ _ _ (sym c.in_err-kind.ensures))

pub returns-in_err-since : goal.returns-in_err-since
returns-in_err-since c =
    ap told (passed_on c.from_residual-in_err-since.ensures)
    ∙ sym (heading_age _ _ _ _ (sym c.in_ok-kind.ensures) (sym c.in_err-since.ensures))

pub returns-in_err-q : goal.returns-in_err-q
returns-in_err-q c =
    ap told (passed_on c.from_residual-in_err-q.ensures)
    ∙ sym (heading_count _ _ _ _ (sym c.in_ok-kind.ensures) (sym c.in_ok-since.ensures) (sym c.in_err-q.ensures))

pub returns : goal.returns
returns c = sym (heading_of _ _ _ _ (sym c.in_ok-kind.ensures) (sym c.in_ok-since.ensures) (sym c.in_ok-q.ensures))
