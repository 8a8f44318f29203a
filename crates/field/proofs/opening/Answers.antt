-- The kind, then unit and tenancy at the place where it ended; the first refusal stands.
use mathlib.Core.Path.{sym, ap, ◌∙◌}
use Rattle.basics.proofs.Question.{passed_on}
use Rattle.field.specs.Field.{opening}
use Rattle.field.specs.Sheet.{pure}
use Rattle.field.specs.Told.{told}
use Rattle.field.proofs.Sheet.{next, then, stops, halts}
use Rattle.field.proofs.opening.Goals as goal

pub returns-in_err-k : goal.returns-in_err-k
unfolding opening
returns-in_err-k c = ap told (passed_on c.from_residual.ensures) ∙ sym (stops _ _ _ _ (sym c.in_err-k.ensures))

pub returns-in_err-next : goal.returns-in_err-next
unfolding opening
returns-in_err-next c =
    ap told (passed_on c.from_residual-in_err-next.ensures)
    ∙ sym (next _ _ _ _ (sym c.in_ok-k.ensures) ∙ halts _ _ _ _ (sym c.in_err-next.ensures))

pub returns : goal.returns
unfolding opening pure
returns c = sym (next _ _ _ _ (sym c.in_ok-k.ensures) ∙ then _ _ _ _ (sym c.in_ok-next.ensures))
