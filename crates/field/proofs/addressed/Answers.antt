-- The unit, and the tenancy at the place where it ended; the first refusal stands.
use mathlib.Core.Path.{sym, ap, ◌∙◌}
use Rattle.basics.proofs.Question.{passed_on}
use Rattle.field.specs.Field.{addressed}
use Rattle.field.specs.Told.{told}
use Rattle.field.proofs.Sheet.{then, halts}
use Rattle.field.proofs.addressed.Goals as goal

pub returns-in_err-next : goal.returns-in_err-next
unfolding addressed
returns-in_err-next c = ap told (passed_on c.from_residual.ensures) ∙ sym (halts _ _ _ _ (sym c.in_err-next.ensures))

pub returns : goal.returns
unfolding addressed
returns c = c.tenancy.ensures ∙ sym (then _ _ _ _ (sym c.in_ok-next.ensures))
