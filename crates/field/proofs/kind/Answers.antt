-- Each return is one law of `kind`.
use mathlib.Core.Path.{sym, ap, ◌∙◌}
use Rattle.basics.proofs.Lists.{listed_is_any}
use Rattle.basics.proofs.Question.{passed_on}
use Rattle.field.specs.Told.{told}
use Rattle.field.proofs.Readers.{refused_as, kind_got, kind_other, kind_stops}
use Rattle.field.proofs.kind.Goals as goal

pub returns-in_err-k : goal.returns-in_err-k
returns-in_err-k c = ap told (passed_on c.from_residual.ensures) ∙ sym (kind_stops _ _ (sym c.in_err-k.ensures) _)

pub returns-then-not-contains : goal.returns-then-not-contains
returns-then-not-contains c =
    refused_as c.at.ensures ∙ sym (kind_other _ _ (sym c.in_ok-k.ensures) _
    (sym (listed_is_any _ _) ∙ sym c.contains.ensures.value ∙ c.if-not-contains.true))

pub returns : goal.returns
returns c = sym (kind_got _ _ (sym c.in_ok-k.ensures) _ (sym (listed_is_any _ _) ∙ sym c.contains.ensures.value ∙ c.if-not-contains.false))
