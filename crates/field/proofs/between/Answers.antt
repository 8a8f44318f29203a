-- Each return is one law of `between`.
use mathlib.Core.Path.{sym, ap, ◌∙◌}
use Rattle.basics.proofs.Question.{passed_on}
use Rattle.field.specs.Told.{told}
use Rattle.field.proofs.Readers.{refused_as, between_got, between_above, between_under, between_stops}
use Rattle.field.proofs.between.Goals as goal

pub returns-in_err-v : goal.returns-in_err-v
returns-in_err-v c = ap told (passed_on c.from_residual.ensures) ∙ sym (between_stops _ _ (sym c.in_err-v.ensures) _ _ _ _)

pub returns-then-high-v : goal.returns-then-high-v
returns-then-high-v c = refused_as c.at.ensures ∙ sym (between_above _ _ (sym c.in_ok-v.ensures) _ _ _ _ c.if-high-v.true)

pub returns-then-v-low : goal.returns-then-v-low
returns-then-v-low c =
    refused_as c.at-then-v-low.ensures ∙ sym (between_under _ _ (sym c.in_ok-v.ensures) _ _ _ _ c.if-high-v.false c.if-v-low.true)

pub returns : goal.returns
returns c = sym (between_got _ _ (sym c.in_ok-v.ensures) _ _ _ _ c.if-v-low.false c.if-high-v.false)
