-- Of kind 6 the field, of kind 5 the larger, of kind 1 the sum.
use borrow.Author.Rules.{rules}
use mathlib.Core.Path.{refl, sym, ap, ◌∙◌}
use Rattle.basics.proofs.Question.{passed_on}
use Rattle.basics.specs.Choice.{pick}
use Rattle.field.specs.Refusal.{fault_at}
use Rattle.field.specs.declared.Refusal.TheVariants.{BadAmount}
use Rattle.field.specs.Sheet.{pure}
use Rattle.field.proofs.Readers.{refused_as, between_stops}
use Rattle.settings.specs.Parts.{told_rule}
use Rattle.settings.specs.Sheet.{rule}
use Rattle.settings.proofs.Reading.{rule_got, rule_none}
use Rattle.settings.proofs.Rules.{rule_taken, rule_missed}
use Rattle.settings.proofs.rule_at.Goals as goal

pub returns-in-Sum : goal.returns-in-Sum
unfolding rule pick pure
returns-in-Sum c = rw c.in-Sum.is refl

pub returns-in-Larger : goal.returns-in-Larger
unfolding rule pick pure
returns-in-Larger c = rw c.in-Larger.is refl

pub returns-in_err-number-in-Marked : goal.returns-in_err-number-in-Marked
unfolding rule pick
returns-in_err-number-in-Marked c =
    rw c.in-Marked.is
    (ap told_rule (passed_on c.from_residual.ensures) ∙ sym (between_stops _ _ (sym c.in_err-number-in-Marked.ensures) _ _ _ _))

pub returns-in_ok-rule-in-Marked : goal.returns-in_ok-rule-in-Marked
unfolding rule pick
returns-in_ok-rule-in-Marked c =
    rw c.in-Marked.is
    (sym (rule_got _ _ (sym c.in_ok-number-in-Marked.ensures) _ (rule_taken _ _ c.try_from.ensures c.in_ok-rule-in-Marked.ensures.cases)))

pub returns-in_err-rule-in-Marked : goal.returns-in_err-rule-in-Marked
unfolding rule pick
returns-in_err-rule-in-Marked c =
    let m = rule_missed _ _ c.try_from.ensures c.in_err-rule-in-Marked.ensures.cases in
    let made = refused_as {g = fault_at BadAmount c.args.at} (search (rules, m.1.1)) in
    rw (passed_on c.from_residual-in_err-rule-in-Marked.ensures, c.in-Marked.is)
    (made ∙ sym (rule_none _ _ (sym c.in_ok-number-in-Marked.ensures) m.0))
