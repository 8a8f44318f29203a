-- `age` meets its contract, by the two cases of the kind.
use mathlib.Core.Path.{sym, ◌∙◌}
use Rattle.request.proofs.Reading.{age_four, age_none}
use Rattle.request.proofs.age.Goals as goal

pub returns-then-kind-eq-AGED : goal.returns-then-kind-eq-AGED
returns-then-kind-eq-AGED c = c.number.ensures ∙ sym (age_four _ _ _ c.if-kind-eq-AGED.true)

pub returns-else-kind-eq-AGED : goal.returns-else-kind-eq-AGED
returns-else-kind-eq-AGED c = sym (age_none _ _ _ c.if-kind-eq-AGED.false)
