-- `if_any`: the two cases of the bound.
use Rattle.plan.proofs.Reading.{any_none, any_some}
use Rattle.plan.proofs.if_any.Goals as goal

pub returns-then-q-eq0 : goal.returns-then-q-eq0
returns-then-q-eq0 c = any_none _ _ c.if-q-eq0.true

pub returns-else-q-eq0 : goal.returns-else-q-eq0
returns-else-q-eq0 c = any_some _ _ c.if-q-eq0.false
