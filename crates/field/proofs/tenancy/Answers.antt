-- Where none is due the range is empty; else it is that number alone.
use mathlib.Core.Path.{◌∙◌}
use Rattle.field.proofs.Readers.{tenancy_none, tenancy_due}
use Rattle.field.proofs.tenancy.Goals as goal

pub returns-then-due-eq0 : goal.returns-then-due-eq0
returns-then-due-eq0 c = c.between.ensures ∙ tenancy_none _ _ _ c.if-due-eq0.true

pub returns : goal.returns
returns c = c.exactly.ensures ∙ tenancy_due _ _ _ c.if-due-eq0.false
