-- Each return is one law of `tenancy_of`.
use Rattle.unit.proofs.Lives.{tenancy_rented, tenancy_free}
use mathlib.Core.Path.{sym}
use Rattle.unit.proofs.Unit.tenancy.Goals as goal

pub returns-then-self : goal.returns-then-self
returns-then-self c = sym (tenancy_rented _ c.if-self.true)

pub returns-else-self : goal.returns-else-self
returns-else-self c = sym (tenancy_free _ c.if-self.false)
