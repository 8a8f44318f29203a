-- `waits`: 1 alone may be completed.
use mathlib.Core.Path.{sym, ◌∙◌}
use mathlib.Core.Bool.{true, false}
use Rattle.service.proofs.Others.{waits_first}
use Rattle.service.proofs.waits.Goals as goal

pub returns-then-eq : goal.returns-then-eq
returns-then-eq c = waits_first _ _ _ true (sym c.if-eq.true ∙ c.eq.ensures)

pub returns-else-eq : goal.returns-else-eq
returns-else-eq c = c.if-eq.false ∙ waits_first _ _ _ false (sym c.if-eq.false ∙ c.eq.ensures)
