-- `unserved`: more bytes wanted, a clean end, or a damaged stream.
use mathlib.Core.Path.{sym, ◌∙◌}
use Rattle.service.proofs.Serving.{turned_wants, turned_clean, turned_stopped}
use Rattle.service.proofs.unserved.Goals as goal

pub returns-then-waits : goal.returns-then-waits
returns-then-waits c = turned_wants _ _ _ _ _ (sym c.waits.ensures ∙ c.if-waits.true)

pub returns-then-not-between_calls : goal.returns-then-not-between_calls
returns-then-not-between_calls c =
    turned_stopped _ _ _ _ (sym c.waits.ensures ∙ c.if-waits.false)
    (sym c.between_calls.ensures ∙ c.if-not-between_calls.true) (rw c.from.ensures at c.say.ensures)

pub returns-else-not-between_calls : goal.returns-else-not-between_calls
returns-else-not-between_calls c =
    turned_clean _ _ _ _ (sym c.waits.ensures ∙ c.if-waits.false) _
    (sym c.between_calls.ensures ∙ c.if-not-between_calls.false)
