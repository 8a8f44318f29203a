-- The opening, N behind it, and the rule's number behind that.
use Rattle.field.proofs.Pens.{lays_one, lays_join}
use Rattle.settings.specs.Draft.{heading_bytes}
use Rattle.settings.specs.Row.{marked_bytes}
use Rattle.settings.proofs.put_heading.Goals as goal

pub returns : goal.returns
unfolding heading_bytes marked_bytes
returns c =
    lays_join (rw c.into.ensures at c.opening.ensures)
    (lays_join (lays_one c.put.ensures) (rw c.marked.ensures at c.put_if.ensures))
