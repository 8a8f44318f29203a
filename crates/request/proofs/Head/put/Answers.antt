-- `put` meets its contract: the opening, the age behind it, and Q behind that.
use Rattle.field.proofs.Pens.{lays_one, lays_join}
use Rattle.request.specs.Draft.{age_bytes, heading_bytes}
use Rattle.request.proofs.Head.put.Goals as goal

pub returns : goal.returns
unfolding age_bytes heading_bytes
returns c = lays_join c.opening.ensures (lays_join c.put_if.ensures (lays_one c.put.ensures))
