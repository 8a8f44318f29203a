-- `opening`: three fields, one behind the other.
use Rattle.field.specs.Put.{opening_bytes}
use Rattle.field.proofs.Pens.{lays_one, lays_join}
use Rattle.field.proofs.Pen.opening.Goals as goal

pub returns : goal.returns
unfolding opening_bytes
returns c = lays_join (lays_one c.put.ensures) (lays_join (lays_one c.put-2.ensures) (lays_one c.put-3.ensures))
