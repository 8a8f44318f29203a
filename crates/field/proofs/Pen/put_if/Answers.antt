-- `put_if`: the field where it is there, else nothing.
use Rattle.basics.specs.Choice.{pick}
use Rattle.field.proofs.Pens.{lays_none, lays_one}
use Rattle.field.proofs.Pen.put_if.Goals as goal

pub returns-then-held : goal.returns-then-held
unfolding pick
returns-then-held c = rw c.if-held.true (lays_one c.put.ensures)

pub returns-else-held : goal.returns-else-held
unfolding pick
returns-else-held c = rw c.if-held.false (lays_none _)
