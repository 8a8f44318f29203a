-- `width_if`: the field's bytes where it is there, else none.
use mathlib.Core.Path.{refl}
use Rattle.basics.specs.Choice.{pick}
use Rattle.number.specs.Encode.{width_of}
use Rattle.field.proofs.width_if.Goals as goal

pub returns-then-held : goal.returns-then-held
unfolding pick width_of
returns-then-held c = rw c.if-held.true c.width.ensures

pub returns-else-held : goal.returns-else-held
unfolding pick
returns-else-held c = rw c.if-held.false refl
