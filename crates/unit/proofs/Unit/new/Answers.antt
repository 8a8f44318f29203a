-- A table made anew is the empty one.
use Rattle.unit.proofs.Lives.{new_anew}
use Rattle.unit.proofs.Unit.new.Goals as goal

pub returns : goal.returns
returns c = new_anew _ _ c.empty.ensures
