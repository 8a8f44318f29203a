-- `refuse`: the refusal's number is the one that it converts into.
use Rattle.line.proofs.refuse.Goals as goal

pub returns : goal.returns
returns c = rw c.from.ensures at c.say.ensures
