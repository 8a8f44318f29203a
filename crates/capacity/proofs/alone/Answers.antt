-- `capacity::alone` meets its contract.
use Rattle.capacity.proofs.Rooms.{alone_at}
use Rattle.capacity.proofs.alone.Goals as goal

pub returns : goal.returns
returns c = rw c.max.ensures (alone_at c.requires.0)
