use Rattle.mask.specs.Rising.{disks_left}
use Rattle.capacity.specs.Rated.{Enough}
use Rattle.capacity.proofs.Rooms.{Left}
use Rattle.capacity.proofs.enough.Given as goal

abbrev pub invariant-loop-d : goal.invariant-loop-d
invariant-loop-d l = Left l.n l.x (disks_left l.d-iterator) × Enough l.n l.rates l.t l.x l.more l.high
