use Prim.Native.Nat.{◌+◌}
use mathlib.Core.Path.{◌≡◌}
use Rattle.mask.specs.Rising.{disks_left}
use Rattle.capacity.specs.Rated.{room_of}
use Rattle.capacity.proofs.Rooms.{Left, rooms}
use Rattle.capacity.proofs.room_at.Given as goal

abbrev pub invariant-loop-d : goal.invariant-loop-d
invariant-loop-d l =
    Left l.n l.x (disks_left l.d-iterator)
    × (l.total + rooms l.rates.costs.now l.rates.starts.now l.t (disks_left l.d-iterator) ≡ room_of l.n l.rates l.x l.t)
