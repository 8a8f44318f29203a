-- The first schedule, out of any.
--     Scheduled   every block is on a disk, within the capacities, and in the ring of its disk
--     Ordered     the first schedule of the same copies within the same capacities
use Rattle.std.specs.Prelude.{ℕ, ◌<◌, ◌≡◌, true, List, get_or, length}
use Rattle.basics.specs.Limits.{blocks_most}
use Rattle.model.specs.Assignment.{Within}
use Rattle.model.specs.Order.{FirstOf}
use Rattle.places.specs.Places.{entry, holds, Possible}
use Rattle.places.specs.Seats.{Seated}

-- every block is on a disk that holds a copy of it, within the capacities, and in the ring of that disk
pub record Scheduled (n q : ℕ) (masks caps seats counts next prev out : List ℕ) : Type 0 where
  pub seated : Seated n q 0 masks seats counts next prev out
  pub within : Within n q (entry caps) (entry seats)
  pub small : (b d : ℕ) → b < q → holds masks b d ≡ true → d < n
  pub whole : get_or counts n 0 ≡ 0
  pub long : length masks ≡ blocks_most

-- seats hold the first schedule
pub record Ordered (n q : ℕ) (masks caps seats : List ℕ) : Type 0 where
  pub disks : (b : ℕ) → b < q → get_or seats b 0 < n
  pub first : FirstOf q (Possible n q masks caps) (entry seats)
