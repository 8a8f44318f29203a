-- What the private functions promise.
--     Alone      a later time at which one disk has read so many blocks more
--     Enough     a later time at which some disks have room for so many more
use Rattle.std.specs.Prelude.{ℕ, ◌+◌, ◌≤◌, ◌<◌, ◌≡◌, List}
use Rattle.basics.specs.Limits.{time_most}
use Rattle.model.specs.Capacity.{capacity}
use Rattle.capacity.specs.Capacities.{room_of}

-- at r, after t, a disk has read so many blocks more than at t
pub record Alone (start cost t more r : ℕ) : Type 0 where
  pub later : t + more ≤ r
  pub reads : capacity start cost r ≡ capacity start cost t + more

-- at high, after t, the disks of x have room for so many blocks more than at t
pub record Enough (n : ℕ) (costs starts : List ℕ) (t x more high : ℕ) : Type 0 where
  pub later : t < high
  pub time : high ≤ time_most
  pub after : room_of n costs starts x t + more ≤ room_of n costs starts x high
