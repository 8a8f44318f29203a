-- Capacities at a time.
--     Capacities     a list of each disk's capacity
--     Small          a mask of disks below n
--     room_of         the capacities of some disks, summed
--     Awaited        disks that come to have room for so many blocks more
--     FirstRoom      the first time at which they have
use Rattle.std.specs.Prelude.{ℕ, ◌+◌, ◌-◌, ◌≤◌, ◌<◌, ◌≡◌, true, List, get_or, length}
use Rattle.basics.specs.Limits.{disks_most, blocks_most, time_most}
use Rattle.mask.specs.Has.{has}
use Rattle.basics.specs.Count.{sum, gate}
use Rattle.model.specs.Capacity.{capacity}
use Rattle.places.specs.Table.{Table}

-- caps has each disk's capacity at time t
pub record Capacities (n : ℕ) (costs starts : List ℕ) (t : ℕ) (caps : List ℕ) : Type 0 where
  pub long : length caps ≡ disks_most
  pub each : (d : ℕ) → d < n → get_or caps d 0 ≡ capacity (get_or starts d 0) (get_or costs d 0) t

-- every disk of x is below n
abbrev pub Small : ℕ → ℕ → Type 0
Small n x = (d : ℕ) → has x d ≡ true → d < n

-- the capacities at time t of the disks of x, summed
abbrev pub room_of : ℕ → List ℕ → List ℕ → ℕ → ℕ → ℕ
room_of n costs starts x t = sum n (λ d. gate (has x d) (capacity (get_or starts d 0) (get_or costs d 0) t))

-- at the end of all times, if not sooner, the disks of x have room for so many blocks more than at t
pub record Awaited (n : ℕ) (costs starts : List ℕ) (t x more : ℕ) : Type 0 where
  pub table : Table n costs starts
  pub small : Small n x
  pub some : 0 < more
  pub few : more ≤ blocks_most
  pub last : room_of n costs starts x t + more ≤ room_of n costs starts x time_most

-- r is the first time at which they have that room: they have it at r, and not just before
pub record FirstRoom (n : ℕ) (costs starts : List ℕ) (t x more r : ℕ) : Type 0 where
  pub later : t < r
  pub time : r ≤ time_most
  pub after : room_of n costs starts x t + more ≤ room_of n costs starts x r
  pub before : room_of n costs starts x (r - 1) < room_of n costs starts x t + more
