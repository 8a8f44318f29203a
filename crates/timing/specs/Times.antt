-- What the least time and the short set are, in lists.
--     Blank               a case, and no block on any disk
--     Timed               a schedule in a time
--     Least               that time is the least: a set is short just before it
--     ShortDisks          the disks of the short set at a time
--     Restored            the short set just before a time, and a schedule in that time again
use Rattle.std.specs.Prelude.{ℕ, ◌-◌, ◌≤◌, ◌<◌, ◌≡◌, Bool, List, get_or, length}
use Rattle.basics.specs.Limits.{disks_most, time_most}
use Rattle.model.specs.Case.{capacity_at}
use Rattle.model.specs.Shortfall.{ShortSet}
use Rattle.model.specs.Time.{ShortAt}
use Rattle.places.specs.Places.{holds}
use Rattle.places.specs.Table.{masked_case, Table, Copies}
use Rattle.places.specs.Among.{among}
use Rattle.places.specs.Seats.{Seated}
use Rattle.fill.specs.Packed.{Packing}
use Rattle.capacity.specs.Capacities.{Capacities}

-- a case, and no block on any disk
pub record Blank (n q : ℕ) (masks costs starts caps seats counts next prev out : List ℕ) : Type 0 where
  pub table : Table n costs starts
  pub copies : Copies n q masks
  pub long : length caps ≡ disks_most
  pub seated : Seated n q 0 masks seats counts next prev out
  pub off : (b : ℕ) → b < q → get_or seats b 0 ≡ n

-- every block is on a disk, within the capacities at time t
pub record Timed (n q : ℕ) (masks costs starts : List ℕ) (t : ℕ) (caps seats counts next prev out : List ℕ) : Type 0 where
  pub ready : Packing n q masks caps seats counts next prev out
  pub whole : get_or counts n 0 ≡ 0
  pub caps_at : Capacities n costs starts t caps

-- a schedule in time t, and a set that is short just before t
pub record Least (n q : ℕ) (masks costs starts caps seats counts next prev out : List ℕ) (t : ℕ) : Type 0 where
  pub timed : Timed n q masks costs starts t caps seats counts next prev out
  pub time : t ≤ time_most
  pub lower : 0 < t → (S : ℕ → Bool) × ShortAt (masked_case n q masks costs starts) (t - 1) S

-- the blocks whose copies all lie in x are the short set at t
abbrev pub ShortDisks : ℕ → ℕ → List ℕ → List ℕ → List ℕ → ℕ → ℕ → Type 0
ShortDisks n q masks costs starts t x =
    ShortSet n q (holds masks) (capacity_at (masked_case n q masks costs starts) t) (among masks x)

-- x has the disks of the short set just before t, and there is a schedule in time t, perhaps another one
pub record Restored (n q : ℕ) (masks costs starts : List ℕ) (t : ℕ) (caps seats counts next prev out : List ℕ) (x : ℕ) : Type 0 where
  pub short : ShortDisks n q masks costs starts (t - 1) x
  pub timed : Timed n q masks costs starts t caps seats counts next prev out
