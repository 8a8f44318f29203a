-- What the private functions promise.
--     count_from                 how many blocks from b on have all copies on some disks
--     SoFar                     blocks placed one after another, the time raised where one was stuck
--     Tight                     a block whose copies have no room
--     Raising, Raised           a later time, since some disks are full
--     Turned                    one block placed, or a later time
--     Filling, FilledAt         as many blocks as there is room for at a time
use Rattle.std.specs.Prelude.{ℕ, ◌+◌, ◌-◌, ◌≤◌, ◌<◌, ◌≡◌, Bool, true, false, ◌&&◌, List, leb, get_or, length}
use Rattle.basics.specs.Limits.{disks_most, blocks_most, places_most, time_most}
use Rattle.mask.specs.Has.{has}
use Rattle.model.specs.Assignment.{Within}
use Rattle.basics.specs.Count.{count}
use Rattle.model.specs.Time.{ShortAt}
use Rattle.places.specs.Places.{entry, holds}
use Rattle.places.specs.Table.{masked_case, Table, Copies}
use Rattle.places.specs.Among.{among}
use Rattle.places.specs.Seats.{Seated}
use Rattle.places.specs.Room.{Open}
use Rattle.fill.specs.Packed.{Packed}
use Rattle.capacity.specs.Capacities.{Capacities, Awaited, FirstRoom}
use Rattle.timing.specs.declared.Moment.{Moment}

-- how many of the blocks from b on have all copies in x
abbrev pub count_from : ℕ → ℕ → List ℕ → ℕ → ℕ
count_from b q masks x = count q (λ i. among masks x i && leb b i)

-- the blocks below b are on disks within the capacities at t, those from b on are on none, room has the disks that have room, and
-- a set is short just before t
pub record SoFar (n q b : ℕ) (masks costs starts caps seats counts next prev out by : List ℕ) (t room : ℕ) : Type 0 where
  pub table : Table n costs starts
  pub copies : Copies n q masks
  pub seated : Seated n q 0 masks seats counts next prev out
  pub within : Within n q (entry caps) (entry seats)
  pub opened : Open n caps counts room
  pub caps_at : Capacities n costs starts t caps
  pub on : (i : ℕ) → i < b → i < q → get_or seats i 0 < n
  pub off : (i : ℕ) → b ≤ i → i < q → get_or seats i 0 ≡ n
  pub time : t ≤ time_most
  pub lower : 0 < t → (S : ℕ → Bool) × ShortAt (masked_case n q masks costs starts) (t - 1) S
  pub long : length by ≡ places_most

-- no copy of block b is on a disk that has room
abbrev pub Tight : ℕ → List ℕ → ℕ → Type 0
Tight b masks room = (e : ℕ) → holds masks b e ≡ true → has room e ≡ false

-- the disks of x are awaited by the blocks from b on that have all copies there
pub record Raising (n q b : ℕ) (masks costs starts : List ℕ) (t x : ℕ) (caps : List ℕ) : Type 0 where
  pub awaited : Awaited n costs starts t x (count_from b q masks x)
  pub begins : b ≤ q
  pub blocks : q ≤ blocks_most
  pub long : length caps ≡ disks_most

-- the first time at which there is room for all these blocks, the capacities then, and the disks that have room
pub record Raised (n q b : ℕ) (masks costs starts : List ℕ) (t x : ℕ) (caps' counts : List ℕ) (r : Moment) : Type 0 where
  pub first : FirstRoom n costs starts t x (count_from b q masks x) r.time
  pub caps_at : Capacities n costs starts r.time caps'
  pub opened : Open n caps' counts r.room

-- block b is on a disk, or on none and the time is later
pub record Turned (n q b : ℕ) (masks costs starts : List ℕ) (t : ℕ) (caps' seats' counts' next' prev' out' by' : List ℕ) (r : Moment)
    : Type 0 where
  pub placed : (get_or seats' b 0 ≡ n → ⊥)
      → SoFar n q (b + 1) masks costs starts caps' seats' counts' next' prev' out' by' r.time r.room × (r.time ≡ t)
  pub raised : get_or seats' b 0 ≡ n
      → SoFar n q b masks costs starts caps' seats' counts' next' prev' out' by' r.time r.room × (t < r.time)

-- a case, its blocks anywhere
pub record Filling (n q : ℕ) (masks costs starts caps seats counts next prev out : List ℕ) : Type 0 where
  pub table : Table n costs starts
  pub copies : Copies n q masks
  pub long : length caps ≡ disks_most
  pub seated : Seated n q 0 masks seats counts next prev out

-- as many blocks as there is room for at time t are on disks, and x is what the rest reach
pub record FilledAt (n q : ℕ) (masks costs starts : List ℕ) (t : ℕ) (caps seats counts next prev out : List ℕ) (x : ℕ) : Type 0 where
  pub caps_at : Capacities n costs starts t caps
  pub packed : Packed n q masks caps seats counts next prev out x
