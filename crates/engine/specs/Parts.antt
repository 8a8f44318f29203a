-- What the private functions promise.
--     Stored, Listed            places and blocks into the lent buffers
--     Fresh                     a case, and nothing in the other lists
--     Naming, Named             the short set in the lent buffer
--     Sorted                    the first schedule in the lent buffer
--     Solving, Solved           the whole plan in both
use Rattle.std.specs.Prelude.{ℕ, ◌-◌, ◌≤◌, ◌<◌, ◌≡◌, List, get_or, length, take}
use Rattle.basics.specs.Limits.{disks_most, blocks_most, places_most}
use Rattle.basics.specs.Lists.{listed}
use Rattle.model.specs.Case.{capacity_at}
use Rattle.model.specs.Order.{FirstOf}
use Rattle.model.specs.Shortfall.{ShortSet}
use Rattle.places.specs.Places.{entry, holds, Possible}
use Rattle.places.specs.Table.{masked_case, Table, Copies}
use Rattle.places.specs.Among.{among}
use Rattle.places.specs.Seats.{Empty}
use Rattle.timing.specs.Times.{Timed}
use Rattle.engine.specs.Spelled.{Loaded}
use Rattle.engine.specs.Planned.{Front, Planned}
use Rattle.engine.specs.declared.Found.{Found}

-- the first q entries are the places, and the rest is as it was
pub record Stored (q : ℕ) (seats disks disks' : List ℕ) : Type 0 where
  pub same : (b : ℕ) → b < q → get_or disks' b 0 ≡ get_or seats b 0
  pub rest : (b : ℕ) → q ≤ b → get_or disks' b 0 ≡ get_or disks b 0
  pub long : length disks' ≡ length disks

-- the blocks below q whose copies all lie in x, rising
pub record Listed (q : ℕ) (masks : List ℕ) (x : ℕ) (short short' : List ℕ) (m : ℕ) : Type 0 where
  pub set : Front q m short short'
  pub same : (b : ℕ) → b < q → listed (take m short') b ≡ among masks x b

-- a case, and lists with no block placed
pub record Fresh (n q : ℕ) (masks costs starts caps seats counts next prev out : List ℕ) : Type 0 where
  pub table : Table n costs starts
  pub copies : Copies n q masks
  pub long : length caps ≡ disks_most
  pub empty : Empty n q seats counts next prev
  pub wide : length out ≡ places_most

-- a schedule in time t, and a buffer with room for every block
pub record Naming (n q : ℕ) (masks costs starts : List ℕ) (t : ℕ) (caps seats counts next prev out short : List ℕ) : Type 0 where
  pub table : Table n costs starts
  pub copies : Copies n q masks
  pub timed : Timed n q masks costs starts t caps seats counts next prev out
  pub fits : q ≤ length short

-- the short set just before t, rising, and a schedule in time t
pub record Named (n q : ℕ) (masks costs starts : List ℕ) (t : ℕ) (caps seats counts next prev out short short' : List ℕ) (m : ℕ)
    : Type 0 where
  pub set : Front q m short short'
  pub smallest : ShortSet n q (holds masks) (capacity_at (masked_case n q masks costs starts) (t - 1)) (listed (take m short'))
  pub timed : Timed n q masks costs starts t caps seats counts next prev out

-- the first schedule in the buffer
pub record Sorted (n q : ℕ) (masks caps disks disks' : List ℕ) : Type 0 where
  pub first : FirstOf q (Possible n q masks caps) (entry disks')
  pub rest : (b : ℕ) → q ≤ b → get_or disks' b 0 ≡ get_or disks b 0
  pub long : length disks' ≡ length disks

-- a case, nothing in the other lists, and buffers with room for every block
pub record Solving (n q : ℕ) (masks costs starts caps seats counts next prev out disks short : List ℕ) : Type 0 where
  pub fresh : Fresh n q masks costs starts caps seats counts next prev out
  pub long : length masks ≡ blocks_most
  pub disks_room : q ≤ length disks
  pub short_room : q ≤ length short

-- the plan of whatever copies the masks were loaded from
abbrev pub Solved : ℕ → List ℕ → List ℕ → List ℕ → List ℕ → List ℕ → List ℕ → List ℕ → Found → Type 0
Solved q masks costs starts disks short disks' short' r =
    (copies : List ℕ) → length copies ≡ q → Loaded copies masks → Planned copies costs starts disks short disks' short' r
