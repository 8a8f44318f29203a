-- As many blocks on disks as there is room for.
--     Reached             what those left over reach: the disks of the short set
--     Packing             what it takes
--     MostPlaced, Packed     what it leaves
use Rattle.std.specs.Prelude.{ℕ, ◌<◌, ◌≡◌, ◌⊎◌, Bool, true, false, List, get_or}
use Rattle.mask.specs.Has.{has}
use Rattle.model.specs.Assignment.{Within}
use Rattle.model.specs.Shortfall.{touches}
use Rattle.model.specs.Closed.{Closed}
use Rattle.places.specs.Places.{entry, holds, roomy, Placed}
use Rattle.places.specs.Among.{Inside}
use Rattle.places.specs.Seats.{Seated}

-- the reached disks x have no room, the blocks on them and on none have all copies there, and every closed set touches them
pub record Reached (n q : ℕ) (masks seats : List ℕ) (room : ℕ → Bool) (x : ℕ) : Type 0 where
  pub small : (d : ℕ) → has x d ≡ true → d < n
  pub full : (d : ℕ) → has x d ≡ true → room d ≡ false
  pub owns : (b : ℕ) → b < q → (get_or seats b 0 ≡ n) ⊎ (has x (get_or seats b 0) ≡ true) → Inside (get_or masks b 0) x
  pub least : (capacities : ℕ → ℕ) (S : ℕ → Bool) → Closed n q (holds masks) capacities (entry seats) S
      → (d : ℕ) → has x d ≡ true → touches q (holds masks) S d ≡ true

-- blocks are placed within the capacities, and copies lie on disks below n
pub record Packing (n q : ℕ) (masks caps seats counts next prev out : List ℕ) : Type 0 where
  pub seated : Seated n q 0 masks seats counts next prev out
  pub within : Within n q (entry caps) (entry seats)
  pub small : (b d : ℕ) → b < q → holds masks b d ≡ true → d < n

-- as many blocks as there is room for are on disks, and x is what the rest reach
pub record MostPlaced (n q : ℕ) (masks caps seats counts : List ℕ) (x : ℕ) : Type 0 where
  pub placed : Placed n q masks seats counts
  pub within : Within n q (entry caps) (entry seats)
  pub stuck : Reached n q masks seats (roomy caps counts) x

-- the same, with rings and out
pub record Packed (n q : ℕ) (masks caps seats counts next prev out : List ℕ) (x : ℕ) : Type 0 where
  pub filled : MostPlaced n q masks caps seats counts x
  pub seated : Seated n q 0 masks seats counts next prev out
