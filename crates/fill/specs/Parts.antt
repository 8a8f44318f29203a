-- What the private function promises.
--     Ground     blocks placed one after another, and the disks that stuck ones have reached
use Rattle.std.specs.Prelude.{ℕ, ◌<◌, ◌≡◌, Bool, true, false, List, get_or, length}
use Rattle.basics.specs.Limits.{places_most}
use Rattle.mask.specs.Has.{has}
use Rattle.model.specs.Assignment.{Within}
use Rattle.model.specs.Shortfall.{touches}
use Rattle.places.specs.Places.{entry, holds}
use Rattle.places.specs.Among.{Inside}
use Rattle.places.specs.Seats.{Seated}
use Rattle.places.specs.Room.{Open}
use Rattle.search.specs.Search.{Owning}

-- the blocks before b have been tried: those left over have all copies on closed disks, which are full and own the blocks there
pub record Ground (n q b : ℕ) (masks caps seats counts next prev out by : List ℕ) (room closed : ℕ) : Type 0 where
  pub seated : Seated n q 0 masks seats counts next prev out
  pub low : (i e : ℕ) → i < q → holds masks i e ≡ true → e < n
  pub long : length by ≡ places_most
  pub within : Within n q (entry caps) (entry seats)
  pub opened : Open n caps counts room
  pub small : (d : ℕ) → has closed d ≡ true → d < n
  pub full : (d : ℕ) → has closed d ≡ true → has room d ≡ false
  pub owns : (i : ℕ) → i < q → has closed (get_or seats i 0) ≡ true → Inside (get_or masks i 0) closed
  pub left : (i : ℕ) → i < b → i < q → get_or seats i 0 ≡ n → Inside (get_or masks i 0) closed
  pub least : (S : ℕ → Bool) → ((i : ℕ) → i < b → i < q → get_or seats i 0 ≡ n → S i ≡ true) → Owning q masks seats closed S
      → (d : ℕ) → has closed d ≡ true → touches q (holds masks) S d ≡ true
