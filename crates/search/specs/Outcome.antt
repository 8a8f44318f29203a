-- What the public functions of the search take and leave, by the case of their answer.
--     Seeking, Improved    one block that is on no disk: it is on one now (Gained), or nothing has changed (Blocked)
--     More                 what that is to capacities: one disk that had room reads one block more
use Rattle.std.specs.Prelude.{ℕ, ◌+◌, ◌≤◌, ◌<◌, ◌≡◌, true, false, List, get_or, length}
use Rattle.basics.specs.Limits.{places_most}
use Rattle.mask.specs.Has.{has}
use Rattle.model.specs.Assignment.{Within}
use Rattle.places.specs.Places.{entry, Placed, Kept}
use Rattle.places.specs.Among.{Inside}
use Rattle.places.specs.Seats.{Far, Seated}
use Rattle.search.specs.Search.{Caught, Drawn}
use Rattle.search.specs.declared.Hit.{Hit}
use Rattle.search.specs.declared.Hit.TheVariants.{Free, Stuck}

-- block b is on no disk; the blocks before bound are bound to their disk; the disks of base have no room, and the blocks there have
-- all copies there
pub record Seeking (n q b base bound : ℕ) (masks seats counts : List ℕ) (room : ℕ) (next prev out by : List ℕ) : Type 0 where
  pub seated : Seated n q bound masks seats counts next prev out
  pub kept : Kept n q bound masks seats
  pub long : length by ≡ places_most
  pub block : b < q
  pub free : bound ≤ b
  pub off : get_or seats b 0 ≡ n
  pub base_small : (d : ℕ) → has base d ≡ true → d < n
  pub base_full : (d : ℕ) → has base d ≡ true → has room d ≡ false
  pub base_owns : (i : ℕ) → i < q → has base (get_or seats i 0) ≡ true → Inside (get_or masks i 0) base

-- block b is on a disk, and disk d, which had room, has one block more
pub record Gained (n q b base bound : ℕ) (masks seats counts : List ℕ) (room : ℕ) (seats' counts' next' prev' out' by' : List ℕ) (d : ℕ)
    : Type 0 where
  pub drawn : Drawn n q b base bound d masks seats counts seats' counts' next' prev' out'
  pub disk : d < n
  pub had : has room d ≡ true
  pub long : length by' ≡ places_most

-- nothing has changed but what out has too much, and there is no way
pub record Blocked (n q b base bound : ℕ) (masks seats counts : List ℕ) (room : ℕ) (next prev seats' counts' next' prev' out' by' : List ℕ)
    (x : ℕ) : Type 0 where
  pub same_seats : seats' ≡ seats
  pub same_counts : counts' ≡ counts
  pub same_next : next' ≡ next
  pub same_prev : prev' ≡ prev
  pub far : Far n q bound masks seats out'
  pub long : length by' ≡ places_most
  pub caught : Caught n q b base masks seats (has room) x

-- one of the two, by the answer
unfoldable pub Improved : (n q b base bound : ℕ) (masks seats counts : List ℕ) (room : ℕ) (next prev : List ℕ)
    (seats' counts' next' prev' out' by' : List ℕ) → Hit → Type 0
Improved n q b base bound masks seats counts room next prev seats' counts' next' prev' out' by' (Free d steps) =
    Gained n q b base bound masks seats counts room seats' counts' next' prev' out' by' d
Improved n q b base bound masks seats counts room next prev seats' counts' next' prev' out' by' (Stuck x) =
    Blocked n q b base bound masks seats counts room next prev seats' counts' next' prev' out' by' x

-- one block less is on no disk, and disk d, which had room, has one more; the other disks read as many as before
pub record More (n q : ℕ) (masks caps counts seats' counts' : List ℕ) (d : ℕ) : Type 0 where
  pub placed : Placed n q masks seats' counts'
  pub within : Within n q (entry caps) (entry seats')
  pub fewer : get_or counts n 0 ≡ get_or counts' n 0 + 1
  pub disk : d < n
  pub room : get_or counts d 0 < get_or caps d 0
  pub same : (e : ℕ) → e < n → (e ≡ d → ⊥) → get_or counts' e 0 ≡ get_or counts e 0
