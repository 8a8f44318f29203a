-- What the private functions of the search promise each other.
--     Brought              disk d is a copy of a block of an earlier step that is not on it
--     Notes                the steps of a search: b first, then blocks on disks that earlier steps brought
--     Seeks                how far a search has come: the reached disks
--     Quiet                the movable blocks on a disk bring nothing new
--     Way                  steps that lead to a disk
--     Visiting, Visited    one disk of a search
--     Sought               a whole search
--     Drawing              the way back along the steps
use Rattle.std.specs.Prelude.{ℕ, ◌+◌, ◌^◌, ◌≤◌, ◌<◌, ◌≡◌, Bool, true, false, Some, None, List, get_or, length}
use Rattle.basics.specs.Limits.{disks_most, places_most}
use Rattle.mask.specs.Has.{has}
use Rattle.mask.specs.Count.{members}
use Rattle.model.specs.Shortfall.{touches}
use Rattle.places.specs.Places.{holds}
use Rattle.places.specs.Among.{Inside}
use Rattle.places.specs.Seats.{Row, Far, Seated}
use Rattle.search.specs.Search.{Owning, Caught}
use Rattle.search.specs.declared.Reach.{Reach}
use Rattle.search.specs.declared.Hit.{Hit}
use Rattle.search.specs.declared.Hit.TheVariants.{Free, Stuck}

-- a step before k is of a block that has a copy on d and is not on d
abbrev pub Brought : List ℕ → List ℕ → List ℕ → ℕ → ℕ → Type 0
Brought masks seats by d k = (i : ℕ) × (i < k) × (holds masks (get_or by i 0) d ≡ true) × (get_or seats (get_or by i 0) 0 ≡ d → ⊥)

-- the steps: b, and then other blocks, each on a disk that an earlier step brought and that is not in base
pub record Notes (n q b base bound : ℕ) (masks seats by : List ℕ) (steps : ℕ) : Type 0 where
  pub some : 0 < steps
  pub first : get_or by 0 0 ≡ b
  pub blocks : (j : ℕ) → j < steps → get_or by j 0 < q
  pub movable : (j : ℕ) → j < steps → bound ≤ get_or by j 0
  pub apart : (i j : ℕ) → i < j → j < steps → get_or by i 0 ≡ get_or by j 0 → ⊥
  pub seat : (j : ℕ) → 0 < j → j < steps → get_or seats (get_or by j 0) 0 < n
  pub away : (j : ℕ) → 0 < j → j < steps → has base (get_or seats (get_or by j 0) 0) ≡ false
  pub brought : (j : ℕ) → 0 < j → j < steps → Brought masks seats by (get_or seats (get_or by j 0) 0) j

-- the reached disks x are full, every owning set that has b and touches base touches them, and each outside base was brought by a step
pub record Seeks (n q b base bound : ℕ) (masks seats : List ℕ) (room : ℕ) (by : List ℕ) (steps x : ℕ) : Type 0 where
  pub long : length by ≡ places_most
  pub fits : x < 2 ^ disks_most
  pub over : Inside base x
  pub few : steps ≤ members disks_most x + 1
  pub notes : Notes n q b base bound masks seats by steps
  pub taken : (j : ℕ) → j < steps → Inside (get_or masks (get_or by j 0) 0) x
  pub came : (d : ℕ) → has x d ≡ true → has base d ≡ false → Brought masks seats by d steps
  pub small : (d : ℕ) → has x d ≡ true → d < n
  pub full : (d : ℕ) → has x d ≡ true → has room d ≡ false
  pub least : (S : ℕ → Bool) → S b ≡ true → ((d : ℕ) → has base d ≡ true → touches q (holds masks) S d ≡ true)
      → Owning q masks seats x S → (d : ℕ) → has x d ≡ true → touches q (holds masks) S d ≡ true

-- the blocks from a number on that are at d have all copies in x
abbrev pub Quiet : ℕ → ℕ → List ℕ → List ℕ → ℕ → ℕ → Type 0
Quiet q bound masks seats d x = (y : ℕ) → bound ≤ y → y < q → get_or seats y 0 ≡ d → Inside (get_or masks y 0) x

-- the steps lead to disk f, which is not in base
pub record Way (n q b base bound : ℕ) (masks seats by : List ℕ) (steps f : ℕ) : Type 0 where
  pub notes : Notes n q b base bound masks seats by steps
  pub here : Brought masks seats by f steps
  pub disk : f < n
  pub beyond : has base f ≡ false

-- a reached disk whose blocks are still to be looked at
pub record Visiting (n q b base bound d : ℕ) (masks seats next out : List ℕ) (room : ℕ) (by : List ℕ) (steps x : ℕ) : Type 0 where
  pub disks : n ≤ disks_most
  pub disk : d < n
  pub row : Row q bound d seats next
  pub seeks : Seeks n q b base bound masks seats room by steps x
  pub reached : has x d ≡ true
  pub beyond : has base d ≡ false
  pub low : (i e : ℕ) → i < q → holds masks i e ≡ true → e < n
  pub far : Far n q bound masks seats out

-- what one disk gives: a way to a disk that has room, or nothing new any more
pub record Visited (n q b base bound d : ℕ) (masks seats : List ℕ) (room x : ℕ) (by' out' : List ℕ) (r : Reach) : Type 0 where
  pub far : Far n q bound masks seats out'
  pub long : length by' ≡ places_most
  pub found : (f : ℕ) → r.free ≡ Some f
      → (r.steps ≤ places_most) × Way n q b base bound masks seats by' r.steps f × (has room f ≡ true)
  pub seeks : r.free ≡ None → Seeks n q b base bound masks seats room by' r.steps r.disks
  pub quiet : r.free ≡ None → Quiet q bound masks seats d r.disks
  pub more : r.free ≡ None → Inside x r.disks

-- steps that lead to a disk that has room, or the reached disks where there is none
unfoldable pub Sought : ℕ → ℕ → ℕ → ℕ → ℕ → List ℕ → List ℕ → ℕ → List ℕ → Hit → Type 0
Sought n q b base bound masks seats room by (Free f k) =
    (k ≤ places_most) × Way n q b base bound masks seats by k f × (has room f ≡ true)
Sought n q b base bound masks seats room by (Stuck x) = Caught n q b base masks seats (has room) x

-- what the way back takes: steps to a disk, b on no disk
pub record Drawing (n q b base bound start steps : ℕ) (masks by seats counts next prev out : List ℕ) : Type 0 where
  pub seated : Seated n q bound masks seats counts next prev out
  pub way : Way n q b base bound masks seats by steps start
  pub few : steps ≤ places_most
  pub off : get_or seats b 0 ≡ n
  pub base_small : (d : ℕ) → has base d ≡ true → d < n
