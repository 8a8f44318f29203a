-- The search over disks and displaced blocks.
--     Owning           a set that has every block on a reached disk that it touches
--     Caught           one block found no room: the reached disks are full and closed
--     Drawn            one block found room: what the way back along the steps leaves
use Rattle.std.specs.Prelude.{ℕ, ◌+◌, ◌≤◌, ◌<◌, ◌≡◌, ◌⊎◌, Bool, true, false, List, get_or, eqb}
use Rattle.mask.specs.Has.{has}
use Rattle.basics.specs.Count.{bit}
use Rattle.model.specs.Shortfall.{touches}
use Rattle.places.specs.Places.{holds}
use Rattle.places.specs.Among.{Inside}
use Rattle.places.specs.Seats.{Seated}

-- a set that has every block on a disk of x that it touches
abbrev pub Owning : ℕ → List ℕ → List ℕ → ℕ → (ℕ → Bool) → Type 0
Owning q masks seats x S =
    (i : ℕ) → i < q → has x (get_or seats i 0) ≡ true → touches q (holds masks) S (get_or seats i 0) ≡ true → S i ≡ true

-- the reached disks x have no room, b and the blocks on them have all copies there, and every owning set that has b and touches base
-- touches them
pub record Caught (n q b base : ℕ) (masks seats : List ℕ) (room : ℕ → Bool) (x : ℕ) : Type 0 where
  pub over : Inside base x
  pub small : (d : ℕ) → has x d ≡ true → d < n
  pub full : (d : ℕ) → has x d ≡ true → room d ≡ false
  pub owns : (i : ℕ) → i < q → (i ≡ b) ⊎ (has x (get_or seats i 0) ≡ true) → Inside (get_or masks i 0) x
  pub least : (S : ℕ → Bool) → S b ≡ true → ((d : ℕ) → has base d ≡ true → touches q (holds masks) S d ≡ true)
      → Owning q masks seats x S → (d : ℕ) → has x d ≡ true → touches q (holds masks) S d ≡ true

-- b is on a disk: the room that start had has come back along the steps to it. No block has come to base or gone from it, no other
-- block has come to a disk that was on none, and none has gone from all disks
pub record Drawn (n q b base bound start : ℕ) (masks seats counts seats' counts' next' prev' out' : List ℕ) : Type 0 where
  pub seated : Seated n q bound masks seats' counts' next' prev' out'
  pub shifted : (e : ℕ) → e ≤ n → get_or counts' e 0 + bit (eqb e n) ≡ get_or counts e 0 + bit (eqb e start)
  pub stay : (i : ℕ) → i < q
      → (get_or seats' i 0 ≡ get_or seats i 0) ⊎ ((has base (get_or seats i 0) ≡ false) × (has base (get_or seats' i 0) ≡ false))
  pub here : get_or seats' b 0 < n
  pub on : (i : ℕ) → i < q → get_or seats' i 0 ≡ n → get_or seats i 0 ≡ n
  pub others : (i : ℕ) → i < q → (i ≡ b → ⊥) → get_or seats i 0 ≡ n → get_or seats' i 0 ≡ n
