-- The two numbers of demand 3: the least time over schedules, and the greatest earliest time over sets.
--     LeastTime             the least time (001, Lemma 5.2: the first time whose capacities let all blocks through)
--     members, room_at, ShortAt     a set's size, and its room at a time; whether it is short then
--     Earliest, GreatestEarliest   the first time at which a set is not short; the greatest of these
--     Certificate           what shows that a schedule's time is the least: a set short one microsecond before
use Rattle.std.specs.Prelude.{ℕ, ◌-◌, ◌≤◌, ◌<◌, ◌≡◌, Bool}
use Rattle.model.specs.Case.{Case, Schedule, response, capacity_at}
use Rattle.model.specs.Shortfall.{size, room, Short}

-- R is the least response time of any schedule
pub record LeastTime (m : Case) (R : ℕ) : Type 0 where
  pub lower : (a : ℕ → ℕ) → Schedule m a → R ≤ response m a
  pub reached : (a : ℕ → ℕ) × Schedule m a × (response m a ≡ R)

unfoldable pub members : Case → (ℕ → Bool) → ℕ
members m S = size m.blocks S

-- the sum of capacities at time t of all disks that hold a copy of any block of S
unfoldable pub room_at : Case → ℕ → (ℕ → Bool) → ℕ
room_at m t S = room m.disks m.blocks m.copy (capacity_at m t) S

-- the set S is short at time t
unfoldable pub ShortAt : Case → ℕ → (ℕ → Bool) → Type 0
ShortAt m t S = Short m.disks m.blocks m.copy (capacity_at m t) S

-- t is the earliest time for the set S: the first whole t at which its shortfall is 0 or less
pub record Earliest (m : Case) (S : ℕ → Bool) (t : ℕ) : Type 0 where
  pub enough : members m S ≤ room_at m t S
  pub sooner : (u : ℕ) → members m S ≤ room_at m u S → t ≤ u

-- R is the greatest earliest time of any set with at least one block
pub record GreatestEarliest (m : Case) (R : ℕ) : Type 0 where
  pub upper : (S : ℕ → Bool) (t : ℕ) → 0 < members m S → Earliest m S t → t ≤ R
  pub attained : (S : ℕ → Bool) × (0 < members m S) × Earliest m S R

-- a schedule in time R and a set short at R - 1
pub record Certificate (m : Case) (R : ℕ) (a : ℕ → ℕ) (S : ℕ → Bool) : Type 0 where
  pub schedule : Schedule m a
  pub by_then : response m a ≤ R
  pub short : ShortAt m (R - 1) S
