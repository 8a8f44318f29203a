-- Places of blocks, in lists: seats has each block's disk, or n for none; counts has the number of blocks at each disk, and at n.
--     entry, holds     a list as a function; whether disk d is among the copies of block b
--     roomy            a disk that reads less than its capacity
--     Placed           seats and counts fit together, and each block that is on a disk has a copy there
--     Possible         the schedules within the capacities
--     Movable, Moved   what it takes to move a block, and what that leaves
--     Kept             copies lie on disks below n, and the blocks before a number are bound to their disk
use Rattle.std.specs.Prelude.{ℕ, ◌+◌, ◌≤◌, ◌<◌, ◌≡◌, Bool, true, List, get_or, length, ltb}
use Rattle.basics.specs.Limits.{disks_most, blocks_most, places_most}
use Rattle.mask.specs.Has.{has}
use Rattle.model.specs.Assignment.{reads, Partial, Valid, Within}

-- a list as a function
abbrev pub entry : List ℕ → ℕ → ℕ
entry l i = get_or l i 0

-- whether disk d is among the copies of block b
abbrev pub holds : List ℕ → ℕ → ℕ → Bool
holds masks b d = has (get_or masks b 0) d

-- whether disk d reads less than its capacity
abbrev pub roomy : List ℕ → List ℕ → ℕ → Bool
roomy caps counts d = ltb (get_or counts d 0) (get_or caps d 0)

-- each block is on a disk that holds a copy of it, or at n, and counts has how many are where
pub record Placed (n q : ℕ) (masks seats counts : List ℕ) : Type 0 where
  pub disks : n ≤ disks_most
  pub blocks : q ≤ blocks_most
  pub long_seats : length seats ≡ blocks_most
  pub long_counts : length counts ≡ places_most
  pub low : (b : ℕ) → b < q → get_or seats b 0 ≤ n
  pub copies : Partial n q (holds masks) (entry seats)
  pub tally : (d : ℕ) → d ≤ n → get_or counts d 0 ≡ reads q (entry seats) d

-- the schedules of these copies within these capacities
abbrev pub Possible : ℕ → ℕ → List ℕ → List ℕ → (ℕ → ℕ) → Type 0
Possible n q masks caps a = Valid n q (holds masks) a × Within n q (entry caps) a

-- block b can go to place d
pub record Movable (b d : ℕ) (seats counts : List ℕ) : Type 0 where
  pub block : b < blocks_most
  pub place : d ≤ disks_most
  pub seat : get_or seats b 0 ≤ disks_most
  pub other : get_or seats b 0 ≡ d → ⊥
  pub fits : get_or counts d 0 ≤ blocks_most
  pub some : 0 < get_or counts (get_or seats b 0) 0
  pub long_seats : length seats ≡ blocks_most
  pub long_counts : length counts ≡ places_most

-- block b went from place old to place d, and the counts with it
pub record Moved (b d : ℕ) (seats counts seats' counts' : List ℕ) (old : ℕ) : Type 0 where
  pub from : old ≡ get_or seats b 0
  pub here : get_or seats' b 0 ≡ d
  pub others : (i : ℕ) → (i ≡ b → ⊥) → get_or seats' i 0 ≡ get_or seats i 0
  pub less : get_or counts' old 0 + 1 ≡ get_or counts old 0
  pub more : get_or counts' d 0 ≡ get_or counts d 0 + 1
  pub same : (y : ℕ) → (y ≡ old → ⊥) → (y ≡ d → ⊥) → get_or counts' y 0 ≡ get_or counts y 0
  pub long_seats : length seats' ≡ length seats
  pub long_counts : length counts' ≡ length counts

-- copies lie on disks below n; each block before bound is on its only copy
pub record Kept (n q bound : ℕ) (masks seats : List ℕ) : Type 0 where
  pub begins : bound ≤ q
  pub small : (b d : ℕ) → b < q → holds masks b d ≡ true → d < n
  pub fixed : (b : ℕ) → b < bound → (get_or seats b 0 < n) × ((d : ℕ) → holds masks b d ≡ true → d ≡ get_or seats b 0)
