-- Sets of blocks and their shortfall, over n disks, q blocks, any copies and any capacity of each disk.
--     touches      whether a disk holds a copy of a block of the set
--     size, room   the set's size; the capacities of the disks that it touches
--     Short        the shortfall, size less room, is above 0
--     NoShorter    one set's shortfall is at most another's
--     Greatest     no set has a greater shortfall
--     ShortSet     of the sets with the greatest shortfall, the one contained in all others
use Rattle.std.specs.Prelude.{ℕ, ◌+◌, ◌≤◌, ◌<◌, ◌≡◌, Bool, true, ◌&&◌}
use Rattle.basics.specs.Count.{sum, count, any, gate}

-- whether disk d holds a copy of any block of the set S
unfoldable pub touches : ℕ → (ℕ → ℕ → Bool) → (ℕ → Bool) → ℕ → Bool
touches q copy S d = any q (λ b. S b && copy b d)

-- how many of the q blocks are in the set S
unfoldable pub size : ℕ → (ℕ → Bool) → ℕ
size q S = count q S

-- the sum of capacities of all disks that hold a copy of any block of S
unfoldable pub room : ℕ → ℕ → (ℕ → ℕ → Bool) → (ℕ → ℕ) → (ℕ → Bool) → ℕ
room n q copy capacities S = sum n (λ d. gate (touches q copy S d) (capacities d))

-- every block of S is in S'
unfoldable pub Sub : ℕ → (ℕ → Bool) → (ℕ → Bool) → Type 0
Sub q S S' = (b : ℕ) → b < q → S b ≡ true → S' b ≡ true

-- the shortfall of S, its size less its room, is above 0
unfoldable pub Short : ℕ → ℕ → (ℕ → ℕ → Bool) → (ℕ → ℕ) → (ℕ → Bool) → Type 0
Short n q copy capacities S = room n q copy capacities S < size q S

-- the shortfall of S' is at most that of S: size S' - room S' ≤ size S - room S, added across since a shortfall may be negative
unfoldable pub NoShorter : ℕ → ℕ → (ℕ → ℕ → Bool) → (ℕ → ℕ) → (ℕ → Bool) → (ℕ → Bool) → Type 0
NoShorter n q copy capacities S' S =
    size q S' + room n q copy capacities S ≤ size q S + room n q copy capacities S'

-- no set has a greater shortfall than S
unfoldable pub Greatest : ℕ → ℕ → (ℕ → ℕ → Bool) → (ℕ → ℕ) → (ℕ → Bool) → Type 0
Greatest n q copy capacities S = (S' : ℕ → Bool) → NoShorter n q copy capacities S' S

-- of the sets with the greatest shortfall, the one contained in all others of them
pub record ShortSet (n q : ℕ) (copy : ℕ → ℕ → Bool) (capacities : ℕ → ℕ) (S : ℕ → Bool) : Type 0 where
  pub greatest : Greatest n q copy capacities S
  pub least : (S' : ℕ → Bool) → Greatest n q copy capacities S' → Sub q S S'
