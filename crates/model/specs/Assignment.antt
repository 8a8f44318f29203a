-- Which disk each block is read from: a function from blocks to disks, looked at for the blocks below q.
-- A number at n or above is no disk, so an assignment may leave blocks unplaced.
use Rattle.std.specs.Prelude.{ℕ, ◌≤◌, ◌<◌, ◌≡◌, Bool, true, eqb}
use Rattle.basics.specs.Count.{count}

-- how many of the q blocks the assignment a reads from disk d
unfoldable pub reads : ℕ → (ℕ → ℕ) → ℕ → ℕ
reads q a d = count q (λ b. eqb (a b) d)

-- every block that is on a disk is on one that holds a copy of it
unfoldable pub Partial : ℕ → ℕ → (ℕ → ℕ → Bool) → (ℕ → ℕ) → Type 0
Partial n q copy a = (b : ℕ) → b < q → a b < n → copy b (a b) ≡ true

-- every block is on a disk that holds a copy of it
unfoldable pub Valid : ℕ → ℕ → (ℕ → ℕ → Bool) → (ℕ → ℕ) → Type 0
Valid n q copy a = (b : ℕ) → b < q → (a b < n) × (copy b (a b) ≡ true)

-- no disk reads more blocks than its capacity
unfoldable pub Within : ℕ → ℕ → (ℕ → ℕ) → (ℕ → ℕ) → Type 0
Within n q capacities a = (d : ℕ) → d < n → reads q a d ≤ capacities d
