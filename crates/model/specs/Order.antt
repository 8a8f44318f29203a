-- Dictionary order: block 0 has the lowest disk number possible, then block 1, and so on.
use Rattle.std.specs.Prelude.{ℕ, ◌<◌, ◌≡◌}

-- a and a' are the same for the first k blocks
unfoldable pub Agree : {A : Type 0} → ℕ → (ℕ → A) → (ℕ → A) → Type 0
Agree k a a' = (b : ℕ) → b < k → a b ≡ a' b

-- a stands before a': at the first of the q blocks where they differ, a has the lower disk
unfoldable pub Before : ℕ → (ℕ → ℕ) → (ℕ → ℕ) → Type 0
Before q a a' = (b : ℕ) × (b < q) × Agree b a a' × (a b < a' b)

-- a is the first in dictionary order of all with the property P
pub record FirstOf (q : ℕ) (P : (ℕ → ℕ) → Type 0) (a : ℕ → ℕ) : Type 0 where
  pub holds : P a
  pub none : (a' : ℕ → ℕ) → P a' → Before q a' a → ⊥
