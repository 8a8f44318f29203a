-- Lists of values.
use Rattle.std.specs.Prelude.{ℕ, ◌+◌, ◌≤◌, Bool, false, ◌||◌, List, [], ◌∷◌, eqb}

-- each value has a property
unfoldable pub All : {A : Type 0} → (A → Type 0) → List A → Type 0
All P [] = Unit
All P (a ∷ rest) = P a × All P rest

-- the numbers rise, from a floor up to a last one
unfoldable pub Rises : ℕ → ℕ → List ℕ → Type 0
Rises floor high [] = Unit
Rises floor high (v ∷ vs) = (floor ≤ v) × (v ≤ high) × Rises (v + 1) high vs

-- whether a number is on a list
unfoldable pub listed : List ℕ → ℕ → Bool
listed [] b = false
listed (x ∷ xs) b = eqb x b || listed xs b
