-- What a search that is stuck leaves: a set of blocks that is closed under an assignment which leaves some blocks unplaced.
use Rattle.std.specs.Prelude.{ℕ, ◌≤◌, ◌<◌, ◌≡◌, Bool, true}
use Rattle.model.specs.Assignment.{reads}
use Rattle.model.specs.Shortfall.{touches}

-- S has all unplaced blocks; each disk that it touches is full, and reads only blocks of S
pub record Closed (n q : ℕ) (copy : ℕ → ℕ → Bool) (capacities : ℕ → ℕ) (a : ℕ → ℕ) (S : ℕ → Bool) : Type 0 where
  pub unplaced : (b : ℕ) → b < q → n ≤ a b → S b ≡ true
  pub full : (d : ℕ) → d < n → touches q copy S d ≡ true → capacities d ≤ reads q a d
  pub owns : (b : ℕ) → b < q → a b < n → touches q copy S (a b) ≡ true → S b ≡ true
