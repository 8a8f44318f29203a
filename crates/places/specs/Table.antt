-- The case that lists spell.
--     masked_case     n disks, q blocks, the disks' costs and starts, and a mask of copies for each block
--     Table      costs and starts within their limits
--     Copies     every block has a copy, and copies lie on disks
use Rattle.std.specs.Prelude.{ℕ, ◌≤◌, ◌<◌, ◌≡◌, true, List, get_or, length}
use Rattle.basics.specs.Limits.{disks_most, cost_most, start_most}
use Rattle.model.specs.Case.{Case}
use Rattle.places.specs.Places.{holds}

-- n disks, q blocks, the disks' costs and starts, and a mask of copies for each block
abbrev pub masked_case : ℕ → ℕ → List ℕ → List ℕ → List ℕ → Case
masked_case n q masks costs starts =
    record { disks = n; blocks = q; start = λ d. get_or starts d 0; cost = λ d. get_or costs d 0; copy = holds masks }

-- n disks, each cost at least 1, costs and starts within their limits
pub record Table (n : ℕ) (costs starts : List ℕ) : Type 0 where
  pub few : n ≤ disks_most
  pub costs_long : length costs ≡ n
  pub starts_long : length starts ≡ n
  pub priced : (d : ℕ) → d < n → 0 < get_or costs d 0
  pub cheap : (d : ℕ) → d < n → get_or costs d 0 ≤ cost_most
  pub soon : (d : ℕ) → d < n → get_or starts d 0 ≤ start_most

-- every block has a copy, and copies lie on disks below n
pub record Copies (n q : ℕ) (masks : List ℕ) : Type 0 where
  pub small : (b d : ℕ) → b < q → holds masks b d ≡ true → d < n
  pub some : (b : ℕ) → b < q → (d : ℕ) × (holds masks b d ≡ true)
