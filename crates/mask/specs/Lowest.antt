-- The lowest disk of a mask.
use Rattle.std.specs.Prelude.{◌≡◌, true, false, ℕ, ◌<◌, Option, MatchOption}
use Rattle.basics.specs.Limits.{disks_most}
use Rattle.mask.specs.Has.{has}

-- d is the lowest disk of m
pub record First (m d : ℕ) : Type 0 where
  pub disk : d < disks_most
  pub under : (e : ℕ) → e < d → has m e ≡ false
  pub found : has m d ≡ true

-- r is the lowest disk of m, or None where m holds none
abbrev pub Lowest : ℕ → Option ℕ → Type 0
Lowest m r = MatchOption r (m ≡ 0) (First m)
