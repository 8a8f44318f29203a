-- What a plan is.
use Rattle.std.specs.Prelude.{ℕ, ◌-◌, Bool}
use Rattle.model.specs.Case.{Case, HasTime, capacity_at}
use Rattle.model.specs.Shortfall.{ShortSet}
use Rattle.model.specs.Time.{LeastTime}
use Rattle.model.specs.Order.{FirstOf}

-- R is the least time; a is the first in dictionary order of the schedules with time R; S is the short set at R - 1
pub record Optimal (m : Case) (R : ℕ) (a : ℕ → ℕ) (S : ℕ → Bool) : Type 0 where
  pub least : LeastTime m R
  pub first : FirstOf m.blocks (HasTime m R) a
  pub short : ShortSet m.disks m.blocks m.copy (capacity_at m (R - 1)) S
