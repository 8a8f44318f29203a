-- What the engine answers: the plan of the case, in its answer and two lent buffers.
use Rattle.std.specs.Prelude.{ℕ, ◌-◌, ◌≤◌, ◌≡◌, List, get_or, length, take}
use Rattle.basics.specs.Limits.{time_most}
use Rattle.basics.specs.Lists.{Rises, listed}
use Rattle.model.specs.Time.{LeastTime}
use Rattle.model.specs.Plan.{Optimal}
use Rattle.engine.specs.Spelled.{spelled}
use Rattle.engine.specs.declared.Found.{Found}

-- r is the least time of the case
pub record LeastOf (copies costs starts : List ℕ) (r : ℕ) : Type 0 where
  pub least : LeastTime (spelled copies costs starts) r
  pub most : r ≤ time_most

-- at the buffer's start stand m of the numbers below q, rising; behind them it is as it was
pub record Front (q m : ℕ) (short short' : List ℕ) : Type 0 where
  pub few : m ≤ q
  pub fits : m ≤ length short'
  pub rises : Rises 0 (q - 1) (take m short')
  pub short_rest : (i : ℕ) → m ≤ i → get_or short' i 0 ≡ get_or short i 0
  pub short_long : length short' ≡ length short

-- time, disks and short set are the plan; both buffers are as they were beyond what is written
pub record Planned (copies costs starts disks short disks' short' : List ℕ) (r : Found) : Type 0 where
  pub plan : Optimal (spelled copies costs starts) r.time (λ b. get_or disks' b 0) (listed (take r.size short'))
  pub set : Front (length copies) r.size short short'
  pub disks_rest : (b : ℕ) → length copies ≤ b → get_or disks' b 0 ≡ get_or disks b 0
  pub disks_long : length disks' ≡ length disks
  pub time_within : r.time ≤ time_most
