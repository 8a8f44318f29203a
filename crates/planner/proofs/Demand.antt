-- Demand 3 of a plan: its time is the least time over schedules, and the greatest earliest time over sets with a block.
use Prim.Native.Nat.{◌<◌}
use Rattle.model.specs.Case.{Case}
use Rattle.model.specs.Time.{LeastTime, GreatestEarliest}
use Rattle.model.proofs.Existence.{plan_greatest}
use Rattle.plan.specs.Plan.{Plan}
use Rattle.planner.specs.Asked.{Plannable, PlanFor}
use Rattle.planner.proofs.Plannable.{priced}

pub plan_for_greatest : {m : Case} {p : Plan} → Plannable m → PlanFor m p → 0 < m.blocks
    → LeastTime m p.time × GreatestEarliest m p.time
plan_for_greatest {m} {p} w f l = (f.optimal.least, plan_greatest m p.time _ _ (priced w) l f.optimal)
