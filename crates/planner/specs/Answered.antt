-- The answer to a read request as a sheet in a lent buffer.
--     draft_of      the sheet of a plan, or why there is none
--     Answered     that sheet was sent, of the plan of what was asked
--     handed       the plan that the plan reader hands out
use Rattle.std.specs.Prelude.{ℕ, List, Result, take}
use Rattle.model.specs.Case.{Case}
use Rattle.field.specs.declared.Fault.{Fault}
use Rattle.field.specs.Send.{Draft, none, Sent}
use Rattle.field.specs.Sheet.{Out, got, refused}
use Rattle.plan.specs.Draft.{plan_draft}
use Rattle.plan.specs.declared.Head.{Head}
use Rattle.plan.specs.Plan.{Plan}
use Rattle.planner.specs.Asked.{Plans}

unfoldable pub draft_of : ℕ → ℕ → Out Plan → Draft
draft_of number tenancy (got p e) = plan_draft number tenancy p
draft_of number tenancy (refused n) = none n

-- a refusal leaves the buffer as it was; else the sheet of the plan stands there, if it has room
pub record Answered (number tenancy : ℕ) (o : Out Case) (out : List ℕ) (w : Result ℕ Fault) (after : List ℕ) : Type 0 where
  pub plan : Out Plan
  pub plans : Plans o plan
  pub sent : Sent (draft_of number tenancy plan) out w after

-- a time, and the first entries of two lists
abbrev pub handed : Head → List ℕ → List ℕ → Plan
handed h disks short = record { time = h.time; disks = take h.blocks disks; short = take h.size short }
