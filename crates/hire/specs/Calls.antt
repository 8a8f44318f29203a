-- A unit's calls in any order, as its tenants see them.
--     Call, Reply     a call with what it brings, and what is answered
--     Does            what a call to a unit answers, and the unit afterwards
--     Runs            the same for one call after another
use Rattle.std.specs.Prelude.{ℕ, ◌≡◌, List, [], ◌∷◌}
use Rattle.field.specs.Send.{Draft, answer_to, left_by}
use Rattle.field.specs.Sheet.{Out}
use Rattle.plan.specs.Plan.{Plan}
use Rattle.planner.specs.Asked.{Plans}
use Rattle.planner.specs.Answered.{draft_of}
use Rattle.unit.specs.declared.Unit.{Unit as Shelf}
use Rattle.unit.specs.Life.{Verdict, Outcome, rent, set, give_back}
use Rattle.unit.specs.Request.{asked_of}
use Rattle.unit.specs.Unit.{tenancy_of}
use Rattle.reason.specs.declared.Reason.{Reason}
use Rattle.why.specs.Why.{within, Explains}

-- Rent and Return with a tenancy, a settings sheet, a read request with the buffer that is lent for its plan, why a request's plan
-- reads a block from a disk or doesn't
pub data Call : Type 0 where
  renting : ℕ → Call
  setting : List ℕ → Call
  asking : List ℕ → List ℕ → Call
  returning : ℕ → Call
  explaining : List ℕ → ℕ → ℕ → Call

-- a verdict; to a read request the length written or a refusal, and what the buffer then holds; a reason or a refusal
pub data Reply : Type 0 where
  said : Verdict → Reply
  planned : Out Unit → List ℕ → Reply
  explained : Out Reason → Reply

-- what a call came to
unfoldable pub Comes : Outcome → Reply → Shelf → Type 0
Comes o r u = (r ≡ said o.verdict) × (u ≡ o.unit)

-- a sheet in a buffer
unfoldable pub sent : Draft → List ℕ → Reply
sent d out = planned (answer_to d out) (left_by d out)

unfoldable pub Does : Shelf → Call → Reply → Shelf → Type 0
Does u (renting t) r u' = Comes (rent u t) r u'
Does u (setting s) r u' = Comes (set u s) r u'
Does u (asking s out) r u' = (x : Out Plan) × Plans (asked_of u s) x × (r ≡ sent (draft_of u.number (tenancy_of u) x) out) × (u' ≡ u)
Does u (returning t) r u' = Comes (give_back u t) r u'
Does u (explaining s b d) r u' = (x : Out Reason) × Explains (within (asked_of u s) b d) b d x × (r ≡ explained x) × (u' ≡ u)

pub data Runs : Shelf → List Call → List Reply → Shelf → Type 0 where
  none : {u : Shelf} → Runs u [] [] u
  next : {u v w : Shelf} {c : Call} {cs : List Call} {r : Reply} {rs : List Reply}
      → Does u c r v → Runs v cs rs w → Runs u (c ∷ cs) (r ∷ rs) w
