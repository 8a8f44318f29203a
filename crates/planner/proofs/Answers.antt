-- What an answer says, for those who ask.
--     Sheeted, answered_sheet     the length of a sheet: the bytes of the plan stand at the buffer's start
--     Unsent, answered_none       a refusal: that of the request, or 11 for a plan that is longer than the buffer
use mathlib.Core.Path.{◌≡◌, subst}
use mathlib.Core.List.{List}
use Prim.Native.Nat.{ℕ, ◌≤◌, ◌<◌}
use native.Mathlib.Omega.{arith}
use lib.ListN.{length, take}
use Rattle.field.specs.declared.Fault.{Fault}
use Rattle.std.specs.Prelude.{Ok, Err}
use Rattle.field.specs.Refusal.{note_of}
use Rattle.field.specs.Send.{answer_to, Sent}
use Rattle.field.specs.Sheet.{Note, note, Out, got, refused}
use Rattle.model.specs.Case.{Case}
use Rattle.plan.specs.Draft.{plan_bytes}
use Rattle.plan.specs.Plan.{Plan}
use Rattle.plan.specs.Range.{InRange}
use Rattle.plan.proofs.Writing.{sent_all, sent_none}
use Rattle.planner.specs.Answered.{draft_of, Answered}
use Rattle.planner.specs.Asked.{Plans}

-- a plan that is answered is in range
pub plans_range : (o : Out Case) (p : Plan) (e : ℕ) → Plans o (got p e) → InRange p
unfolding Plans
plans_range (refused n) p e h = absurd (let z : ◌≡◌ {A = ℕ} 0 1 = cc in omega arith)
plans_range (got m i) p e h = let q : got p e ≡ got h.0 i = h.2 in let k : h.0 ≡ p = cc in subst InRange k h.1.range

pub record Sheeted (number tenancy : ℕ) (o : Out Case) (out : List ℕ) (n : ℕ) (after : List ℕ) : Type 0 where
  pub plan : Plan
  pub end : ℕ
  pub plans : Plans o (got plan end)
  pub range : InRange plan
  pub long : n ≡ length (plan_bytes number tenancy plan)
  pub bytes : take n after ≡ plan_bytes number tenancy plan
  pub within : n ≤ length out

pub data Unsent (number tenancy : ℕ) (o : Out Case) (out : List ℕ) (e : Fault) : Type 0 where
  denied : Plans o (refused (note_of e)) → Unsent number tenancy o out e
  longer : (p : Plan) (i : ℕ) → Plans o (got p i) → length out < length (plan_bytes number tenancy p)
      → note_of e ≡ note 11 (length (plan_bytes number tenancy p))
      → Unsent number tenancy o out e

module _ {number tenancy : ℕ} {o : Out Case} {out after : List ℕ} where
  sheet_of : {n : ℕ} (x : Out Plan) → Plans o x → Sent (draft_of number tenancy x) out (Ok n) after
      → Sheeted number tenancy o out n after
  unfolding draft_of answer_to
  sheet_of {n} (refused m) w s = absurd (let a : got tt n ≡ refused m = s.answer in let z : ◌≡◌ {A = ℕ} 0 1 = cc in omega arith)
  sheet_of {n} (got p e) w s =
      let r : InRange p = plans_range o p e w in
      let k = sent_all number tenancy p r out n after s in
      record { plan = p; end = e; plans = w; range = r; long = k.0; bytes = k.1; within = k.2 }

  pub answered_sheet : {n : ℕ} → Answered number tenancy o out (Ok n) after → Sheeted number tenancy o out n after
  answered_sheet a = sheet_of a.plan a.plans a.sent

  none_of : {e : Fault} (x : Out Plan) → Plans o x → Sent (draft_of number tenancy x) out (Err e) after → Unsent number tenancy o out e
  unfolding draft_of answer_to
  none_of {e} (refused m) w s =
      let k : refused (note_of e) ≡ refused m = s.answer in
      let i : m ≡ note_of e = cc in
      denied (subst (λ (j : Note). Plans o (refused j)) i w)
  none_of {e} (got p i) w s = let k = sent_none number tenancy p (plans_range o p i w) out e after s in longer p i w k.0 k.1

  pub answered_none : {e : Fault} → Answered number tenancy o out (Err e) after → Unsent number tenancy o out e
  answered_none a = none_of a.plan a.plans a.sent
