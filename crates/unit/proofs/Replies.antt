-- Laws of the answer to a read request.
--     spelled_for           what the planner spelled for the tenancy that was found
--     replied               what the planner answered for the tenancy that was found
--     replied_as, replied_within     an answer that is known; a sheet lies within the buffer
--     replied_enough        a buffer of the length that 11 told is enough
--     replied_read          the bytes of an accepted request, read for this unit and tenancy, are those of its plan
--     replied_greatest      demand 3: the time on the sheet is the least time, and the greatest earliest time, of the case
--     replied_received      and what the plan reader hands out is the plan
use mathlib.Core.Path.{◌≡◌, refl, subst}
use mathlib.Core.List.{List}
use Prim.Native.Nat.{ℕ, ◌^◌, ◌≤◌, ◌<◌}
use lib.ListN.{length, take}
use Rattle.std.specs.Prelude.{Result, Ok, Err}
use Rattle.basics.specs.Limits.{blocks_most}
use Rattle.model.specs.Case.{Case}
use Rattle.model.specs.Time.{LeastTime, GreatestEarliest}
use Rattle.field.specs.declared.Fault.{Fault}
use Rattle.field.specs.declared.Refusal.TheVariants.{NoRoom}
use Rattle.field.specs.Send.{told_written}
use Rattle.field.specs.Sheet.{got}
use Rattle.plan.specs.declared.Head.{Head}
use Rattle.plan.specs.Plan.{Plan, plan_sheet}
use Rattle.plan.specs.Receive.{Received}
use Rattle.planner.specs.Answered.{Answered, handed}
use Rattle.planner.specs.Asked.{asked, PlanFor}
use Rattle.planner.specs.Lists.{Asks}
use Rattle.planner.specs.declared.Spelling.{Spelling}
use Rattle.planner.proofs.Answers.{answered_sheet}
use Rattle.planner.proofs.Enough.{answered_enough}
use Rattle.planner.proofs.ReadBack.{answered_read, answered_greatest, answered_received}
use Rattle.unit.specs.declared.Requested.{Requested}
use Rattle.unit.specs.declared.Unit.{Unit}
use Rattle.unit.specs.Request.{asked_of, Replied}
use Rattle.unit.specs.Sound.{Sound}
use Rattle.unit.specs.Unit.{tenancy_of}

pub spelled_for : (u : Unit) (s : List ℕ) {n t : ℕ} {r : Result Spelling Fault} → t ≡ tenancy_of u → Asks (asked u.number t u.table s) n r
    → Asks (asked_of u s) n r
spelled_for u s {n} {r = r} e a = subst (λ (k : ℕ). Asks (asked u.number k u.table s) n r) e a

module _ {u : Unit} {s out after : List ℕ} where
  pub replied : {t : ℕ} {w : Result ℕ Fault} → t ≡ tenancy_of u → Answered u.number t (asked u.number t u.table s) out w after
      → Replied u s out (record { answer = w; unit = u }) after
  replied {t} {w} e a = record {
    same = refl;
    reply = subst (λ (k : ℕ). Answered u.number k (asked u.number k u.table s) out w after) e a;
  }

  -- an answer that is known
  pub replied_as : {r : Requested} {x : Result ℕ Fault} → Replied u s out r after → r.answer ≡ x
      → Answered u.number (tenancy_of u) (asked_of u s) out x after
  replied_as {x = x} a h = subst (λ (y : Result ℕ Fault). Answered u.number (tenancy_of u) (asked_of u s) out y after) h a.reply

  pub replied_within : {r : Requested} {n : ℕ} → Replied u s out r after → r.answer ≡ Ok n → n ≤ length out
  replied_within a h = (answered_sheet (replied_as a h)).within

  -- a buffer of the length that 11 told is enough
  pub replied_enough : {out' after' : List ℕ} {r r' : Requested} {f : Fault} → Replied u s out r after → r.answer ≡ Err f
      → f.refusal ≡ NoRoom → Replied u s out' r' after' → f.place ≤ length out' → told_written r'.answer ≡ got tt f.place
  replied_enough a h q b l = answered_enough u.number (tenancy_of u) u.table s (replied_as a h) q b.reply l

  -- a sound unit, numbers of 32 bits, and a request that was answered with n bytes
  module _ (w : Sound u) (i : u.number < 2 ^ 32) (j : tenancy_of u < 2 ^ 32) {r : Requested} (a : Replied u s out r after)
      {m : Case} {e : ℕ} (g : asked_of u s ≡ got m e) {n : ℕ} (h : r.answer ≡ Ok n) where
    pub replied_read : (p : Plan) × PlanFor m p × (plan_sheet u.number (tenancy_of u) (take n after) 0 ≡ got p n)
    replied_read = answered_read u.number (tenancy_of u) s w.proper i j g (replied_as a h)

    pub replied_greatest : 0 < m.blocks
        → (p : Plan) × (plan_sheet u.number (tenancy_of u) (take n after) 0 ≡ got p n)
        × LeastTime m p.time × GreatestEarliest m p.time
    replied_greatest l = answered_greatest u.number (tenancy_of u) s w.proper i j g (replied_as a h) l

    pub replied_received : {disks short disks' short' : List ℕ} {x : Result Head Fault} → blocks_most ≤ length disks
        → blocks_most ≤ length short
        → Received (plan_sheet u.number (tenancy_of u) (take n after) 0) n disks short x disks' short'
        → (h : Head) × (x ≡ Ok h) × PlanFor m (handed h disks' short')
    replied_received l k v = answered_received u.number (tenancy_of u) s w.proper i j g (replied_as a h) l k v
