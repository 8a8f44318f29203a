-- Through the desk: the bytes that answer a request, read for that unit and tenancy, give the plan.
--     received_plan        what the plan reader answers to the sheet of a plan, with room for it
--     answered_read        the sheet that was sent, by the definition of a plan sheet; its time, by demand 3
--     answered_received    and by the plan reader
use mathlib.Core.Path.{◌≡◌, refl, sym, ap, ◌∙◌, subst}
use mathlib.Core.Bool.{Bool}
use mathlib.Core.List.{List}
use Prim.Native.Nat.{ℕ, ◌^◌, ◌≤◌, ◌<◌}
use native.Mathlib.Omega.{arith}
use borrow.Author.Tests.{le-leb}
use lib.ListN.{length, take}
use Rattle.basics.specs.Limits.{blocks_most}
use Rattle.basics.proofs.Choice.{pick_true}
use Rattle.std.specs.Prelude.{Result, Ok, Err}
use Rattle.field.specs.declared.Fault.{Fault}
use Rattle.field.proofs.Unique.{not_refused}
use Rattle.field.specs.Sheet.{Out, got}
use Rattle.field.proofs.Opened.{opening_tenancy}
use Rattle.model.specs.Case.{Case}
use Rattle.model.specs.Time.{LeastTime, GreatestEarliest}
use Rattle.settings.specs.declared.Table.{Table}
use Rattle.settings.specs.Table.{Proper}
use Rattle.request.specs.Request.{kinds, Said, request_sheet}
use Rattle.request.proofs.Reading.{sheet_got}
use Rattle.plan.specs.declared.Head.{Head}
use Rattle.plan.specs.Plan.{Plan, plan_sheet}
use Rattle.plan.specs.Receive.{if_room, heads, disks_left, short_left, Received}
use Rattle.plan.specs.Told.{told_plan}
use Rattle.basics.proofs.Buffer.{over_front}
use Rattle.plan.proofs.RoundTrip.{read_written, same_plan}
use Rattle.planner.specs.Answered.{draft_of, Answered, handed}
use Rattle.planner.specs.Asked.{is_out, asked, PlanFor, Plans}
use Rattle.planner.proofs.Demand.{plan_for_greatest}
use Rattle.planner.proofs.Plannable.{asked_got, asked_plannable}

-- ---- the plan reader

accepted_head : (bytes : ℕ) (a : Result Head Fault) (h : Head) → told_plan bytes a ≡ got h bytes → a ≡ Ok h
accepted_head bytes (Ok x) h e = cc
accepted_head bytes (Err r) h e = absurd (not_refused (sym e))

module _ {o : Out Plan} {bytes : ℕ} {disks short disks' short' : List ℕ} {a : Result Head Fault} where
  pub received_plan : (p : Plan) → o ≡ got p bytes → length p.disks ≤ length disks → length p.short ≤ length short
      → Received o bytes disks short a disks' short' → (h : Head) × (a ≡ Ok h) × (handed h disks' short' ≡ p)
  unfolding if_room heads disks_left short_left
  received_plan p e l k r =
      let h : Head = record { blocks = length p.disks; time = p.time; size = length p.short } in
      let s : if_room o disks short ≡ got p bytes =
      ap (λ (x : Out Plan). if_room x disks short) e ∙ pick_true _ _ (le-leb _ _ l) ∙ pick_true _ _ (le-leb _ _ k) in
      let nd = length p.disks in
      let ns = length p.short in
      let ds : take nd disks' ≡ p.disks =
      ap (take nd) (r.blocks ∙ ap (λ (x : Out Plan). disks_left x disks) s) ∙ over_front p.disks disks nd refl in
      let ss : take ns short' ≡ p.short =
      ap (take ns) (r.members ∙ ap (λ (x : Out Plan). short_left x short) s) ∙ over_front p.short short ns refl in
      (h, accepted_head bytes a h (r.answer ∙ ap heads s), same_plan p.time p.time _ _ _ _ refl ds ss)

-- ---- the sheet that was sent

request_tenancy : (number tenancy n : ℕ) (out : ℕ → Bool) (s : List ℕ) (r : Said) (e : ℕ) → request_sheet number tenancy n out s 0 ≡ got r e
    → 0 < tenancy
request_tenancy number tenancy n out s r e h =
    opening_tenancy number tenancy kinds s 0 (sheet_got number tenancy n out s r e h).headed.first

module _ (number tenancy : ℕ) {t : Table} (s : List ℕ) (w : Proper t) (i : number < 2 ^ 32) (j : tenancy < 2 ^ 32)
    {m : Case} {e : ℕ} (g : asked number tenancy t s ≡ got m e) {out after : List ℕ} {n : ℕ}
    (a : Answered number tenancy (asked number tenancy t s) out (Ok n) after) where
  pub answered_read : (p : Plan) × PlanFor m p × (plan_sheet number tenancy (take n after) 0 ≡ got p n)
  unfolding Plans draft_of
  answered_read =
      let c = asked_got number tenancy t s g in
      let x : (p : Plan) × PlanFor m p × (a.plan ≡ got p e) = subst (λ (o : Out Case). Plans o a.plan) g a.plans in
      let l : 0 < tenancy = request_tenancy number tenancy t.disks (is_out t) s c.0 e c.1 in
      (x.0, x.1, read_written number tenancy x.0 i l j x.1.range out after n (rw x.2 at a.sent))

  -- demand 3 of the answer: the time on the sheet is the least time, and the greatest earliest time
  pub answered_greatest : 0 < m.blocks
      → (p : Plan) × (plan_sheet number tenancy (take n after) 0 ≡ got p n) × LeastTime m p.time × GreatestEarliest m p.time
  answered_greatest l =
      let r = answered_read in
      let d = plan_for_greatest (asked_plannable w number tenancy s g) r.1 l in
      (r.0, r.2, d.0, d.1)

  pub answered_received : {disks short disks' short' : List ℕ} {x : Result Head Fault} → blocks_most ≤ length disks
      → blocks_most ≤ length short
      → Received (plan_sheet number tenancy (take n after) 0) n disks short x disks' short'
      → (h : Head) × (x ≡ Ok h) × PlanFor m (handed h disks' short')
  answered_received l k r =
      let p = answered_read in
      let q = p.1.range in
      let v = received_plan p.0 p.2 (omega (arith, q.few)) (omega (arith, q.few, q.size_to)) r in
      (v.0, v.1, subst (PlanFor m) (sym v.2) p.1)
