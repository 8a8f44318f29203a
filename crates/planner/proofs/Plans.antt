-- A case has one plan sheet.
use mathlib.Core.Path.{◌≡◌, refl, sym, ap, ◌∙◌, subst}
use mathlib.Core.List.{List, [], ◌∷◌}
use Prim.Native.Nat.{ℕ, ◌-◌, ◌≤◌, ◌<◌}
use native.Mathlib.Omega.{arith}
use borrow.Author.Tests.{ltb-true, ltb-false}
use lib.Dec.{ltb}
use lib.ListN.{length, get_or}
use lib.Seq.{ext_get_or}
use Rattle.basics.proofs.Tests.{by_cases}
use Rattle.basics.specs.Lists.{Rises, listed}
use Rattle.basics.proofs.Lists.{rising_same}
use Rattle.model.specs.Case.{Case}
use Rattle.model.specs.Order.{Agree}
use Rattle.model.proofs.Plan.{plan_unique}
use Rattle.field.specs.Sheet.{Out, got, refused}
use Rattle.plan.specs.Plan.{Plan}
use Rattle.planner.specs.Asked.{PlanFor, Plans}

empty_list : (xs : List ℕ) → length xs ≤ 0 → xs ≡ []
empty_list [] h = refl
empty_list (x ∷ xs) h = absurd (omega arith)

module _ {m : Case} {p q : Plan} (v : PlanFor m p) (w : PlanFor m q) where
  same : (p.time ≡ q.time) × Agree m.blocks (λ b. get_or p.disks b 0) (λ b. get_or q.disks b 0)
      × Agree m.blocks (listed p.short) (listed q.short)
  same = plan_unique m _ _ _ _ _ _ v.optimal w.optimal

  same_disks : p.disks ≡ q.disks
  unfolding Agree
  same_disks = ext_get_or 0 p.disks q.disks (v.blocks ∙ sym w.blocks) λ i l. same.1 i (omega (arith, v.blocks))

  same_short : p.short ≡ q.short
  unfolding Agree
  same_short =
      by_cases (ltb 0 m.blocks)
      (λ s.
      let some : 0 < m.blocks = ltb-true 0 m.blocks s in
      rising_same 0 (m.blocks - 1) p.short q.short
      (subst (λ (k : ℕ). Rises 0 (k - 1) p.short) v.blocks v.range.blocks)
      (subst (λ (k : ℕ). Rises 0 (k - 1) q.short) w.blocks w.range.blocks)
      (λ b l. same.2 b (omega arith)))
      (λ f.
      let none : m.blocks ≤ 0 = ltb-false 0 m.blocks f in
      empty_list p.short (omega (arith, v.range.size_to, v.blocks))
      ∙ sym (empty_list q.short (omega (arith, w.range.size_to, w.blocks))))

  pub plan_for_unique : p ≡ q
  plan_for_unique =
      ap (λ z. record { time = z; disks = p.disks; short = p.short }) same.0
      ∙ ap (λ z. record { time = q.time; disks = z; short = p.short }) same_disks
      ∙ ap (λ z. record { time = q.time; disks = q.disks; short = z }) same_short

-- what is answered to a request is one plan, or one refusal
pub plans_unique : (o : Out Case) {x y : Out Plan} → Plans o x → Plans o y → x ≡ y
unfolding Plans
plans_unique (refused n) v w = v ∙ sym w
plans_unique (got m e) v w = v.2 ∙ ap (λ (p : Plan). got p e) (plan_for_unique v.1 w.1) ∙ sym w.2
