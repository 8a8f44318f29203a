-- A case within the limits has a plan that a plan sheet can say: from the model alone.
--     values, chosen       a function as the list of its first values; a set as the rising list of its members
--     plan_for_exists      the plan of the model, in lists
--     plans_exist          what is answered to a request
use mathlib.Core.Path.{◌≡◌, refl, sym, ap, ◌∙◌}
use mathlib.Core.Bool.{Bool, false}
use mathlib.Core.List.{List, [], ◌∷◌}
use Prim.Native.Nat.{ℕ, zero, suc, ◌+◌, ◌-◌, ◌≤◌, ◌<◌}
use native.Mathlib.Omega.{arith}
use borrow.Author.Tests.{eq-eqb, ne_eqb}
use lib.ListN.{length, get_or}
use Rattle.basics.specs.Choice.{pick}
use Rattle.basics.proofs.Choice.{pick_elim}
use Rattle.basics.specs.Lists.{Rises, listed}
use Rattle.field.specs.Sheet.{Out, got, refused}
use Rattle.model.specs.Case.{Case}
use Rattle.model.specs.Order.{Agree}
use Rattle.model.proofs.Existence.{plan_exists}
use Rattle.model.proofs.Same.{optimal_same}
use Rattle.basics.proofs.Tests.{below_or}
use Rattle.settings.specs.declared.Table.{Table}
use Rattle.settings.specs.Table.{Proper}
use Rattle.plan.specs.Plan.{Plan}
use Rattle.planner.specs.Asked.{asked, Plannable, PlanFor, Plans}
use Rattle.planner.proofs.Plannable.{priced, plan_for, asked_plannable}

-- ---- a function as a list

-- its values from k on, so many
values : (ℕ → ℕ) → ℕ → ℕ → List ℕ
values f k zero = []
values f k (suc n) = f k ∷ values f (suc k) n

values_length : (f : ℕ → ℕ) (k n : ℕ) → length (values f k n) ≡ n
unfolding values
values_length f k zero = refl
values_length f k (suc n) = ap suc (values_length f (suc k) n)

values_at : (f : ℕ → ℕ) (k n i : ℕ) → i < n → get_or (values f k n) i 0 ≡ f (k + i)
unfolding values
values_at f k zero i l = absurd (omega arith)
values_at f k (suc n) zero l = ap f (omega arith)
values_at f k (suc n) (suc i) l = values_at f (suc k) n i (omega arith) ∙ ap f (omega arith)

-- ---- a set as a rising list

-- its members from k on, out of so many numbers
chosen : (ℕ → Bool) → ℕ → ℕ → List ℕ
chosen S k zero = []
chosen S k (suc n) = pick (S k) (k ∷ chosen S (suc k) n) (chosen S (suc k) n)

chosen_length : (S : ℕ → Bool) (k n : ℕ) → length (chosen S k n) ≤ n
unfolding chosen
chosen_length S k zero = omega arith
chosen_length S k (suc n) =
    pick_elim (λ (xs : List ℕ). length xs ≤ suc n) (S k) _ _
    (λ _. omega (arith, chosen_length S (suc k) n))
    (λ _. omega (arith, chosen_length S (suc k) n))

rises_lower : (floor low high : ℕ) (xs : List ℕ) → low ≤ floor → Rises floor high xs → Rises low high xs
unfolding Rises
rises_lower floor low high [] l r = tt
rises_lower floor low high (x ∷ xs) l r = (omega (arith, r.0), r.1, r.2)

chosen_rises : (S : ℕ → Bool) (k n high : ℕ) → k + n ≤ high + 1 → Rises k high (chosen S k n)
unfolding chosen Rises
chosen_rises S k zero high l = tt
chosen_rises S k (suc n) high l =
    let rest : Rises (k + 1) high (chosen S (suc k) n) =
    rises_lower (suc k) (k + 1) high (chosen S (suc k) n) (omega arith) (chosen_rises S (suc k) n high (omega arith)) in
    pick_elim (λ (xs : List ℕ). Rises k high xs) (S k) _ _
    (λ _. (omega arith, omega arith, rest))
    (λ _. rises_lower (k + 1) k high (chosen S (suc k) n) (omega arith) rest)

chosen_below : (S : ℕ → Bool) (k n b : ℕ) → b < k → listed (chosen S k n) b ≡ false
unfolding chosen listed
chosen_below S k zero b l = refl
chosen_below S k (suc n) b l =
    let rest : listed (chosen S (suc k) n) b ≡ false = chosen_below S (suc k) n b (omega arith) in
    pick_elim (λ (xs : List ℕ). listed xs b ≡ false) (S k) _ _ (λ _. rw (ne_eqb k b (omega arith)) rest) (λ _. rest)

chosen_listed : (S : ℕ → Bool) (k n b : ℕ) → k ≤ b → b < k + n → listed (chosen S k n) b ≡ S b
unfolding chosen listed
chosen_listed S k zero b l h = absurd (omega arith)
chosen_listed S k (suc n) b l h =
    below_or k b
    (λ m.
    let rest : listed (chosen S (suc k) n) b ≡ S b = chosen_listed S (suc k) n b (omega arith) (omega arith) in
    pick_elim (λ (xs : List ℕ). listed xs b ≡ S b) (S k) _ _ (λ _. rw (ne_eqb k b (omega arith)) rest) (λ _. rest))
    (λ m.
    let e : b ≡ k = omega arith in
    pick_elim (λ (xs : List ℕ). listed xs b ≡ S b) (S k) _ _
    (λ t. rw (eq-eqb k b (sym e)) (sym (ap S e ∙ t)))
    (λ f. chosen_below S (suc k) n b (omega arith) ∙ sym (ap S e ∙ f)))

-- ---- the plan

pub plan_for_exists : {m : Case} → Plannable m → (p : Plan) × PlanFor m p
unfolding Agree
plan_for_exists {m} w =
    let o = plan_exists m (priced w) w.held in
    let a = o.1 in
    let S = o.2 in
    let q : ℕ = m.blocks in
    let p : Plan = record { time = o.0; disks = values a 0 q; short = chosen S 0 q } in
    let same_disks : Agree q (λ b. get_or p.disks b 0) a = λ b l. values_at a 0 q b l ∙ ap a (omega arith) in
    let same_short : Agree q (listed p.short) S = λ b l. chosen_listed S 0 q b (omega arith) (omega arith) in
    let best = optimal_same m a (λ b. get_or p.disks b 0) S (listed p.short) same_disks same_short o.3 in
    (p, plan_for w p (values_length a 0 q) (chosen_length S 0 q) (chosen_rises S 0 q (q - 1) (omega arith)) best)

plans_of : (o : Out Case) → ((m : Case) (e : ℕ) → o ≡ got m e → Plannable m) → (x : Out Plan) × Plans o x
unfolding Plans
plans_of (refused n) h = (refused n, refl)
plans_of (got m e) h = let p = plan_for_exists (h m e refl) in (got p.0 e, (p.0, p.1, refl))

pub plans_exist : (number tenancy : ℕ) {t : Table} (s : List ℕ) → Proper t → (x : Out Plan) × Plans (asked number tenancy t s) x
plans_exist number tenancy s w = plans_of (asked number tenancy _ s) (λ m e h. asked_plannable w number tenancy s h)
