-- What was asked is within the limits of document 01.
--     asked_got          an accepted request, by what it says
--     asked_plannable    its case
--     plan_for           a plan of such a case is within the ranges of a plan sheet
use mathlib.Core.Path.{◌≡◌, refl, sym, ap, ◌∙◌, subst}
use mathlib.Core.Bool.{true, not}
use mathlib.Core.List.{List, [], ◌∷◌, map}
use Prim.Native.Nat.{ℕ, zero, suc, ◌-◌, ◌≤◌, ◌<◌}
use native.Mathlib.Omega.{arith}
use lib.ListN.{length, get_or, length-map}
use Rattle.basics.specs.Limits.{disks_most, blocks_most, cost_most, start_most, time_most}
use Rattle.basics.proofs.Tests.{and_left, and_both}
use Rattle.mask.specs.Has.{has}
use Rattle.mask.proofs.Has.{has_place}
use Rattle.model.specs.Assignment.{Valid}
use Rattle.model.specs.Case.{Case, Priced, Held, Schedule, HasTime}
use Rattle.basics.specs.Count.{count, sum, bit}
use Rattle.model.specs.Plan.{Optimal}
use Rattle.model.specs.Shortfall.{size}
use Rattle.model.specs.Time.{members}
use Rattle.model.proofs.Earliest.{time_positive}
use Rattle.model.proofs.Existence.{plan_short}
use Rattle.model.proofs.Plan.{no_blocks_plan}
use Rattle.model.proofs.Same.{optimal_most}
use Rattle.basics.specs.Lists.{All, Rises, listed}
use Rattle.basics.proofs.Lists.{all_at, all_by}
use Rattle.field.specs.Sheet.{Out, got, refused}
use Rattle.settings.specs.declared.Table.{Table}
use Rattle.settings.specs.Table.{disk_rows, costs, Proper}
use Rattle.request.specs.Request.{Said, request_sheet}
use Rattle.request.proofs.Accepted.{sheet_blocks}
use Rattle.request.proofs.Used.{InUse}
use Rattle.request.proofs.Writing.{Sendable}
use Rattle.plan.specs.Plan.{Plan, if_any}
use Rattle.model.specs.Case.{in_use}
use Rattle.planner.specs.Asked.{start_of, is_out, table_case, case_in, asked, Plannable, PlanFor}
use Rattle.planner.proofs.Rows.{count_disks, row_in, start_small, start_zero, column_at}

-- ---- the case

case_got : (t : Table) (o : Out Said) {m : Case} {e : ℕ} → case_in t o ≡ got m e
    → (r : Said) × (o ≡ got r e) × (table_case t r.age r.copies ≡ m)
unfolding case_in
case_got t (got r e) h = (r, cc, cc)
case_got t (refused n) h = absurd (let z : ◌≡◌ {A = ℕ} 0 1 = cc in omega arith)

pub asked_got : (number tenancy : ℕ) (t : Table) (s : List ℕ) {m : Case} {e : ℕ} → asked number tenancy t s ≡ got m e
    → (r : Said) × (request_sheet number tenancy t.disks (is_out t) s 0 ≡ got r e) × (table_case t r.age r.copies ≡ m)
unfolding asked
asked_got number tenancy t s h = case_got t _ h

module _ {t : Table} (w : Proper t) where
  pub length_costs : length (costs t) ≡ t.disks
  unfolding costs
  length_costs = length-map (disk_rows t) (λ r. r.cost) ∙ count_disks w

  pub length_starts : (age : ℕ) → length (map (start_of t.rule age) (disk_rows t)) ≡ t.disks
  length_starts age = length-map (disk_rows t) (start_of t.rule age) ∙ count_disks w

  copies_plannable : (age : ℕ) (copies : List ℕ) → 0 < t.disks → length copies ≤ blocks_most → All (Sendable t.disks) copies
      → All (InUse (is_out t)) copies → Plannable (table_case t age copies)
  unfolding table_case in_use costs Held
  copies_plannable age copies some few each used = record {
    disks_some = omega (arith, length_costs);
    disks_few = omega (arith, length_costs, w.few);
    blocks_few = few;
    cost_least = λ d l. omega (arith, column_at w (λ r. r.cost) refl d, (row_in w d (omega (arith, length_costs))).cost_low);
    cost_within = λ d l. omega (arith, column_at w (λ r. r.cost) refl d, (row_in w d (omega (arith, length_costs))).cost_high);
    start_within = λ d l. omega (arith, column_at w (start_of t.rule age) (start_zero t.rule age) d, start_small w t.rule age d);
    held = λ b l.
        let u : InUse (is_out t) (get_or copies b 0) = all_at (InUse (is_out t)) copies used b 0 l in
        (u.disk, on_disk b u.disk l u.holds, and_both _ _ u.holds (ap not u.stays));
    low = λ b d l h. on_disk b d l (and_left _ _ h);
  }
    where
      on_disk : (b d : ℕ) → b < length copies → has (get_or copies b 0) d ≡ true → d < length (costs t)
      on_disk b d l h =
          let s : Sendable t.disks (get_or copies b 0) = all_at (Sendable t.disks) copies each b 0 l in
          omega (arith, has_place t.disks (get_or copies b 0) d s.under h, length_costs)

  pub asked_plannable : (number tenancy : ℕ) (s : List ℕ) {m : Case} {e : ℕ} → asked number tenancy t s ≡ got m e → Plannable m
  asked_plannable number tenancy s h =
      let g = asked_got number tenancy t s h in
      let b = sheet_blocks number tenancy t.disks (is_out t) s g.0 _ w.few g.1 in
      subst Plannable g.2 (copies_plannable g.0.age g.0.copies b.0 b.1 b.2 b.3)

-- ---- the ranges of its plan

pub priced : {m : Case} → Plannable m → Priced m
unfolding Priced
priced w d l = omega (arith, w.cost_least d l)

any_from : (q n x : ℕ) → (0 < q → n ≤ x) → if_any q n ≤ x
unfolding if_any
any_from zero n x h = omega arith
any_from (suc q) n x h = h (omega arith)

any_to : (q n x : ℕ) → (0 < q → x ≤ n) → (q ≡ 0 → x ≡ 0) → x ≤ if_any q n
unfolding if_any
any_to zero n x h z = omega (arith, z refl)
any_to (suc q) n x h z = h (omega arith)

-- a set with members is a list with numbers
none_listed : (q : ℕ) → size q (listed []) ≡ 0
unfolding size count sum bit listed
none_listed zero = refl
none_listed (suc q) = omega (arith, none_listed q)

some_listed : (q : ℕ) (xs : List ℕ) → 0 < size q (listed xs) → 1 ≤ length xs
some_listed q [] h = absurd (omega (arith, none_listed q))
some_listed q (x ∷ xs) h = omega arith

pub plan_for : {m : Case} → Plannable m → (p : Plan) → length p.disks ≡ m.blocks → length p.short ≤ m.blocks
    → Rises 0 (m.blocks - 1) p.short → Optimal m p.time (λ b. get_or p.disks b 0) (listed p.short) → PlanFor m p
unfolding HasTime Schedule Valid members
plan_for {m} w p count few rises o =
    let v : Schedule m (λ b. get_or p.disks b 0) = o.first.holds.0 in
    record {
      range = record {
        few = omega (arith, count, w.blocks_few);
        time_from = any_from _ 1 _ λ l. omega (arith, time_positive m _ (priced w) (omega (arith, count)) v, o.first.holds.1);
        time_to = any_to _ time_most _
            (λ l. omega (arith, optimal_most m start_most cost_most w.start_within w.cost_within o, w.blocks_few))
            (λ z. (no_blocks_plan m p.time _ _ (sym count ∙ z) o).0);
        disks = all_by (λ d. d ≤ disks_most - 1) 0 p.disks λ i l. omega (arith, (v i (omega (arith, count))).0, w.disks_few);
        size_from = any_from _ 1 _ λ l. some_listed m.blocks p.short (plan_short m p.time _ _ (priced w) (omega (arith, count)) o);
        size_to = omega (arith, count);
        blocks = subst (λ (k : ℕ). Rises 0 (k - 1) p.short) (sym count) rises;
      };
      blocks = count;
      optimal = o;
    }
