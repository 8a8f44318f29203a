-- Every case whose costs are at least 1 and whose blocks all have a copy has a plan.
--     schedule_exists     a schedule
--     certificate_exists  a schedule in time R and a set short at R - 1, for at least one block
--     demand_three        the least time over schedules is the greatest earliest time over non-empty sets
--     first_exists        the first in dictionary order of the schedules within capacities, where there are any
--     plan_exists, plan_one    a plan; exactly one
--     plan_certificate    a plan's schedule and its short set are a certificate of its time
use Prim.Native.Nat.{ℕ, zero, suc, ◌-◌, ◌≤◌, ◌<◌}
use mathlib.Core.Path.{◌≡◌, refl, sym, ap, ap₂, ◌∙◌}
use mathlib.Core.Logic.{◌⊎◌, inl, inr, ⊎_elim}
use mathlib.Core.Bool.{Bool, true, false, cond, ◌&&◌}
use native.Mathlib.Nat.{le_refl}
use native.Mathlib.Omega.{arith}
use lib.Dec.{ltb, eqb}
use borrow.Author.Tests.{ltb-true, lt-ltb, le-ltb, eqb-true, eq-eqb, ne_eqb}
use Rattle.model.specs.Assignment.{Valid, Within}
use Rattle.model.specs.Case.{Case, Priced, Held, Schedule, response, HasTime, capacity_at}
use Rattle.model.specs.Shortfall.{size, room, Short, NoShorter, Greatest}
use Rattle.model.specs.Order.{Agree, FirstOf}
use Rattle.model.specs.Time.{LeastTime, members, room_at, ShortAt, GreatestEarliest, Certificate}
use Rattle.model.specs.Plan.{Optimal}
use Rattle.basics.proofs.Tests.{differ, and_left, and_right, and_both, below_suc, below_or}
use Rattle.model.proofs.Capacity.{response_within, within_response}
use Rattle.model.proofs.Duality.{none_short}
use Rattle.model.proofs.Time.{in_time, certificate, certificate_greatest, certified_equal}
use Rattle.model.proofs.Order.{Lowest, InTime, lowest_start, lowest_keep, lowest_more, lowest_first, first_same, first_has_time}
use Rattle.model.proofs.Earliest.{first_number, time_positive}
use Rattle.model.proofs.Plan.{plan_unique, no_blocks}
use Rattle.model.proofs.Subsets.{put, put_here, put_below}
use Rattle.model.proofs.Short.{short_exists}
use Rattle.model.proofs.Hall.{short_or, hall, hall_or}

pub schedule_exists : (m : Case) → Held m → (a : ℕ → ℕ) × Schedule m a
unfolding Held Schedule Valid Agree
schedule_exists m c = upto m.blocks (omega arith)
  where
    upto : (k : ℕ) → k ≤ m.blocks → (a : ℕ → ℕ) × ((b : ℕ) → b < k → (a b < m.disks) × (m.copy b (a b) ≡ true))
    upto zero h = (λ b. 0, λ b l. let z : ⊥ = omega arith in absurd z)
    upto (suc k) h =
        let f = upto k (omega arith) in
        let d = c k h in
        let a : ℕ → ℕ = put k d.0 f.0 in (
          a,
          λ b l.
              ⊎_elim
              (λ r. let s : a b ≡ f.0 b = put_below k d.0 f.0 b r in
              (omega (arith, s, (f.1 b r).0), ap (m.copy b) s ∙ (f.1 b r).1))
              (λ r. let s : a b ≡ d.0 = ap a r ∙ put_here k d.0 f.0 in
              (omega (arith, s, d.1), ap₂ m.copy r s ∙ d.2))
              (below_suc k b l),
        )

-- ---- the least time

-- whether no set is short at t
fine_at : Case → ℕ → Bool
fine_at m t = ⊎_elim (λ s. false) (λ f. true) (short_or m.disks m.blocks m.copy (capacity_at m t))

fine_true : (m : Case) (t : ℕ) → ((S : ℕ → Bool) → members m S ≤ room_at m t S) → fine_at m t ≡ true
unfolding fine_at members room_at Short
fine_true m t f = go (short_or m.disks m.blocks m.copy (capacity_at m t))
  where
    go : (x : ((S : ℕ → Bool) × Short m.disks m.blocks m.copy (capacity_at m t) S)
        ⊎ ((S : ℕ → Bool) → size m.blocks S ≤ room m.disks m.blocks m.copy (capacity_at m t) S))
        → ⊎_elim (λ s. false) (λ g. true) x ≡ true
    go (inl s) = let z : ⊥ = omega (arith, f s.0, s.1) in absurd z
    go (inr g) = refl

fine_here : (m : Case) (t : ℕ) → fine_at m t ≡ true → (S : ℕ → Bool) → members m S ≤ room_at m t S
unfolding fine_at members room_at
fine_here m t e = go (short_or m.disks m.blocks m.copy (capacity_at m t)) e
  where
    go : (x : ((S : ℕ → Bool) × Short m.disks m.blocks m.copy (capacity_at m t) S)
        ⊎ ((S : ℕ → Bool) → size m.blocks S ≤ room m.disks m.blocks m.copy (capacity_at m t) S))
        → ⊎_elim (λ s. false) (λ g. true) x ≡ true
        → (S : ℕ → Bool) → size m.blocks S ≤ room m.disks m.blocks m.copy (capacity_at m t) S
    go (inl s) k = absurd (differ k refl)
    go (inr g) k = g

pub certificate_exists : (m : Case) → Priced m → Held m → 0 < m.blocks
    → (R : ℕ) × (a : ℕ → ℕ) × (S : ℕ → Bool) × Certificate m R a S
unfolding Schedule ShortAt members room_at
certificate_exists m p c h =
    let s = schedule_exists m c in
    let by : ℕ = response m s.0 in
    let f = first_number (fine_at m) by (fine_true m by (in_time m s.0 by p s.1 (le_refl by))) in
    let R : ℕ = f.0 in
    let g = hall m.disks m.blocks m.copy (capacity_at m R) (fine_here m R f.1) in
    let in_r : response m g.0 ≤ R = within_response m g.0 R p g.2 in
    let one : 1 ≤ R = omega (arith, in_r, time_positive m g.0 p h g.1) in
    ⊎_elim
    (λ t. (R, g.0, t.0, record { schedule = g.1; by_then = in_r; short = t.1 }))
    (λ t. let z : ⊥ = omega (arith, one, f.2 (R - 1) (fine_true m (R - 1) t)) in absurd z)
    (short_or m.disks m.blocks m.copy (capacity_at m (R - 1)))

-- both numbers exist and are equal
pub demand_three : (m : Case) → Priced m → Held m → 0 < m.blocks → (R : ℕ) × LeastTime m R × GreatestEarliest m R
demand_three m p c h =
    let f = certificate_exists m p c h in
    let g = certificate m f.0 f.1 f.2 p f.3 in
    (f.0, g.0, g.1)

-- and no other pair of them is unequal
pub times_equal : (m : Case) → Priced m → Held m → 0 < m.blocks
    → (R R' : ℕ) → LeastTime m R → GreatestEarliest m R' → R ≡ R'
times_equal m p c h =
    let f = certificate_exists m p c h in
    certified_equal m f.0 f.1 f.2 p f.3

-- ---- the first in dictionary order

-- a schedule within capacities
abbrev Fits : ℕ → ℕ → (ℕ → ℕ → Bool) → (ℕ → ℕ) → (ℕ → ℕ) → Type 0
Fits n q copy c a = Valid n q copy a × Within n q c a

-- copies cut down: the blocks below k keep their disk, block k gets a lower one
allowed : ℕ → (ℕ → ℕ) → ℕ → ℕ → Bool
allowed k a b d = cond (ltb b k) (eqb d (a b)) (cond (eqb b k) (ltb d (a k)) true)

allowed_below : (k : ℕ) (a : ℕ → ℕ) (b d : ℕ) → b < k → allowed k a b d ≡ eqb d (a b)
unfolding allowed
allowed_below k a b d h = ap (λ (t : Bool). cond t (eqb d (a b)) (cond (eqb b k) (ltb d (a k)) true)) (lt-ltb b k h)

allowed_at : (k : ℕ) (a : ℕ → ℕ) (d : ℕ) → allowed k a k d ≡ ltb d (a k)
unfolding allowed
allowed_at k a d =
    ap₂ (λ (t s : Bool). cond t (eqb d (a k)) (cond s (ltb d (a k)) true)) (le-ltb k k (omega arith)) (eq-eqb k k refl)

allowed_above : (k : ℕ) (a : ℕ → ℕ) (b d : ℕ) → k < b → allowed k a b d ≡ true
unfolding allowed
allowed_above k a b d h =
    ap₂ (λ (t s : Bool). cond t (eqb d (a b)) (cond s (ltb d (a k)) true)) (le-ltb b k (omega arith)) (ne_eqb b k (omega arith))

module _ (n q : ℕ) (copy : ℕ → ℕ → Bool) (c : ℕ → ℕ) where
  cut : ℕ → (ℕ → ℕ) → ℕ → ℕ → Bool
  cut k a b d = copy b d && allowed k a b d

  cut_valid : (k : ℕ) (a x : ℕ → ℕ) → Valid n q (cut k a) x → Valid n q copy x
  unfolding Valid cut
  cut_valid k a x v b h = ((v b h).0, and_left (copy b (x b)) (allowed k a b (x b)) (v b h).1)

  cut_agree : (k : ℕ) (a x : ℕ → ℕ) → k ≤ q → Valid n q (cut k a) x → Agree k x a
  unfolding Valid cut Agree
  cut_agree k a x l v b h =
      eqb-true (x b) (a b)
      (sym (allowed_below k a b (x b) h) ∙ and_right (copy b (x b)) (allowed k a b (x b)) (v b (omega arith)).1)

  cut_lower : (k : ℕ) (a x : ℕ → ℕ) → k < q → Valid n q (cut k a) x → x k < a k
  unfolding Valid cut
  cut_lower k a x l v =
      ltb-true (x k) (a k) (sym (allowed_at k a (x k)) ∙ and_right (copy k (x k)) (allowed k a k (x k)) (v k l).1)

  -- a schedule that agrees below k and has a lower disk at k is one of the copies cut down
  valid_cut : (k : ℕ) (a x : ℕ → ℕ) → Valid n q copy x → Agree k x a → x k < a k → Valid n q (cut k a) x
  unfolding Valid cut Agree
  valid_cut k a x v e l b h = (
    (v b h).0,
    and_both (copy b (x b)) (allowed k a b (x b)) (v b h).1
        (below_or b k
        (λ r. allowed_below k a b (x b) r ∙ eq-eqb (x b) (a b) (e b r))
        (λ r. below_or k b
        (λ s. allowed_above k a b (x b) s)
        (λ s. let j : b ≡ k = omega arith in
        ap (λ (i : ℕ). allowed k a i (x i)) j ∙ allowed_at k a (x k) ∙ lt-ltb (x k) (a k) l))),
  )

  -- block k goes lower as long as the copies cut down leave no set short
  settle : (k : ℕ) → k < q → (fuel : ℕ) (a : ℕ → ℕ) → a k ≤ fuel → Lowest k (Fits n q copy c) a
      → (x : ℕ → ℕ) × Lowest (suc k) (Fits n q copy c) x
  settle k h zero a f l =
      (a, lowest_more (Fits n q copy c) k a l (λ x p e. omega arith))
  settle k h (suc fuel) a f l =
      ⊎_elim
      (λ g. let x : ℕ → ℕ = g.0 in
      settle k h fuel x (omega (arith, cut_lower k a x h g.1))
      (lowest_keep (Fits n q copy c) k a x l (cut_valid k a x g.1, g.2) (cut_agree k a x (omega arith) g.1)))
      (λ s. (
        a,
        lowest_more (Fits n q copy c) k a l (λ x p e.
            below_or (x k) (a k)
            (λ r. absurd (none_short n q (cut k a) c x (valid_cut k a x p.0 e r) p.1 s.0 s.1))
            (λ r. r)),
      ))
      (hall_or n q (cut k a) c)

  pub first_exists : (a : ℕ → ℕ) → Fits n q copy c a → (x : ℕ → ℕ) × FirstOf q (Fits n q copy c) x
  first_exists a p = let f = upto q (omega arith) in (f.0, lowest_first (Fits n q copy c) q f.0 f.1)
    where
      upto : (k : ℕ) → k ≤ q → (x : ℕ → ℕ) × Lowest k (Fits n q copy c) x
      upto zero l = (a, lowest_start (Fits n q copy c) a p)
      upto (suc k) l =
          let f = upto k (omega arith) in
          settle k l (f.0 k) f.0 (omega arith) f.1

pub first_in_time_exists : (m : Case) (R : ℕ) → Priced m → LeastTime m R → (a : ℕ → ℕ) × FirstOf m.blocks (HasTime m R) a
unfolding InTime Schedule
first_in_time_exists m R p l =
    let a : ℕ → ℕ = l.reached.0 in
    let f =
    first_exists m.disks m.blocks m.copy (capacity_at m R) a
    (l.reached.1, response_within m a R p (omega (arith, l.reached.2))) in (
      f.0,
      first_has_time m R m.blocks f.0 l
          (first_same (Fits m.disks m.blocks m.copy (capacity_at m R)) (InTime m R) m.blocks f.0
          (λ x h. (h.0, within_response m x R p h.1))
          (λ x h. (h.0, response_within m x R p h.1))
          f.1),
    )

pub plan_exists : (m : Case) → Priced m → Held m → (R : ℕ) × (a : ℕ → ℕ) × (S : ℕ → Bool) × Optimal m R a S
plan_exists m p c =
    below_or 0 m.blocks
    (λ h.
    let f = demand_three m p c h in
    let R : ℕ = f.0 in
    let a = first_in_time_exists m R p f.1 in
    let s = short_exists m.disks m.blocks m.copy (capacity_at m (R - 1)) in
    (R, a.0, s.0, record { least = f.1; first = a.1; short = s.1 }))
    (λ h. (0, λ b. 0, λ b. false, no_blocks m (λ b. 0) (λ b. false) (omega arith)))

-- exactly one
pub plan_one : (m : Case) → Priced m → Held m
    → (R : ℕ) × (a : ℕ → ℕ) × (S : ℕ → Bool)
    × Optimal m R a S
    × ((R' : ℕ) (a' : ℕ → ℕ) (S' : ℕ → Bool) → Optimal m R' a' S' → (R ≡ R') × Agree m.blocks a a' × Agree m.blocks S S')
plan_one m p c =
    let f = plan_exists m p c in
    (f.0, f.1, f.2, f.3, λ R' a' S' l. plan_unique m f.0 R' f.1 a' f.2 S' f.3 l)

-- ---- what a plan tells

pub plan_certificate : (m : Case) (R : ℕ) (a : ℕ → ℕ) (S : ℕ → Bool) → Priced m → 0 < m.blocks → Optimal m R a S → Certificate m R a S
unfolding HasTime Schedule ShortAt Short Greatest NoShorter
plan_certificate m R a S p h l =
    let v : Schedule m a = l.first.holds.0 in
    let one : 1 ≤ R = omega (arith, time_positive m a p h v, l.first.holds.1) in
    record {
      schedule = v;
      by_then = omega (arith, l.first.holds.1);
      short =
          ⊎_elim
          (λ g. let z : ⊥ = omega (arith, one, l.least.lower g.0 g.1, within_response m g.0 (R - 1) p g.2) in absurd z)
          (λ s. omega (arith, l.short.greatest s.0, s.1))
          (hall_or m.disks m.blocks m.copy (capacity_at m (R - 1)));
    }

pub plan_greatest : (m : Case) (R : ℕ) (a : ℕ → ℕ) (S : ℕ → Bool) → Priced m → 0 < m.blocks → Optimal m R a S → GreatestEarliest m R
plan_greatest m R a S p h l = certificate_greatest m R a S p (plan_certificate m R a S p h l)

-- a plan's short set is not empty
pub plan_short : (m : Case) (R : ℕ) (a : ℕ → ℕ) (S : ℕ → Bool) → Priced m → 0 < m.blocks → Optimal m R a S → 0 < members m S
unfolding members ShortAt Short
plan_short m R a S p h l = omega (arith, (plan_certificate m R a S p h l).short)
