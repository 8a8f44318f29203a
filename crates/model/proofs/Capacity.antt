-- Capacity and end time say the same thing.
--     capacity_before, capacity_after   the two cases of the capacity
--     capacity_law                      b blocks fit by t exactly if they end by t
--     capacity_grows                    a later time has no smaller capacity (001, Lemma 5.3)
--     end_time_idle, end_time_is          the two cases of the end time
--     capacity_at_end, capacity_before_end    at the end of b blocks it is b, one microsecond sooner b - 1
--     start_within, start_mono            a start is at most delay and load together; neither makes it sooner by being longer
--     end_by_idle, end_by_is, capacity_by_before, capacity_by_after, capacity_by_law, capacity_by_grows,
--     capacity_by_at_end, capacity_by_before_end     all of this by the start rule
--     base_end, base_capacity           where disks have costs, loads and delays, these are their ends and capacities
--     response_law                      a schedule is in time exactly if every disk's blocks are within its capacity
--                                       (001, Lemma 5.2, for one schedule)
use Prim.Native.Nat.{ℕ, zero, suc, ◌+◌, ◌-◌, ◌*◌, ◌/◌, ◌≤◌, ◌<◌}
use mathlib.Core.Path.{◌≡◌, refl, sym, subst, ◌∙◌}
use mathlib.Core.Logic.{◌↔◌}
use mathlib.Core.Bool.{Bool}
use native.Mathlib.Nat.{le-div_iff_mul-le, le_refl, le_antisymm, le_trans}
use native.Mathlib.Omega.{arith}
use lib.Dec.{ltb}
use borrow.Author.Tests.{ltb-true, ltb-false, lt-ltb, le-ltb}
use Rattle.model.specs.Assignment.{reads, Within}
use Rattle.model.specs.Capacity.{end_time, capacity}
use Rattle.basics.specs.Choice.{pick}
use Rattle.model.specs.declared.Rule.{Rule}
use Rattle.model.specs.declared.Rule.TheVariants.{Sum, Larger}
use Rattle.model.specs.Case.{Case, Priced, end_of, response, capacity_at, starting, end_by, capacity_by, base}
use Rattle.basics.proofs.Tests.{by_cases}
use Rattle.basics.proofs.Count.{latest_term, latest_le}

pub capacity_before : (s c t : ℕ) → t < s → capacity s c t ≡ 0
unfolding capacity pick
capacity_before s c t h = rw (lt-ltb t s h)

pub capacity_after : (s c t : ℕ) → s ≤ t → capacity s c t ≡ (t - s) / c
unfolding capacity pick
capacity_after s c t h = rw (le-ltb t s h)

-- what fits ends in time
pub fits_ends : (s c b t : ℕ) → 0 < c → b ≤ capacity s c t → end_time s c b ≤ t
unfolding end_time
fits_ends s c zero t p h = omega arith
fits_ends s c (suc b) t p h =
    by_cases (ltb t s)
    (λ e. let z : ⊥ = omega (arith, capacity_before s c t (ltb-true t s e)) in absurd z)
    (λ e. let l : s ≤ t = ltb-false t s e in
    let k : suc b * c ≤ t - s = (le-div_iff_mul-le p).0 (subst (λ (x : ℕ). suc b ≤ x) (capacity_after s c t l) h) in
    omega arith)

-- what ends in time fits
pub ends_fits : (s c b t : ℕ) → 0 < c → end_time s c b ≤ t → b ≤ capacity s c t
unfolding end_time
ends_fits s c zero t p h = omega arith
ends_fits s c (suc b) t p h =
    let l : s ≤ t = omega arith in
    subst (λ (x : ℕ). suc b ≤ x) (sym (capacity_after s c t l)) ((le-div_iff_mul-le p).1 (omega arith))

pub capacity_law : (s c b t : ℕ) → 0 < c → (b ≤ capacity s c t) ↔ (end_time s c b ≤ t)
capacity_law s c b t p = (fits_ends s c b t p, ends_fits s c b t p)

pub capacity_grows : (s c t u : ℕ) → 0 < c → t ≤ u → capacity s c t ≤ capacity s c u
capacity_grows s c t u p h =
    ends_fits s c (capacity s c t) u p (le_trans (fits_ends s c (capacity s c t) t p (le_refl (capacity s c t))) h)

-- one block more ends later
pub end_time_rises : (s c b : ℕ) → 0 < c → end_time s c b < end_time s c (suc b)
unfolding end_time
end_time_rises s c zero p = omega arith
end_time_rises s c (suc b) p = omega arith

-- from the end of b blocks on, and before the end of one more, the capacity is b
capacity_between : (s c b t : ℕ) → 0 < c → end_time s c b ≤ t → t < end_time s c (suc b) → capacity s c t ≡ b
capacity_between s c b t p l h =
    le_antisymm
    (by_cases (ltb b (capacity s c t))
    (λ e. let k = fits_ends s c (suc b) t p (ltb-true b (capacity s c t) e) in
    let z : ⊥ = omega (arith, k, h) in absurd z)
    (λ e. ltb-false b (capacity s c t) e))
    (ends_fits s c b t p l)

capacity_sooner : (s c b : ℕ) → 0 < c → capacity s c (end_time s c (suc b) - 1) ≡ b
capacity_sooner s c b p =
    capacity_between s c b (end_time s c (suc b) - 1) p
    (omega (arith, end_time_rises s c b p))
    (omega (arith, end_time_rises s c b p))

-- an idle disk ends at 0, whatever its start
pub end_time_idle : (s c : ℕ) → end_time s c 0 ≡ 0
unfolding end_time
end_time_idle s c = refl

-- the end of b blocks, b at least 1, as the document writes it
pub end_time_is : (s c b : ℕ) → 1 ≤ b → end_time s c b ≡ s + b * c
unfolding end_time
end_time_is s c zero h = omega arith
end_time_is s c (suc b) h = refl

pub capacity_at_end : (s c b : ℕ) → 0 < c → 1 ≤ b → capacity s c (s + b * c) ≡ b
capacity_at_end s c b p h =
    subst (λ (x : ℕ). capacity s c x ≡ b) (end_time_is s c b h)
    (capacity_between s c b (end_time s c b) p (le_refl (end_time s c b)) (end_time_rises s c b p))

pub capacity_before_end : (s c b : ℕ) → 0 < c → 1 ≤ b → capacity s c (s + b * c - 1) ≡ b - 1
capacity_before_end s c zero p h = let z : ⊥ = omega arith in absurd z
capacity_before_end s c (suc b) p h =
    subst (λ (x : ℕ). capacity s c (x - 1) ≡ b) (end_time_is s c (suc b) h) (capacity_sooner s c b p) ∙ omega arith

-- ---- by the start rule

pub start_within : (r : Rule) (delay load : ℕ) → starting r delay load ≤ delay + load
unfolding starting
start_within Sum delay load = omega arith
start_within Larger delay load = omega arith

pub start_mono : (r : Rule) (delay delay' load load' : ℕ) → delay ≤ delay' → load ≤ load' → starting r delay load ≤ starting r delay' load'
unfolding starting
start_mono Sum delay delay' load load' h k = omega arith
start_mono Larger delay delay' load load' h k = omega arith

module _ (r : Rule) (delay load cost : ℕ) where
  pub end_by_idle : end_by r delay load cost 0 ≡ 0
  unfolding end_by
  end_by_idle = end_time_idle (starting r delay load) cost

  pub end_by_is : (b : ℕ) → 1 ≤ b → end_by r delay load cost b ≡ starting r delay load + b * cost
  unfolding end_by
  end_by_is b h = end_time_is (starting r delay load) cost b h

  pub capacity_by_before : (t : ℕ) → t < starting r delay load → capacity_by r delay load cost t ≡ 0
  unfolding capacity_by
  capacity_by_before t h = capacity_before (starting r delay load) cost t h

  pub capacity_by_after : (t : ℕ) → starting r delay load ≤ t → capacity_by r delay load cost t ≡ (t - starting r delay load) / cost
  unfolding capacity_by
  capacity_by_after t h = capacity_after (starting r delay load) cost t h

  module _ (p : 0 < cost) where
    pub capacity_by_law : (b t : ℕ) → (b ≤ capacity_by r delay load cost t) ↔ (end_by r delay load cost b ≤ t)
    unfolding end_by capacity_by
    capacity_by_law b t = capacity_law (starting r delay load) cost b t p

    pub capacity_by_grows : (t u : ℕ) → t ≤ u → capacity_by r delay load cost t ≤ capacity_by r delay load cost u
    unfolding capacity_by
    capacity_by_grows t u h = capacity_grows (starting r delay load) cost t u p h

    pub capacity_by_at_end : (b : ℕ) → 1 ≤ b → capacity_by r delay load cost (starting r delay load + b * cost) ≡ b
    unfolding capacity_by
    capacity_by_at_end b h = capacity_at_end (starting r delay load) cost b p h

    pub capacity_by_before_end : (b : ℕ) → 1 ≤ b → capacity_by r delay load cost (starting r delay load + b * cost - 1) ≡ b - 1
    unfolding capacity_by
    capacity_by_before_end b h = capacity_before_end (starting r delay load) cost b p h

module _ (r : Rule) (n q : ℕ) (cost load delay : ℕ → ℕ) (copy : ℕ → ℕ → Bool) (d : ℕ) where
  pub base_end : (a : ℕ → ℕ) → end_of (base r n q cost load delay copy) a d ≡ end_by r (delay d) (load d) (cost d) (reads q a d)
  unfolding base end_of end_by
  base_end a = refl

  pub base_capacity : (t : ℕ) → capacity_at (base r n q cost load delay copy) t d ≡ capacity_by r (delay d) (load d) (cost d) t
  unfolding base capacity_at capacity_by
  base_capacity t = refl

-- ---- a schedule's time

pub response_within : (m : Case) (a : ℕ → ℕ) (t : ℕ) → Priced m → response m a ≤ t
    → Within m.disks m.blocks (capacity_at m t) a
unfolding Priced response end_of capacity_at Within
response_within m a t p h d l =
    ends_fits (m.start d) (m.cost d) (reads m.blocks a d) t (p d l)
    (le_trans (latest_term m.disks (end_of m a) d l) h)

pub within_response : (m : Case) (a : ℕ → ℕ) (t : ℕ) → Priced m
    → Within m.disks m.blocks (capacity_at m t) a → response m a ≤ t
unfolding Priced response end_of capacity_at Within
within_response m a t p w =
    latest_le m.disks (end_of m a) t
    (λ d l. fits_ends (m.start d) (m.cost d) (reads m.blocks a d) t (p d l) (w d l))

pub response_law : (m : Case) (a : ℕ → ℕ) (t : ℕ) → Priced m
    → (response m a ≤ t) ↔ Within m.disks m.blocks (capacity_at m t) a
response_law m a t p = (response_within m a t p, within_response m a t p)

pub capacity_at_grows : (m : Case) (t u : ℕ) → Priced m → t ≤ u → (d : ℕ) → d < m.disks → capacity_at m t d ≤ capacity_at m u d
unfolding Priced capacity_at
capacity_at_grows m t u p h d l = capacity_grows (m.start d) (m.cost d) t u (p d l) h
