-- First whole times.
--     first_number       the first number that passes a test which some number passes
--     disks_earliest     the first time at which a set of disks can read k blocks
--     earliest_exists    every set of blocks has an earliest time
--     time_positive      a schedule of at least one block takes time
use Prim.Native.Nat.{ℕ, zero, suc, ◌≤◌, ◌<◌}
use mathlib.Core.Path.{◌≡◌, refl, sym, ap, ◌∙◌}
use mathlib.Core.Logic.{◌⊎◌, inl, inr, ⊎_elim}
use mathlib.Core.Bool.{Bool, true, ◌&&◌}
use native.Mathlib.Nat.{le_refl}
use native.Mathlib.Omega.{arith}
use lib.Dec.{leb, eqb}
use borrow.Author.Tests.{leb-true, le-leb, eq-eqb}
use Rattle.basics.specs.Count.{gate, sum}
use Rattle.model.specs.Assignment.{reads, Valid}
use Rattle.model.specs.Capacity.{end_time}
use Rattle.model.specs.Case.{Case, Priced, Held, Schedule, end_of, response, capacity_at}
use Rattle.model.specs.Shortfall.{touches, size, room}
use Rattle.model.specs.Time.{members, room_at, Earliest}
use Rattle.basics.proofs.Tests.{by_cases, differ, and_both, below_or}
use Rattle.basics.proofs.Count.{gate_true, sum_term, count_here, count_some, any_here, latest_term}
use Rattle.model.proofs.Capacity.{ends_fits}

-- none below t passes, or there is a first below t
search_below : (p : ℕ → Bool) (t : ℕ)
    → ((u : ℕ) → p u ≡ true → t ≤ u) ⊎ ((u : ℕ) × (p u ≡ true) × ((x : ℕ) → p x ≡ true → u ≤ x))
search_below p zero = inl (λ u e. omega arith)
search_below p (suc t) =
    ⊎_elim
    (λ f. by_cases (p t)
    (λ e. inr (t, e, f))
    (λ e. inl (λ u k. below_or t u (λ l. l) (λ l.
    let r : u ≡ t = omega (arith, f u k) in absurd (differ (ap p (sym r) ∙ k) e)))))
    (λ f. inr f)
    (search_below p t)

pub first_number : (p : ℕ → Bool) (t : ℕ) → p t ≡ true → (u : ℕ) × (p u ≡ true) × ((x : ℕ) → p x ≡ true → u ≤ x)
first_number p t e = ⊎_elim (λ f. (t, e, f)) (λ f. f) (search_below p t)

-- the first time at which the disks of D can read k blocks: one of them alone can by the end of k blocks
pub disks_earliest : (m : Case) (D : ℕ → Bool) (k d : ℕ) → Priced m → d < m.disks → D d ≡ true
    → (t : ℕ)
    × (k ≤ sum m.disks (λ i. gate (D i) (capacity_at m t i)))
    × ((u : ℕ) → k ≤ sum m.disks (λ i. gate (D i) (capacity_at m u i)) → t ≤ u)
unfolding Priced capacity_at
disks_earliest m D k d p l e =
    let able : ℕ → ℕ = λ t. sum m.disks (λ i. gate (D i) (capacity_at m t i)) in
    let by : ℕ = end_time (m.start d) (m.cost d) k in
    let own : k ≤ capacity_at m by d = ends_fits (m.start d) (m.cost d) k by (p d l) (le_refl by) in
    let enough : k ≤ able by =
    omega (arith, own, gate_true (D d) (capacity_at m by d) e, sum_term m.disks (λ i. gate (D i) (capacity_at m by i)) d l) in
    let f = first_number (λ t. leb k (able t)) by (le-leb k (able by) enough) in
    (f.0, leb-true k (able f.0) f.1, λ u h. f.2 u (le-leb k (able u) h))

pub earliest_exists : (m : Case) (S : ℕ → Bool) → Priced m → Held m → 0 < members m S → (t : ℕ) × Earliest m S t
unfolding Held members size room_at room touches
earliest_exists m S p c h =
    let s = count_some m.blocks S h in
    let k = c s.0 s.1 in
    let D : ℕ → Bool = touches m.blocks m.copy S in
    let here : D k.0 ≡ true =
    any_here m.blocks (λ b. S b && m.copy b k.0) s.0 s.1 (and_both (S s.0) (m.copy s.0 k.0) s.2 k.2) in
    let f = disks_earliest m D (members m S) k.0 p k.1 here in
    (f.0, record { enough = f.1; sooner = f.2 })

pub time_positive : (m : Case) (a : ℕ → ℕ) → Priced m → 0 < m.blocks → Schedule m a → 0 < response m a
unfolding Priced Schedule Valid response end_of reads end_time
time_positive m a p h v =
    let d : ℕ = a 0 in
    let l : d < m.disks = (v 0 h).0 in
    omega (
      arith,
      latest_term m.disks (end_of m a) d l,
      busy_ends (m.start d) (m.cost d) (reads m.blocks a d) (p d l) (busy m.blocks a h),
    )
  where
    busy : (q : ℕ) (x : ℕ → ℕ) → 0 < q → 0 < reads q x (x 0)
    busy q x k = count_here q (λ b. eqb (x b) (x 0)) 0 k (eq-eqb (x 0) (x 0) refl)

    busy_ends : (s c b : ℕ) → 0 < c → 0 < b → 0 < end_time s c b
    busy_ends s c zero k j = omega arith
    busy_ends s c (suc b) k j = omega arith
