-- Strong duality, by Hall's marriage theorem with capacities (the greatest flow of 001, Theorem 4.1, is Q exactly where no set is short):
-- where no set is short there is a schedule within capacities. The last block is placed on a disk whose capacity, one less,
-- leaves no set of the other blocks short; were there no such disk, the tight sets that forbid each of them would together be short.
--     hall       no set is short: a schedule within capacities
--     hall_or    a schedule within capacities, or a set that is short
use Prim.Native.Nat.{ℕ, zero, suc, ◌+◌, ◌-◌, ◌≤◌, ◌<◌}
use mathlib.Core.Path.{◌≡◌, refl, sym, ap, ap₂, ◌∙◌}
use mathlib.Core.Logic.{◌⊎◌, inl, inr, ⊎_elim}
use mathlib.Core.Bool.{Bool, true, false, ◌&&◌, ◌||◌, or-false}
use native.Mathlib.Omega.{arith}
use lib.Dec.{ltb, eqb}
use borrow.Author.Tests.{ltb-true, ltb-false, eqb-true, eqb-false}
use Rattle.basics.specs.Count.{bit, gate, sum, count, any}
use Rattle.model.specs.Assignment.{reads, Valid, Within}
use Rattle.model.specs.Shortfall.{touches, size, room, Short}
use Rattle.model.specs.Order.{Agree}
use Rattle.basics.proofs.Tests.{by_cases, differ, or_elim, or_left, or_right, not_here, below_suc, below_or}
use Rattle.basics.proofs.Count.{bit_true, bit_false, gate_false, gate_le, gate_mono, sum_ext, sum_le, sum_zero, sum_point, count_ext}
use Rattle.basics.proofs.Count.{any_ext, any_some}
use Rattle.model.proofs.Duality.{room_ext, touches_mono}
use Rattle.model.proofs.Subsets.{put, put_here, put_other, put_below, FirstOnly, find}
use Rattle.model.proofs.Short.{union, meet, union_size, submodular}

-- ---- one block more

size_put : (q : ℕ) (v : Bool) (S : ℕ → Bool) → size (suc q) (put q v S) ≡ size q S + bit v
unfolding size count sum Agree
size_put q v S =
    ap₂ (λ (x y : ℕ). x + y)
    (sum_ext q (λ i. bit (put q v S i)) (λ i. bit (S i)) (λ i h. ap bit (put_below q v S i h)))
    (ap bit (put_here q v S))

touches_put : (q : ℕ) (copy : ℕ → ℕ → Bool) (v : Bool) (S : ℕ → Bool) (d : ℕ)
    → touches (suc q) copy (put q v S) d ≡ (touches q copy S d || (v && copy q d))
unfolding touches any Agree
touches_put q copy v S d =
    ap₂ (λ (x y : Bool). x || y)
    (any_ext q (λ b. put q v S b && copy b d) (λ b. S b && copy b d) (λ b h. ap (λ (x : Bool). x && copy b d) (put_below q v S b h)))
    (ap (λ (x : Bool). x && copy q d) (put_here q v S))

reads_put : (q d : ℕ) (a : ℕ → ℕ) (e : ℕ) → reads (suc q) (put q d a) e ≡ reads q a e + bit (eqb d e)
unfolding reads count sum Agree
reads_put q d a e =
    ap₂ (λ (x y : ℕ). x + y)
    (sum_ext q (λ i. bit (eqb (put q d a i) e)) (λ i. bit (eqb (a i) e)) (λ i h. ap (λ (x : ℕ). bit (eqb x e)) (put_below q d a i h)))
    (ap (λ (x : ℕ). bit (eqb x e)) (put_here q d a))

room_without : (n q : ℕ) (copy : ℕ → ℕ → Bool) (c : ℕ → ℕ) (S : ℕ → Bool)
    → room n (suc q) copy c (put q false S) ≡ room n q copy c S
unfolding room
room_without n q copy c S =
    sum_ext n (λ d. gate (touches (suc q) copy (put q false S) d) (c d)) (λ d. gate (touches q copy S d) (c d))
    (λ d h. ap (λ (t : Bool). gate t (c d)) (touches_put q copy false S d ∙ or-false (touches q copy S d)))

-- every disk that holds a copy of block q, and has capacity, is touched by T: with block q it has no more room
room_with : (n q : ℕ) (copy : ℕ → ℕ → Bool) (c : ℕ → ℕ) (T : ℕ → Bool)
    → ((d : ℕ) → d < n → copy q d ≡ true → 0 < c d → touches q copy T d ≡ true)
    → room n (suc q) copy c (put q true T) ≤ room n q copy c T
unfolding room
room_with n q copy c T f =
    sum_le n (λ d. gate (touches (suc q) copy (put q true T) d) (c d)) (λ d. gate (touches q copy T d) (c d))
    (λ d h.
    let t : Bool = touches q copy T d in
    let w : Bool = touches (suc q) copy (put q true T) d in
    below_or 0 (c d)
    (λ l. gate_mono w t (c d) (c d)
    (λ e. ⊎_elim (λ r. r) (λ r. f d h r l) (or_elim t (copy q d) (sym (touches_put q copy true T d) ∙ e)))
    (omega arith))
    (λ l. omega (arith, gate_le w (c d))))

-- ---- one place less on disk d

less : ℕ → (ℕ → ℕ) → ℕ → ℕ
less d c = put d (c d - 1) c

less_room : (n q : ℕ) (copy : ℕ → ℕ → Bool) (c : ℕ → ℕ) (S : ℕ → Bool) (d : ℕ) → d < n
    → room n q copy c S ≤ room n q copy (less d c) S + 1
unfolding room less gate
less_room n q copy c S d h =
    let f : ℕ → ℕ = λ e. gate (touches q copy S e) (c e) in
    let g : ℕ → ℕ = λ e. gate (touches q copy S e) (less d c e) in
    let at : f d ≤ g d + 1 = drop (touches q copy S d) (c d) (less d c d) (put_here d (c d - 1) c) in
    omega (arith, sum_point n f g d h (λ i l k. ap (gate (touches q copy S i)) (sym (put_other d (c d - 1) c i k))))
  where
    drop : (t : Bool) (x y : ℕ) → y ≡ x - 1 → gate t x ≤ gate t y + 1
    drop true x y e = omega arith
    drop false x y e = omega arith

less_same : (n q : ℕ) (copy : ℕ → ℕ → Bool) (c : ℕ → ℕ) (S : ℕ → Bool) (d : ℕ) → d < n → touches q copy S d ≡ false
    → room n q copy c S ≡ room n q copy (less d c) S
unfolding room less
less_same n q copy c S d h t =
    let f : ℕ → ℕ = λ e. gate (touches q copy S e) (c e) in
    let g : ℕ → ℕ = λ e. gate (touches q copy S e) (less d c e) in
    omega (
      arith,
      sum_point n f g d h (λ i l k. ap (gate (touches q copy S i)) (sym (put_other d (c d - 1) c i k))),
      gate_false (touches q copy S d) (c d) t,
      gate_false (touches q copy S d) (less d c d) t,
    )

-- ---- tests

short? : (n q : ℕ) (copy : ℕ → ℕ → Bool) (c : ℕ → ℕ) → (ℕ → Bool) → Bool
short? n q copy c S = ltb (room n q copy c S) (size q S)

short_only : (n q : ℕ) (copy : ℕ → ℕ → Bool) (c : ℕ → ℕ) → FirstOnly q (short? n q copy c)
unfolding FirstOnly Agree short? size
short_only n q copy c S S' e = ap₂ (λ (x y : ℕ). ltb x y) (room_ext n q copy c S S' e) (count_ext q S S' e)

-- a set that is short, or none is
pub short_or : (n q : ℕ) (copy : ℕ → ℕ → Bool) (c : ℕ → ℕ)
    → ((S : ℕ → Bool) × Short n q copy c S) ⊎ ((S : ℕ → Bool) → size q S ≤ room n q copy c S)
unfolding Short short?
short_or n q copy c =
    ⊎_elim
    (λ f. inl (f.0, ltb-true (room n q copy c f.0) (size q f.0) f.1))
    (λ f. inr (λ S. ltb-false (room n q copy c S) (size q S) (f S)))
    (find q (short? n q copy c) (short_only n q copy c))

-- ---- where the last block can go

room_none : (n q : ℕ) (copy : ℕ → ℕ → Bool) (c : ℕ → ℕ) → room n q copy c (λ b. false) ≡ 0
unfolding room touches
room_none n q copy c =
    sum_zero n (λ d. gate (any q (λ b. false && copy b d)) (c d))
    (λ d h. gate_false (any q (λ b. false && copy b d)) (c d)
    (not_here (any q (λ b. false && copy b d)) (λ e. differ (any_some q (λ b. false && copy b d) e).2 refl)))

module _ (n q : ℕ) (copy : ℕ → ℕ → Bool) (c : ℕ → ℕ) where
  -- disk d takes block q: its capacity, one less, leaves no set of the other blocks short
  Takes : ℕ → Type 0
  Takes d = (d < n) × (copy q d ≡ true) × (0 < c d) × ((S : ℕ → Bool) → size q S ≤ room n q copy (less d c) S)

  -- a set with no room to spare that touches each disk below k which could take block q
  Bars : ℕ → (ℕ → Bool) → Type 0
  Bars k T = (room n q copy c T ≤ size q T) × ((d : ℕ) → d < k → copy q d ≡ true → 0 < c d → touches q copy T d ≡ true)

  skip : (k : ℕ) (T : ℕ → Bool) → Bars k T → (copy q k ≡ true → 0 < c k → touches q copy T k ≡ true) → Bars (suc k) T
  unfolding Bars
  skip k T b f = (
    b.0,
    λ d h e l.
        ⊎_elim
        (λ r. b.1 d r e l)
        (λ r. ap (touches q copy T) r ∙ f (ap (copy q) (sym r) ∙ e) (omega (arith, ap c r)))
        (below_suc k d h),
  )

  join : (fine : (S : ℕ → Bool) → size q S ≤ room n q copy c S) (k : ℕ) → k < n → (T S : ℕ → Bool) → Bars k T
      → Short n q copy (less k c) S → Bars (suc k) (union T S)
  unfolding Bars Short union
  join fine k h T S b s =
      let in_left : (d : ℕ) → touches q copy T d ≡ true → touches q copy (union T S) d ≡ true =
      touches_mono q copy T (union T S) (λ i l e. or_left (T i) (S i) e) in
      let in_right : (d : ℕ) → touches q copy S d ≡ true → touches q copy (union T S) d ≡ true =
      touches_mono q copy S (union T S) (λ i l e. or_right (T i) (S i) e) in
      let here : touches q copy S k ≡ true =
      by_cases (touches q copy S k)
      (λ e. e)
      (λ e. let z : ⊥ = omega (arith, s, less_same n q copy c S k h e, fine S) in absurd z) in
      skip k (union T S) (
        omega (
          arith,
          b.0,
          s,
          less_room n q copy c S k h,
          submodular n q copy c T S,
          union_size q T S,
          fine (meet T S),
        ),
        λ d l e p. in_left d (b.1 d l e p),
      )
      (λ e l. in_right k here)

  place : (fine : (S : ℕ → Bool) → size q S ≤ room n q copy c S) (k : ℕ) → k ≤ n
      → ((d : ℕ) × Takes d) ⊎ ((T : ℕ → Bool) × Bars k T)
  unfolding Takes Bars
  place fine zero h = inr (λ b. false, (omega (arith, room_none n q copy c), λ d l. let z : ⊥ = omega arith in absurd z))
  place fine (suc k) h =
      ⊎_elim
      (λ f. inl f)
      (λ f. by_cases (copy q k)
      (λ e. below_or 0 (c k)
      (λ l. ⊎_elim
      (λ s. inr (union f.0 s.0, join fine k h f.0 s.0 f.1 s.1))
      (λ s. inl (k, (h, e, l, s)))
      (short_or n q copy (less k c)))
      (λ l. inr (f.0, skip k f.0 f.1 (λ e' l'. let z : ⊥ = omega arith in absurd z))))
      (λ e. inr (f.0, skip k f.0 f.1 (λ e'. absurd (differ e' e)))))
      (place fine k (omega arith))

-- the schedule of the other blocks, and block q on disk d
extend : (n q : ℕ) (copy : ℕ → ℕ → Bool) (c : ℕ → ℕ) (d : ℕ) (a : ℕ → ℕ) → d < n → copy q d ≡ true → 0 < c d
    → Valid n q copy a → Within n q (less d c) a → Valid n (suc q) copy (put q d a) × Within n (suc q) c (put q d a)
unfolding Valid Within Agree less
extend n q copy c d a h e p v w = (
  λ b l.
      ⊎_elim
      (λ r. let s : put q d a b ≡ a b = put_below q d a b r in
      (omega (arith, s, (v b r).0), ap (copy b) s ∙ (v b r).1))
      (λ r. let s : put q d a b ≡ d = ap (put q d a) r ∙ put_here q d a in
      (omega (arith, s), ap₂ copy r s ∙ e))
      (below_suc q b l),
  λ x l.
      by_cases (eqb d x)
      (λ r. let s : d ≡ x = eqb-true d x r in
      omega (
        arith,
        reads_put q d a x,
        bit_true (eqb d x) r,
        w x l,
        ap (put d (c d - 1) c) (sym s),
        put_here d (c d - 1) c,
        ap c s,
      ))
      (λ r. let s : d ≡ x → ⊥ = eqb-false d x r in
      omega (
        arith,
        reads_put q d a x,
        bit_false (eqb d x) r,
        w x l,
        put_other d (c d - 1) c x (λ k. s (sym k)),
      )),
)

pub hall : (n q : ℕ) (copy : ℕ → ℕ → Bool) (c : ℕ → ℕ) → ((S : ℕ → Bool) → size q S ≤ room n q copy c S)
    → (a : ℕ → ℕ) × Valid n q copy a × Within n q c a
unfolding Valid Within Takes Bars reads count sum bit
hall n zero copy c fine = (λ b. 0, λ b h. let z : ⊥ = omega arith in absurd z, λ d h. omega arith)
hall n (suc q) copy c fine =
    let others : (S : ℕ → Bool) → size q S ≤ room n q copy c S =
    λ S. omega (arith, fine (put q false S), size_put q false S, room_without n q copy c S) in
    ⊎_elim
    (λ f. let g = hall n q copy (less f.0 c) f.1.3 in
    let x = extend n q copy c f.0 g.0 f.1.0 f.1.1 f.1.2 g.1 g.2 in
    (put q f.0 g.0, x.0, x.1))
    (λ f. let z : ⊥ =
    omega (arith, fine (put q true f.0), size_put q true f.0, room_with n q copy c f.0 f.1.1, f.1.0) in
    absurd z)
    (place n q copy c others n (omega arith))

pub hall_or : (n q : ℕ) (copy : ℕ → ℕ → Bool) (c : ℕ → ℕ)
    → ((a : ℕ → ℕ) × Valid n q copy a × Within n q c a) ⊎ ((S : ℕ → Bool) × Short n q copy c S)
hall_or n q copy c = ⊎_elim (λ s. inr s) (λ f. inl (hall n q copy c f)) (short_or n q copy c)
