-- The capacities of some disks at a time, summed.
--     Left, left_all, left_next disks of a mask that are still to come, at first all, each turn without the first of them
--     rooms, rooms_all          the capacities of the disks of a list, summed; those of a mask's disks are its room
--     rooms_first, rooms_end    without its first disk the list has its capacity less; at its end all is summed
--     room_most                 the sum is no large number
--     room_grows, room_more     a later time has no less room, and more where one disk has read more
--     able_at, alone_at         a disk reads blocks from its start on, m of them in m times its cost
--     enough_alone, enough_last    times at which there is enough room: when one disk alone has it, and the end of all times
--     first_room_unique         there is one first time
use Prim.Native.Nat.{ℕ, zero, suc, ◌+◌, ◌-◌, ◌*◌, ◌/◌, ◌≤◌, ◌<◌, ◌^◌, min, max}
use mathlib.Core.Path.{◌≡◌, ap, sym, ◌∙◌}
use mathlib.Core.Logic.{⊎_elim}
use mathlib.Core.Bool.{true}
use mathlib.Core.List.{List, [], ◌∷◌}
use native.Mathlib.Nat.{le_antisymm, le-mul_of_pos_right, div-le_self, add-mul-div_right}
use native.Mathlib.Omega.{arith}
use lib.Dec.{ltb}
use lib.ListN.{get_or}
use borrow.Author.Tests.{ltb-true, ltb-false}
use Rattle.basics.specs.Limits.{disks_most, time_most}
use Rattle.basics.specs.Lists.{All}
use Rattle.mask.specs.Has.{has}
use Rattle.mask.specs.Disks.{disks_of}
use Rattle.mask.proofs.Listed.{disks_held, disks_total, each_first}
use Rattle.std.specs.List.{sum_by}
use Rattle.std.proofs.lemmas.List.Sums.{sum_by-cons}
use Rattle.basics.specs.Count.{sum, gate}
use Rattle.model.specs.Capacity.{capacity}
use Rattle.basics.proofs.Tests.{by_cases, below_suc}
use Rattle.basics.proofs.Count.{gate_true, gate_le, gate_mono, sum_le}
use Rattle.model.proofs.Capacity.{capacity_before, capacity_after, capacity_grows}
use Rattle.places.specs.Table.{Table}
use Rattle.capacity.specs.Capacities.{Small, room_of, Awaited, FirstRoom}
use Rattle.capacity.specs.Parts.{Alone, Enough}

-- ---- the disks of a mask one by one

-- ds are disks of x, and the first of them is below n
pub record Left (n x : ℕ) (ds : List ℕ) : Type 0 where
  pub each : All (λ d. has x d ≡ true) ds
  pub small : (d : ℕ) (rest : List ℕ) → ds ≡ d ∷ rest → d < n

module _ {n x : ℕ} (s : Small n x) where
  left : {ds : List ℕ} → All (λ d. has x d ≡ true) ds → Left n x ds
  left h = record { each = h; small = λ d rest e. s d (each_first _ e h).0 }

  pub left_all : Left n x (disks_of x)
  left_all = left (disks_held x)

  pub left_next : {ds rest : List ℕ} {d : ℕ} → Left n x ds → ds ≡ d ∷ rest → (has x d ≡ true) × Left n x rest
  left_next l e = let p = each_first _ e l.each in (p.0, left p.1)

-- the capacities of the disks of a list at a time
abbrev pub rooms : List ℕ → List ℕ → ℕ → List ℕ → ℕ
rooms costs starts t ds = sum_by (λ d. capacity (get_or starts d 0) (get_or costs d 0) t) ds

pub rooms_all : (n : ℕ) (costs starts : List ℕ) (x t : ℕ) → n ≤ disks_most → x < 2 ^ disks_most → Small n x
    → room_of n costs starts x t ≡ rooms costs starts t (disks_of x)
rooms_all n costs starts x t = disks_total (λ d. capacity (get_or starts d 0) (get_or costs d 0) t) n x

module _ (costs starts : List ℕ) (t : ℕ) {ds : List ℕ} where
  pub rooms_first : {d : ℕ} {rest : List ℕ} → ds ≡ d ∷ rest
      → rooms costs starts t ds ≡ capacity (get_or starts d 0) (get_or costs d 0) t + rooms costs starts t rest
  rooms_first {d} {rest} e =
      let f : ℕ → ℕ = λ i. capacity (get_or starts i 0) (get_or costs i 0) t in
      ap (sum_by f) e ∙ sum_by-cons f d rest

  pub rooms_end : ds ≡ [] → rooms costs starts t ds ≡ 0
  rooms_end e = ap (rooms costs starts t) e

-- ---- sums of capacities

-- a sum of n numbers below 2 ^ 32
sum_most : (n : ℕ) (f : ℕ → ℕ) → ((d : ℕ) → f d < 2 ^ 32) → sum n f ≤ n * 2 ^ 32
unfolding sum
sum_most zero f h = omega arith
sum_most (suc n) f h = omega (arith, sum_most n f h, h n)

-- a term that is m more, and no term less
sum_more : (n : ℕ) (f g : ℕ → ℕ) (m d : ℕ) → d < n → ((e : ℕ) → e < n → f e ≤ g e) → f d + m ≤ g d → sum n f + m ≤ sum n g
unfolding sum
sum_more zero f g m d l h k = omega arith
sum_more (suc n) f g m d l h k =
    ⊎_elim
    (λ i. omega (arith, sum_more n f g m d i (λ e j. h e (omega arith)) k, h n (omega arith)))
    (λ i. omega (arith, sum_le n f g (λ e j. h e (omega arith)), ap f i, ap g i))
    (below_suc n d l)

pub capacity_most : (s c t : ℕ) → capacity s c t ≤ t
capacity_most s c t =
    by_cases (ltb t s)
    (λ e. omega (arith, capacity_before s c t (ltb-true t s e)))
    (λ e. omega (arith, capacity_after s c t (ltb-false t s e), div-le_self (t - s) c))

pub room_most : (n : ℕ) (costs starts : List ℕ) (x t : ℕ) → t < 2 ^ 32 → room_of n costs starts x t ≤ n * 2 ^ 32
room_most n costs starts x t h =
    sum_most n (λ d. gate (has x d) (capacity (get_or starts d 0) (get_or costs d 0) t))
    (λ d. let c : ℕ = capacity (get_or starts d 0) (get_or costs d 0) t in
    omega (arith, gate_le (has x d) c, capacity_most (get_or starts d 0) (get_or costs d 0) t))

module _ {n : ℕ} {costs starts : List ℕ} (tb : Table n costs starts) (x t u : ℕ) (h : t ≤ u) where
  grows : (d : ℕ) → d < n → capacity (get_or starts d 0) (get_or costs d 0) t ≤ capacity (get_or starts d 0) (get_or costs d 0) u
  grows d l = capacity_grows (get_or starts d 0) (get_or costs d 0) t u (tb.priced d l) h

  pub room_grows : room_of n costs starts x t ≤ room_of n costs starts x u
  room_grows = sum_le n _ _ (λ d l. gate_mono (has x d) (has x d) _ _ (λ e. e) (grows d l))

  pub room_more : (d m : ℕ) → d < n → has x d ≡ true
      → capacity (get_or starts d 0) (get_or costs d 0) t + m ≤ capacity (get_or starts d 0) (get_or costs d 0) u
      → room_of n costs starts x t + m ≤ room_of n costs starts x u
  room_more d m l k g =
      sum_more n (λ e. gate (has x e) (capacity (get_or starts e 0) (get_or costs e 0) t))
      (λ e. gate (has x e) (capacity (get_or starts e 0) (get_or costs e 0) u)) m d l
      (λ e i. gate_mono (has x e) (has x e) _ _ (λ j. j) (grows e i))
      (omega (
        arith,
        g,
        gate_le (has x d) (capacity (get_or starts d 0) (get_or costs d 0) t),
        gate_true (has x d) (capacity (get_or starts d 0) (get_or costs d 0) u) k,
      ))

-- ---- one disk

-- the time that it has, over its cost
pub able_at : (s c t : ℕ) → (t - s) / c ≡ capacity s c t
able_at s c t =
    by_cases (ltb t s)
    (λ e. let l = ltb-true t s e in
    let z : t - s ≡ 0 = omega arith in
    ap (λ (y : ℕ). y / c) z ∙ omega (arith, div-le_self 0 c, capacity_before s c t l))
    (λ e. sym (capacity_after s c t (ltb-false t s e)))

pub alone_at : {s c t m : ℕ} → 0 < c → Alone s c t m (max t s + m * c)
alone_at {s} {c} {t} {m} p =
    let k : max t s + m * c - s ≡ (t - s) + m * c = omega arith in
    record {
      later = omega (arith, le-mul_of_pos_right m p);
      reads = sym (able_at s c (max t s + m * c)) ∙ ap (λ (y : ℕ). y / c) k ∙ add-mul-div_right (t - s) m p
          ∙ omega (arith, able_at s c t);
    }

-- ---- times at which there is enough room

module _ {n : ℕ} {costs starts : List ℕ} {t x more : ℕ} (a : Awaited n costs starts t x more) where
  -- sooner, if one of x's disks alone has read so many more then
  pub enough_alone : (d : ℕ) {high r : ℕ} → has x d ≡ true → Alone (get_or starts d 0) (get_or costs d 0) t more r
      → Enough n costs starts t x more high → Enough n costs starts t x more (min high r)
  enough_alone d {high} {r} h k e =
      by_cases (ltb high r)
      (λ i. let l : min high r ≡ high = omega (arith, ltb-true high r i) in rw l e)
      (λ i. let l : min high r ≡ r = omega (arith, ltb-false high r i) in
      rw l
      (record {
        later = omega (arith, k.later, a.some);
        time = omega (arith, ltb-false high r i, e.time);
        after = room_more a.table x t r (omega (arith, k.later)) d more (a.small d h) h (omega (arith, k.reads));
      }))

  pub enough_last : Enough n costs starts t x more time_most
  enough_last =
      record {
        later = by_cases (ltb t time_most) (λ e. ltb-true t time_most e)
            (λ e. let z : ⊥ = omega (arith, a.last, a.some, room_grows a.table x time_most t (ltb-false t time_most e)) in absurd z);
        time = omega arith;
        after = a.last;
      }

-- there is one first time
module _ {n : ℕ} {costs starts : List ℕ} {t x more : ℕ} (tb : Table n costs starts) where
  first_below : {r r' : ℕ} → FirstRoom n costs starts t x more r → FirstRoom n costs starts t x more r' → r ≤ r'
  first_below {r} {r'} f f' =
      by_cases (ltb r' r)
      (λ e. let l = ltb-true r' r e in absurd (omega (arith, f.before, f'.after, room_grows tb x r' (r - 1) (omega arith))))
      (λ e. ltb-false r' r e)

  pub first_room_unique : {r r' : ℕ} → FirstRoom n costs starts t x more r → FirstRoom n costs starts t x more r' → r ≡ r'
  first_room_unique f f' = le_antisymm (first_below f f') (first_below f' f)
