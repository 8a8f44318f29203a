-- Double counting: a set's blocks, split by the disk that reads them.
-- Weak duality: what is placed within capacities leaves no set short.
--     share q a S d     how many blocks of S the assignment reads from disk d
--     left n q a S      how many blocks of S it leaves unplaced
--     unplaced n q a    how many blocks it leaves unplaced in all
--     split             a set's size is what is left of it and its shares
--     weak              a set's size is at most its room and what is left of it
--     weak_duality      a schedule within capacities leaves no set short
use Prim.Native.Nat.{ℕ, zero, suc, ◌+◌, ◌≤◌, ◌<◌}
use mathlib.Core.Path.{◌≡◌, refl, sym, ap, ◌∙◌}
use mathlib.Core.Bool.{Bool, true, false, ◌&&◌}
use native.Mathlib.Nat.{le_antisymm}
use native.Mathlib.Omega.{arith}
use lib.Dec.{leb, eqb}
use borrow.Author.Tests.{leb-true, leb-false, le-leb, lt-leb, eqb-true, eqb-false, ne_eqb}
use Rattle.basics.specs.Count.{bit, gate, sum, count}
use Rattle.model.specs.Assignment.{reads, Partial, Valid, Within}
use Rattle.model.specs.Shortfall.{touches, size, room, Short}
use Rattle.basics.proofs.Tests.{by_cases, differ, and_left, and_right, and_both, not_here}
use Rattle.basics.proofs.Count.{bit_true, bit_false, gate_true, gate_mono, sum_ext, sum_le, sum_zero, sum_add, sum_swap, count_le}
use Rattle.basics.proofs.Count.{count_none, count_here, any_here, any_mono}

-- how many blocks of S the assignment reads from disk d
unfoldable pub share : ℕ → (ℕ → ℕ) → (ℕ → Bool) → ℕ → ℕ
share q a S d = count q (λ b. S b && eqb (a b) d)

-- how many blocks of S it leaves unplaced
unfoldable pub left : ℕ → ℕ → (ℕ → ℕ) → (ℕ → Bool) → ℕ
left n q a S = count q (λ b. S b && leb n (a b))

-- how many blocks it leaves unplaced in all
unfoldable pub unplaced : ℕ → ℕ → (ℕ → ℕ) → ℕ
unplaced n q a = count q (λ b. leb n (a b))

-- a place is at n or above, or is exactly one of the disks below n
place_one : (n x : ℕ) → 1 ≡ bit (leb n x) + sum n (λ d. bit (eqb x d))
unfolding sum
place_one zero x = omega (arith, bit_true (leb 0 x) (le-leb 0 x (omega arith)))
place_one (suc n) x =
    by_cases (leb (suc n) x)
    (λ e. let l : suc n ≤ x = leb-true (suc n) x e in
    omega (
      arith,
      place_one n x,
      bit_true (leb (suc n) x) e,
      bit_true (leb n x) (le-leb n x (omega arith)),
      bit_false (eqb x n) (ne_eqb x n (omega arith)),
    ))
    (λ e. let l : x < suc n = leb-false (suc n) x e in
    by_cases (eqb x n)
    (λ r. omega (
      arith,
      place_one n x,
      bit_false (leb (suc n) x) e,
      bit_true (leb n x) (le-leb n x (omega (arith, eqb-true x n r))),
      bit_true (eqb x n) r,
    ))
    (λ r. omega (
      arith,
      place_one n x,
      bit_false (leb (suc n) x) e,
      bit_false (leb n x) (lt-leb n x (let h : x ≡ n → ⊥ = eqb-false x n r in omega arith)),
      bit_false (eqb x n) r,
    )))

block_one : (n x : ℕ) (s : Bool) → bit s ≡ bit (s && leb n x) + sum n (λ d. bit (s && eqb x d))
unfolding bit
block_one n x true = place_one n x
block_one n x false = omega (arith, sum_zero n (λ d. 0) (λ d h. refl))

pub split : (n q : ℕ) (a : ℕ → ℕ) (S : ℕ → Bool) → size q S ≡ left n q a S + sum n (λ d. share q a S d)
unfolding size left share count
split n q a S =
    sum_ext q (λ b. bit (S b)) (λ b. bit (S b && leb n (a b)) + sum n (λ d. bit (S b && eqb (a b) d))) (λ b h. block_one n (a b) (S b))
    ∙ sum_add q (λ b. bit (S b && leb n (a b))) (λ b. sum n (λ d. bit (S b && eqb (a b) d)))
    ∙ ap (λ (x : ℕ). sum q (λ b. bit (S b && leb n (a b))) + x) (sym (sum_swap n q (λ b d. bit (S b && eqb (a b) d))))

pub share_le : (q : ℕ) (a : ℕ → ℕ) (S : ℕ → Bool) (d : ℕ) → share q a S d ≤ reads q a d
unfolding share reads
share_le q a S d = count_le q (λ b. S b && eqb (a b) d) (λ b. eqb (a b) d) (λ b h. and_right (S b) (eqb (a b) d))

pub left_le : (n q : ℕ) (a : ℕ → ℕ) (S : ℕ → Bool) → left n q a S ≤ unplaced n q a
unfolding left unplaced
left_le n q a S = count_le q (λ b. S b && leb n (a b)) (λ b. leb n (a b)) (λ b h. and_right (S b) (leb n (a b)))

-- a disk that reads a block of S is touched by S
pub touched : (n q : ℕ) (copy : ℕ → ℕ → Bool) (a : ℕ → ℕ) (S : ℕ → Bool) → Partial n q copy a
    → (b : ℕ) → b < q → S b ≡ true → a b < n → touches q copy S (a b) ≡ true
unfolding Partial touches
touched n q copy a S v b h s l =
    any_here q (λ b'. S b' && copy b' (a b)) b h (and_both (S b) (copy b (a b)) s (v b h l))

-- a disk that S does not touch reads none of its blocks
pub untouched : (n q : ℕ) (copy : ℕ → ℕ → Bool) (a : ℕ → ℕ) (S : ℕ → Bool) → Partial n q copy a
    → (d : ℕ) → d < n → touches q copy S d ≡ false → share q a S d ≡ 0
unfolding share
untouched n q copy a S v d l e =
    count_none q (λ b. S b && eqb (a b) d)
    (λ b h. not_here (S b && eqb (a b) d)
    (λ t. let r : a b ≡ d = eqb-true (a b) d (and_right (S b) (eqb (a b) d) t) in
    let w = touched n q copy a S v b h (and_left (S b) (eqb (a b) d) t) (omega arith) in
    differ w (ap (touches q copy S) r ∙ e)))

-- within capacities a share is at most the capacity of a touched disk
pub share_room : (n q : ℕ) (copy : ℕ → ℕ → Bool) (capacities a : ℕ → ℕ) (S : ℕ → Bool)
    → Partial n q copy a → Within n q capacities a
    → (d : ℕ) → d < n → share q a S d ≤ gate (touches q copy S d) (capacities d)
unfolding Within
share_room n q copy capacities a S v w d l =
    by_cases (touches q copy S d)
    (λ e. omega (arith, gate_true (touches q copy S d) (capacities d) e, share_le q a S d, w d l))
    (λ e. omega (arith, untouched n q copy a S v d l e))

pub weak : (n q : ℕ) (copy : ℕ → ℕ → Bool) (capacities a : ℕ → ℕ) (S : ℕ → Bool)
    → Partial n q copy a → Within n q capacities a → size q S ≤ room n q copy capacities S + left n q a S
unfolding room
weak n q copy capacities a S v w =
    omega (
      arith,
      split n q a S,
      sum_le n (λ d. share q a S d) (λ d. gate (touches q copy S d) (capacities d)) (share_room n q copy capacities a S v w),
    )

-- ---- schedules

pub valid_partial : (n q : ℕ) (copy : ℕ → ℕ → Bool) (a : ℕ → ℕ) → Valid n q copy a → Partial n q copy a
unfolding Valid Partial
valid_partial n q copy a v b h l = (v b h).1

pub valid_left : (n q : ℕ) (copy : ℕ → ℕ → Bool) (a : ℕ → ℕ) (S : ℕ → Bool) → Valid n q copy a → left n q a S ≡ 0
unfolding Valid left
valid_left n q copy a S v =
    count_none q (λ b. S b && leb n (a b))
    (λ b h. not_here (S b && leb n (a b))
    (λ t. let l = leb-true n (a b) (and_right (S b) (leb n (a b)) t) in
    let z : ⊥ = omega (arith, l, (v b h).0) in z))

-- a partial assignment that leaves no block unplaced is valid
pub partial_valid : (n q : ℕ) (copy : ℕ → ℕ → Bool) (a : ℕ → ℕ) → Partial n q copy a → unplaced n q a ≡ 0 → Valid n q copy a
unfolding Valid Partial unplaced
partial_valid n q copy a v e b h =
    by_cases (leb n (a b))
    (λ t. let z : ⊥ = omega (arith, e, count_here q (λ b'. leb n (a b')) b h t) in absurd z)
    (λ t. let l : a b < n = leb-false n (a b) t in (l, v b h l))

pub weak_duality : (n q : ℕ) (copy : ℕ → ℕ → Bool) (capacities a : ℕ → ℕ) → Valid n q copy a → Within n q capacities a
    → (S : ℕ → Bool) → size q S ≤ room n q copy capacities S
weak_duality n q copy capacities a v w S =
    omega (arith, weak n q copy capacities a S (valid_partial n q copy a v) w, valid_left n q copy a S v)

pub none_short : (n q : ℕ) (copy : ℕ → ℕ → Bool) (capacities a : ℕ → ℕ) → Valid n q copy a → Within n q capacities a
    → (S : ℕ → Bool) → Short n q copy capacities S → ⊥
unfolding Short
none_short n q copy capacities a v w S h = omega (arith, weak_duality n q copy capacities a v w S)

-- ---- room

pub room_grows : (n q : ℕ) (copy : ℕ → ℕ → Bool) (c c' : ℕ → ℕ) (S : ℕ → Bool)
    → ((d : ℕ) → d < n → c d ≤ c' d) → room n q copy c S ≤ room n q copy c' S
unfolding room
room_grows n q copy c c' S e =
    sum_le n (λ d. gate (touches q copy S d) (c d)) (λ d. gate (touches q copy S d) (c' d))
    (λ d h. gate_mono (touches q copy S d) (touches q copy S d) (c d) (c' d) (λ t. t) (e d h))

pub touches_mono : (q : ℕ) (copy : ℕ → ℕ → Bool) (S S' : ℕ → Bool) → ((b : ℕ) → b < q → S b ≡ true → S' b ≡ true)
    → (d : ℕ) → touches q copy S d ≡ true → touches q copy S' d ≡ true
unfolding touches
touches_mono q copy S S' f d =
    any_mono q (λ b. S b && copy b d) (λ b. S' b && copy b d)
    (λ b h t. and_both (S' b) (copy b d) (f b h (and_left (S b) (copy b d) t)) (and_right (S b) (copy b d) t))

-- a larger set has no smaller room
pub room_mono : (n q : ℕ) (copy : ℕ → ℕ → Bool) (capacities : ℕ → ℕ) (S S' : ℕ → Bool)
    → ((b : ℕ) → b < q → S b ≡ true → S' b ≡ true) → room n q copy capacities S ≤ room n q copy capacities S'
unfolding room
room_mono n q copy capacities S S' f =
    sum_le n (λ d. gate (touches q copy S d) (capacities d)) (λ d. gate (touches q copy S' d) (capacities d))
    (λ d h. gate_mono (touches q copy S d) (touches q copy S' d) (capacities d) (capacities d) (touches_mono q copy S S' f d) (omega arith))

-- the same blocks have the same room
pub room_ext : (n q : ℕ) (copy : ℕ → ℕ → Bool) (capacities : ℕ → ℕ) (S S' : ℕ → Bool)
    → ((b : ℕ) → b < q → S b ≡ S' b) → room n q copy capacities S ≡ room n q copy capacities S'
room_ext n q copy capacities S S' e =
    le_antisymm
    (room_mono n q copy capacities S S' (λ b h s. sym (e b h) ∙ s))
    (room_mono n q copy capacities S' S (λ b h s. e b h ∙ s))
