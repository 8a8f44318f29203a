-- Laws of `has`, for masks of any width.
--     odd_or_even                       the two cases of the first bit
--     has_first, has_half, has_shift    the first bit; the bits of a half; the bits from a place on
--     has_zero, has_above, has_place    0 holds no disk; a number of n bits none at n or above; so a disk that it holds is below n
--     has_ext                           two masks with the same disks are equal
--     mask_zero, mask_some              no disk: the mask is 0; not 0: some disk
--     has_bound                         no disk at n or above: a number of n bits
--     has_le, has_lt, clear_lt          a mask inside another is no greater; with one disk missing it is less; so is one with a disk
--         taken out
use mathlib.Core.Path.{◌≡◌, refl, sym, ap, ◌∙◌}
use mathlib.Core.Bool.{Bool, true, false, not, ◌&&◌, true≢false}
use mathlib.Core.Logic.{◌⊎◌, inl, inr, ⊎_elim}
use Prim.Native.Nat.{ℕ, zero, suc, ◌+◌, ◌*◌, ◌/◌, ◌%◌, ◌^◌, ◌≤◌, ◌<◌, zero-le, suc-le-suc}
use native.Mathlib.Nat.{mod-lt, div-one, div-eq_of_lt, lt_of_lt_of_le, pow-suc, zero-mul, eq-zero-or-pos}
use native.Mathlib.Omega.{arith}
use lib.Dec.{eqb}
use borrow.Author.Tests.{eqb-true, eq-eqb}
use lib.Arith.{lt-one, lt_of_le-ne}
use lib.Pow.{pow_pos, pow_mono, shr-shr, shr_le, split}
use Rattle.mask.specs.Has.{has}
use Rattle.basics.proofs.Tests.{lt_or_le, and_right}

-- ---- bit by bit

pub odd_or_even : {P : Type 0} (m : ℕ) → (m % 2 ≡ 1 → P) → (m % 2 ≡ 0 → P) → P
odd_or_even {P} m odd even = side (m % 2) refl (mod-lt m (omega arith))
  where
    side : (x : ℕ) → m % 2 ≡ x → x < 2 → P
    side zero e h = even e
    side (suc zero) e h = odd e
    side (suc (suc x)) e h = absurd (omega arith)

pub has_first : (m : ℕ) → has m 0 ≡ eqb (m % 2) 1
unfolding has
has_first m = ap (λ (x : ℕ). eqb (x % 2) 1) (div-one m)

pub has_shift : (m d e : ℕ) → has m (d + e) ≡ has (m / 2 ^ d) e
unfolding has
has_shift m d e = ap (λ (x : ℕ). eqb (x % 2) 1) (sym (shr-shr m d e))

pub has_half : (m d : ℕ) → has m (suc d) ≡ has (m / 2) d
has_half m d = ap (has m) {x = suc d} {y = 1 + d} (omega arith) ∙ has_shift m 1 d

-- ---- where no disk is

pub has_zero : (d : ℕ) → has 0 d ≡ false
unfolding has
has_zero d = ap (λ (x : ℕ). eqb (x % 2) 1) (div-eq_of_lt (pow_pos d))

pub has_above : (n : ℕ) {m d : ℕ} → m < 2 ^ n → n ≤ d → has m d ≡ false
unfolding has
has_above n h l = ap (λ (x : ℕ). eqb (x % 2) 1) (div-eq_of_lt (lt_of_lt_of_le h (pow_mono l)))

pub has_place : (n m d : ℕ) → m < 2 ^ n → has m d ≡ true → d < n
has_place n m d h t = ⊎_elim (λ l. l) (λ l. absurd (true≢false (sym t ∙ has_above n h l))) (lt_or_le d n)

-- ---- a mask is known by its disks

-- a bit is known by its test
same_bit : (x y : ℕ) → x < 2 → y < 2 → eqb x 1 ≡ eqb y 1 → x ≡ y
same_bit zero zero hx hy e = refl
same_bit zero (suc zero) hx hy e = eqb-true 0 1 e
same_bit zero (suc (suc y)) hx hy e = absurd (omega arith)
same_bit (suc zero) zero hx hy e = sym (eqb-true 0 1 (sym e))
same_bit (suc zero) (suc zero) hx hy e = refl
same_bit (suc zero) (suc (suc y)) hx hy e = absurd (omega arith)
same_bit (suc (suc x)) y hx hy e = absurd (omega arith)

pub has_ext : (n m m' : ℕ) → m < 2 ^ n → m' < 2 ^ n → ((d : ℕ) → d < n → has m d ≡ has m' d) → m ≡ m'
has_ext zero m m' h h' e = lt-one h ∙ sym (lt-one h')
has_ext (suc n) m m' h h' e =
    let p = pow-suc 2 n in
    let high : m / 2 ≡ m' / 2 =
    has_ext n (m / 2) (m' / 2) (omega arith) (omega arith) (λ d l. sym (has_half m d) ∙ e (suc d) (suc-le-suc l) ∙ has_half m' d) in
    let low : m % 2 ≡ m' % 2 =
    same_bit (m % 2) (m' % 2) (omega arith) (omega arith) (sym (has_first m) ∙ e 0 (omega arith) ∙ has_first m') in
    omega arith

pub mask_zero : (n m : ℕ) → m < 2 ^ n → ((d : ℕ) → d < n → has m d ≡ false) → m ≡ 0
mask_zero n m h e = has_ext n m 0 h (pow_pos n) (λ d l. e d l ∙ sym (has_zero d))

pub mask_some : (n m : ℕ) → m < 2 ^ n → 0 < m → (d : ℕ) × (d < n) × (has m d ≡ true)
mask_some zero m h p = absurd (omega (arith, lt-one h))
mask_some (suc n) m h p = side (λ q. mask_some n (m / 2) (omega (arith, pow-suc 2 n)) q) (eq-zero-or-pos (m / 2))
  where
    side : (0 < m / 2 → (d : ℕ) × (d < n) × (has (m / 2) d ≡ true)) → (m / 2 ≡ 0) ⊎ (0 < m / 2) → (d : ℕ) × (d < suc n) × (has m d ≡ true)
    side rest (inl z) = (0, omega arith, has_first m ∙ eq-eqb (m % 2) 1 (omega arith))
    side rest (inr q) = let t = rest q in (suc t.0, omega (arith, t.1), has_half m t.0 ∙ t.2)

-- the bound 2 ^ k is any that holds: n may be above it or under it
pub has_bound : (k n m : ℕ) → m < 2 ^ k → ((d : ℕ) → n ≤ d → has m d ≡ false) → m < 2 ^ n
has_bound k n m h e =
    let z : m / 2 ^ n ≡ 0 = mask_zero k (m / 2 ^ n) (omega (arith, shr_le m n)) (λ d l. sym (has_shift m n d) ∙ e (n + d) (omega arith)) in
    omega (arith, split m n, ap (λ (x : ℕ). x * 2 ^ n) z ∙ zero-mul (2 ^ n), mod-lt m (pow_pos n))

-- ---- a mask inside another

inside_bit : (x y : ℕ) → x < 2 → (eqb x 1 ≡ true → eqb y 1 ≡ true) → x ≤ y
inside_bit zero y h f = zero-le
inside_bit (suc zero) y h f = omega (arith, eqb-true y 1 (f refl))
inside_bit (suc (suc x)) y h f = absurd (omega arith)

pub has_le : (n r m : ℕ) → r < 2 ^ n → ((e : ℕ) → e < n → has r e ≡ true → has m e ≡ true) → r ≤ m
has_le zero r m h f = omega (arith, lt-one h)
has_le (suc n) r m h f =
    let p = pow-suc 2 n in
    let high : r / 2 ≤ m / 2 =
    has_le n (r / 2) (m / 2) (omega arith) (λ e l t. sym (has_half m e) ∙ f (suc e) (suc-le-suc l) (has_half r e ∙ t)) in
    let low : r % 2 ≤ m % 2 = inside_bit (r % 2) (m % 2) (omega arith) (λ t. sym (has_first m) ∙ f 0 (omega arith) (has_first r ∙ t)) in
    omega arith

pub has_lt : (n r m d : ℕ) → r < 2 ^ n → ((e : ℕ) → e < n → has r e ≡ true → has m e ≡ true) → has r d ≡ false → has m d ≡ true → r < m
has_lt n r m d h f out found = lt_of_le-ne (has_le n r m h f) (λ q. true≢false (sym found ∙ ap (λ (x : ℕ). has x d) (sym q) ∙ out))

-- the measure of a walk that takes its disks out one by one
pub clear_lt : (n r m d : ℕ) → r < 2 ^ n → ((e : ℕ) → has r e ≡ (not (eqb e d) && has m e)) → has m d ≡ true → r < m
clear_lt n r m d h c found =
    has_lt n r m d h (λ e l t. and_right (not (eqb e d)) (has m e) (sym (c e) ∙ t))
    (c d ∙ ap (λ (t : Bool). not t && has m d) (eq-eqb d d refl)) found
