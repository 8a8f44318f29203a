-- What the machine's shifts and masks do to the disks of a mask. A width is k bits, so that each law serves every width.
--     has_and, has_or, has_not, has_without    `a & b`, `a | b`, `!b`, `a & !b`
--     has_shr                                  `(m >> d) & 1 != 0`
--     shl_one, has_pow, has_ones               `1 << d` is 2 ^ d, its one disk, and the disks of 2 ^ n - 1
--     has_set, has_clear                       `m | (1 << d)`, `m & !(1 << d)`
use mathlib.Core.Path.{◌≡◌, refl, sym, ap, ◌∙◌}
use mathlib.Core.Bool.{Bool, not, ◌&&◌, ◌||◌, and_comm, or_comm}
use mathlib.Core.Logic.{◌⊎◌, inl, inr}
use Prim.Native.Nat.{ℕ, zero, suc, ◌+◌, ◌-◌, ◌*◌, ◌/◌, ◌%◌, ◌^◌, ◌≤◌, ◌<◌}
use native.Mathlib.Nat.{mod-lt, pow-suc, one-mul}
use native.Mathlib.Omega.{arith}
use lib.Dec.{eqb, ltb, eqb-zero-suc, eqb-suc-zero, eqb-suc-suc, leb-suc-suc, leb-suc-zero}
use borrow.Author.Tests.{lt-ltb}
use lib.Pow.{pow_pos, pow-lt, shl_exact}
use lib.Bits.{bit_and, bit_or, and_shr, or_shr, and_mod, or_mod, and_mask}
use Rattle.mask.specs.Has.{has}
use Rattle.mask.proofs.Has.{has_first, has_half, has_zero, has_above}
use Rattle.basics.proofs.Tests.{lt_or_le}

-- ---- and, or

module _ (op : ℕ → ℕ → ℕ) (join : Bool → Bool → Bool)
    (shr : (a b k : ℕ) → op a b / 2 ^ k ≡ op (a / 2 ^ k) (b / 2 ^ k))
    (low : (a b k : ℕ) → op a b % 2 ^ k ≡ op (a % 2 ^ k) (b % 2 ^ k))
    (bits : (x y : ℕ) → x < 2 → y < 2 → eqb (op x y) 1 ≡ join (eqb x 1) (eqb y 1)) where
  has_op : (a b e : ℕ) → has (op a b) e ≡ join (has a e) (has b e)
  unfolding has
  has_op a b e =
      ap (λ (x : ℕ). eqb x 1) (ap (λ (x : ℕ). x % 2) (shr a b e) ∙ low (a / 2 ^ e) (b / 2 ^ e) 1)
      ∙ bits (a / 2 ^ e % 2) (b / 2 ^ e % 2) (mod-lt (a / 2 ^ e) (omega arith)) (mod-lt (b / 2 ^ e) (omega arith))

and_bits : (x y : ℕ) → x < 2 → y < 2 → eqb (bit_and x y) 1 ≡ (eqb x 1 && eqb y 1)
and_bits zero y hx hy = refl
and_bits (suc zero) zero hx hy = refl
and_bits (suc zero) (suc zero) hx hy = refl
and_bits (suc zero) (suc (suc y)) hx hy = absurd (omega arith)
and_bits (suc (suc x)) y hx hy = absurd (omega arith)

or_bits : (x y : ℕ) → x < 2 → y < 2 → eqb (bit_or x y) 1 ≡ (eqb x 1 || eqb y 1)
or_bits zero y hx hy = refl
or_bits (suc zero) zero hx hy = refl
or_bits (suc zero) (suc zero) hx hy = refl
or_bits (suc zero) (suc (suc y)) hx hy = absurd (omega arith)
or_bits (suc (suc x)) y hx hy = absurd (omega arith)

pub has_and : (a b e : ℕ) → has (bit_and a b) e ≡ (has a e && has b e)
has_and = has_op bit_and ◌&&◌ and_shr and_mod and_bits

pub has_or : (a b e : ℕ) → has (bit_or a b) e ≡ (has a e || has b e)
has_or = has_op bit_or ◌||◌ or_shr or_mod or_bits

-- ---- not

flip_bit : (x y : ℕ) → x + y ≡ 1 → eqb x 1 ≡ not (eqb y 1)
flip_bit zero zero h = absurd (omega arith)
flip_bit zero (suc zero) h = refl
flip_bit zero (suc (suc y)) h = absurd (omega arith)
flip_bit (suc zero) zero h = refl
flip_bit (suc zero) (suc y) h = absurd (omega arith)
flip_bit (suc (suc x)) y h = absurd (omega arith)

pub has_not : (k b e : ℕ) → b < 2 ^ k → e < k → has ((2 ^ k - 1) - b) e ≡ not (has b e)
has_not zero b e h l = absurd (omega arith)
has_not (suc k) b zero h l =
    let p = pow-suc 2 k in
    has_first ((2 ^ suc k - 1) - b) ∙ flip_bit (((2 ^ suc k - 1) - b) % 2) (b % 2) (omega arith) ∙ ap not (sym (has_first b))
has_not (suc k) b (suc e) h l =
    let p = pow-suc 2 k in
    has_half ((2 ^ suc k - 1) - b) e
    ∙ ap (λ (x : ℕ). has x e) {x = ((2 ^ suc k - 1) - b) / 2} {y = (2 ^ k - 1) - b / 2} (omega arith)
    ∙ has_not k (b / 2) e (omega arith) (omega arith)
    ∙ ap not (sym (has_half b e))

pub has_without : (k a b e : ℕ) → a < 2 ^ k → b < 2 ^ k → has (bit_and a ((2 ^ k - 1) - b)) e ≡ (has a e && not (has b e))
has_without k a b e ha hb = has_and a ((2 ^ k - 1) - b) e ∙ side (lt_or_le e k)
  where
    side : (e < k) ⊎ (k ≤ e) → (has a e && has ((2 ^ k - 1) - b) e) ≡ (has a e && not (has b e))
    side (inl l) = ap (λ (t : Bool). has a e && t) (has_not k b e hb l)
    side (inr l) = rw (has_above k {d = e} ha l)

-- ---- a test

odd_bit : (x : ℕ) → x < 2 → not (eqb x 0) ≡ eqb x 1
odd_bit zero h = refl
odd_bit (suc zero) h = refl
odd_bit (suc (suc x)) h = absurd (omega arith)

pub has_shr : (m d : ℕ) → not (eqb (bit_and (m / 2 ^ d) 1) 0) ≡ has m d
unfolding has
has_shr m d = ap (λ (x : ℕ). not (eqb x 0)) (and_mask (m / 2 ^ d) 1) ∙ odd_bit (m / 2 ^ d % 2) (mod-lt (m / 2 ^ d) (omega arith))

-- ---- one disk, and the disks under a number

pub shl_one : (k d : ℕ) → d < k → 1 * 2 ^ d % 2 ^ k ≡ 2 ^ d
shl_one k d h = shl_exact 1 d k (omega arith) (omega arith) ∙ one-mul (2 ^ d)

pub has_pow : (d e : ℕ) → has (2 ^ d) e ≡ eqb e d
has_pow zero zero = has_first 1
has_pow zero (suc e) = has_half 1 e ∙ has_zero e ∙ sym (eqb-suc-zero e)
has_pow (suc d) zero =
    let p = pow-suc 2 d in
    has_first (2 ^ suc d) ∙ ap (λ (x : ℕ). eqb x 1) {x = 2 ^ suc d % 2} {y = 0} (omega arith) ∙ sym (eqb-zero-suc d)
has_pow (suc d) (suc e) =
    let p = pow-suc 2 d in
    has_half (2 ^ suc d) e ∙ ap (λ (x : ℕ). has x e) {x = 2 ^ suc d / 2} {y = 2 ^ d} (omega arith) ∙ has_pow d e ∙ sym (eqb-suc-suc e d)

pub has_ones : (n e : ℕ) → has (2 ^ n - 1) e ≡ ltb e n
has_ones zero e = has_zero e ∙ sym (leb-suc-zero e)
has_ones (suc n) zero =
    let p = pow-suc 2 n in
    let q = pow_pos n in
    has_first (2 ^ suc n - 1) ∙ ap (λ (x : ℕ). eqb x 1) {x = (2 ^ suc n - 1) % 2} {y = 1} (omega arith)
    ∙ sym (lt-ltb 0 (suc n) (omega arith))
has_ones (suc n) (suc e) =
    let p = pow-suc 2 n in
    let q = pow_pos n in
    has_half (2 ^ suc n - 1) e
    ∙ ap (λ (x : ℕ). has x e) {x = (2 ^ suc n - 1) / 2} {y = 2 ^ n - 1} (omega arith)
    ∙ has_ones n e
    ∙ sym (leb-suc-suc (suc e) n)

-- ---- one disk put in, one taken out

pub has_set : (k m d e : ℕ) → d < k → has (bit_or m (1 * 2 ^ d % 2 ^ k)) e ≡ (eqb e d || has m e)
has_set k m d e h =
    ap (λ (x : ℕ). has (bit_or m x) e) (shl_one k d h) ∙ has_or m (2 ^ d) e ∙ or_comm (has m e) (has (2 ^ d) e)
    ∙ ap (λ (t : Bool). t || has m e) (has_pow d e)

pub has_clear : (k m d e : ℕ) → m < 2 ^ k → d < k → has (bit_and m ((2 ^ k - 1) - 1 * 2 ^ d % 2 ^ k)) e ≡ (not (eqb e d) && has m e)
has_clear k m d e hm h =
    ap (λ (x : ℕ). has (bit_and m ((2 ^ k - 1) - x)) e) (shl_one k d h) ∙ has_without k m (2 ^ d) e hm (pow-lt h)
    ∙ and_comm (has m e) (not (has (2 ^ d) e)) ∙ ap (λ (t : Bool). not t && has m e) (has_pow d e)
