-- Laws of numbers as bytes, over the width.
--     value_append, number_split, number_step, number_four     a number of several parts
--     first_length, first_more                    the numbers of a list, one after another
--     value_bytes, bytes_value                    a number and its bytes, both ways
--     numbers_spell, spell_numbers                a list and its bytes, both ways
use mathlib.Core.Path.{◌≡◌, refl, sym, ap, ◌∙◌}
use mathlib.Core.List.{List, [], ◌∷◌, ◌++◌}
use Prim.Native.Nat.{ℕ, zero, suc, ◌+◌, ◌*◌, ◌/◌, ◌%◌, ◌^◌, ◌≤◌, ◌<◌}
use native.Mathlib.Omega.{arith}
use native.Mathlib.Nat.{pow-suc, mul-zero, mul-suc, mul_assoc, mul_comm, mul-div_cancel_left, div-add-mod}
use borrow.Author.Tests.{ltb-false}
use mathlib.Core.Bool.{false}
use lib.ListN.{length, take, drop, get_or, length-append, length-drop, take-append-drop}
use Rattle.std.specs.Int.{w32, w64, from_le_bytes}
use lib.Seq.{take_all, drop-cons, drop-drop, take-add, length-take-le, take_at, drop_at}
use Rattle.number.specs.Bytes.{Bytes}
use Rattle.number.proofs.Part.{drop_bytes}
use Rattle.field.specs.Put.{spell_all}
use Rattle.basics.specs.Lists.{All}
use Rattle.lent.specs.Numbers.{value_of, bytes_of, number_at, first_numbers, numbers, broken}

-- ---- one number

pub value_append : (xs ys : List ℕ) → value_of (xs ++ ys) ≡ value_of xs + 256 ^ length xs * value_of ys
unfolding value_of
value_append [] ys = omega arith
value_append (x ∷ xs) ys =
    let p : 256 ^ suc (length xs) * value_of ys ≡ 256 * (256 ^ length xs * value_of ys) =
    ap (λ (k : ℕ). k * value_of ys) (pow-suc 256 (length xs) ∙ mul_comm (256 ^ length xs) 256)
    ∙ mul_assoc 256 (256 ^ length xs) (value_of ys) in
    omega (arith, p, value_append xs ys)

-- the low bytes and the high ones
pub number_split : (a b : ℕ) (s : List ℕ) (at : ℕ) → at + a ≤ length s
    → number_at (a + b) s at ≡ number_at a s at + 256 ^ a * number_at b s (at + a)
unfolding number_at
number_split a b s at h =
    let n : length (take a (drop at s)) ≡ a = length-take-le a (drop at s) (omega (arith, length-drop at s)) in
    ap value_of (take-add a b (drop at s))
    ∙ value_append (take a (drop at s)) (take b (drop a (drop at s)))
    ∙ ap (λ (k : ℕ). value_of (take a (drop at s)) + 256 ^ k * value_of (take b (drop a (drop at s)))) n
    ∙ ap (λ (x : List ℕ). value_of (take a (drop at s)) + 256 ^ a * value_of (take b x)) (drop-drop a at s)

-- the lowest byte and the rest
number_step : (w : ℕ) (s : List ℕ) (at : ℕ) → at < length s → number_at (suc w) s at ≡ get_or s at 0 + 256 * number_at w s (at + 1)
unfolding number_at value_of
number_step w s at h =
    let e : suc at ≡ at + 1 = omega arith in
    ap (λ (x : List ℕ). value_of (take (suc w) x)) (drop-cons s at 0 h)
    ∙ ap (λ (k : ℕ). get_or s at 0 + 256 * value_of (take w (drop k s))) e

number_none : (s : List ℕ) (at : ℕ) → number_at 0 s at ≡ 0
unfolding number_at value_of
number_none s at = refl

-- four bytes, one by one
pub number_four : (s : List ℕ) (at : ℕ) {a b c d : ℕ} → at + 4 ≤ length s → a ≡ get_or s at 0 → b ≡ get_or s (at + 1) 0
    → c ≡ get_or s (at + 2) 0
    → d ≡ get_or s (at + 3) 0 → a + 256 * (b + 256 * (c + 256 * d)) ≡ number_at 4 s at
number_four s at {a} {b} {c} {d} h p q r t =
    let two : at + 1 + 1 ≡ at + 2 = omega arith in
    let three : at + 1 + 1 + 1 ≡ at + 3 = omega arith in
    omega (
      arith,
      p,
      q,
      r ∙ ap (λ (k : ℕ). get_or s k 0) (sym two),
      t ∙ ap (λ (k : ℕ). get_or s k 0) (sym three),
      number_step 3 s at (omega arith),
      number_step 2 s (at + 1) (omega arith),
      number_step 1 s (at + 1 + 1) (omega arith),
      number_step 0 s (at + 1 + 1 + 1) (omega arith),
      number_none s (at + 1 + 1 + 1 + 1),
    )

whole : (s : List ℕ) → number_at (length s) s 0 ≡ value_of s
unfolding number_at
whole s = ap value_of (take_all (length s) s (omega arith))

-- what the library reads from four bytes, and from eight
pub value_four : (s : List ℕ) → length s ≡ 4 → from_le_bytes w32 s ≡ value_of s
value_four s h = omega (
  arith,
  number_four s 0 (omega arith) refl refl refl refl,
  whole s,
  ap (λ (k : ℕ). number_at k s 0) h,
)

pub value_eight : (s : List ℕ) → length s ≡ 8 → from_le_bytes w64 s ≡ value_of s
value_eight s h = omega (
  arith,
  number_split 4 4 s 0 (omega arith),
  number_four s 0 (omega arith) refl refl refl refl,
  number_four s 4 (omega arith) refl refl refl refl,
  whole s,
  ap (λ (k : ℕ). number_at k s 0) h,
)

-- ---- a list of numbers

pub first_length : (w n : ℕ) (s : List ℕ) → length (first_numbers w n s) ≡ n
unfolding first_numbers
first_length w zero s = refl
first_length w (suc n) s = ap suc (first_length w n (drop w s))

pub numbers_length : (w : ℕ) (s : List ℕ) → length (numbers w s) ≡ length s / w
unfolding numbers
numbers_length w s = first_length w (length s / w) s

-- one number more
pub first_more : (w n : ℕ) (s : List ℕ) → first_numbers w (suc n) s ≡ first_numbers w n s ++ (number_at w s (w * n) ∷ [])
unfolding first_numbers number_at
first_more w zero s = ap (λ (k : ℕ). value_of (take w (drop k s)) ∷ []) (sym (mul-zero w))
first_more w (suc n) s =
    let e : w + w * n ≡ w * suc n = omega (arith, mul-suc w n) in
    ap (λ (x : List ℕ). value_of (take w s) ∷ x) (first_more w n (drop w s))
    ∙ ap (λ (x : List ℕ). value_of (take w s) ∷ (first_numbers w n (drop w s) ++ (value_of (take w x) ∷ []))) (drop-drop (w * n) w s
    ∙ ap (λ (k : ℕ). drop k s) e)

-- ---- a number and its bytes

pub bytes_length : (w v : ℕ) → length (bytes_of w v) ≡ w
unfolding bytes_of
bytes_length zero v = refl
bytes_length (suc w) v = ap suc (bytes_length w (v / 256))

pub value_bytes : (w v : ℕ) → v < 256 ^ w → value_of (bytes_of w v) ≡ v
unfolding bytes_of value_of
value_bytes zero v h = omega arith
value_bytes (suc w) v h = omega (arith, value_bytes w (v / 256) (omega (arith, pow-suc 256 w)))

pub bytes_value : (bs : List ℕ) → Bytes bs → bytes_of (length bs) (value_of bs) ≡ bs
unfolding bytes_of value_of Bytes
bytes_value [] h = refl
bytes_value (b ∷ bs) h =
    let low : (b + 256 * value_of bs) % 256 ≡ b = omega (arith, h 0) in
    let rest : (b + 256 * value_of bs) / 256 ≡ value_of bs = omega (arith, h 0) in
    ap (λ (x : ℕ). x ∷ bytes_of (length bs) ((b + 256 * value_of bs) / 256)) low
    ∙ ap (λ (x : ℕ). b ∷ bytes_of (length bs) x) rest
    ∙ ap (λ (x : List ℕ). b ∷ x) (bytes_value bs (λ i. h (suc i)))

-- ---- a list and its bytes

pub spell_length : (w : ℕ) (xs : List ℕ) → length (spell_all (bytes_of w) xs) ≡ w * length xs
unfolding spell_all
spell_length w [] = sym (mul-zero w)
spell_length w (x ∷ xs) =
    omega (arith, length-append (bytes_of w x) (spell_all (bytes_of w) xs), bytes_length w x, spell_length w xs, mul-suc w (length xs))

first_spell : (w : ℕ) (xs : List ℕ) → All (λ (x : ℕ). x < 256 ^ w) xs → first_numbers w (length xs) (spell_all (bytes_of w) xs) ≡ xs
unfolding first_numbers spell_all All
first_spell w [] h = refl
first_spell w (x ∷ xs) h =
    ap (λ (y : List ℕ). value_of y ∷ first_numbers w (length xs) (drop w (bytes_of w x ++ spell_all (bytes_of w) xs)))
    (take_at (bytes_of w x) (spell_all (bytes_of w) xs) w (bytes_length w x))
    ∙ ap (λ (y : List ℕ). value_of (bytes_of w x) ∷ first_numbers w (length xs) y)
    (drop_at (bytes_of w x) (spell_all (bytes_of w) xs) w (bytes_length w x))
    ∙ ap (λ (y : ℕ). y ∷ first_numbers w (length xs) (spell_all (bytes_of w) xs)) (value_bytes w x h.0)
    ∙ ap (λ (y : List ℕ). x ∷ y) (first_spell w xs h.1)

-- the numbers of the bytes of some numbers are those numbers
pub numbers_spell : (w : ℕ) (xs : List ℕ) → 0 < w → All (λ (x : ℕ). x < 256 ^ w) xs → numbers w (spell_all (bytes_of w) xs) ≡ xs
unfolding numbers
numbers_spell w xs p h =
    ap (λ (k : ℕ). first_numbers w k (spell_all (bytes_of w) xs)) (ap (λ (k : ℕ). k / w) (spell_length w xs)
    ∙ mul-div_cancel_left (length xs) p)
    ∙ first_spell w xs h

bytes_take : (w : ℕ) (s : List ℕ) → Bytes s → Bytes (take w s)
unfolding Bytes
bytes_take zero s b i = omega arith
bytes_take (suc w) [] b i = omega arith
bytes_take (suc w) (x ∷ s) b zero = b 0
bytes_take (suc w) (x ∷ s) b (suc i) = bytes_take w s (λ j. b (suc j)) i

spell_first : (w n : ℕ) (s : List ℕ) → Bytes s → length s ≡ w * n → spell_all (bytes_of w) (first_numbers w n s) ≡ s
unfolding first_numbers spell_all
spell_first w zero [] b h = refl
spell_first w zero (x ∷ s) b h = absurd (omega (arith, mul-zero w))
spell_first w (suc n) s b h =
    let l : length (take w s) ≡ w = length-take-le w s (omega (arith, mul-suc w n)) in
    let front : bytes_of w (value_of (take w s)) ≡ take w s = ap (λ (k : ℕ). bytes_of k (value_of (take w s))) (sym l)
    ∙ bytes_value (take w s) (bytes_take w s b) in
    let rest : spell_all (bytes_of w) (first_numbers w n (drop w s))
    ≡ drop w s = spell_first w n (drop w s) (drop_bytes s w b) (omega (arith, length-drop w s, mul-suc w n)) in
    ap (λ (x : List ℕ). x ++ spell_all (bytes_of w) (first_numbers w n (drop w s))) front
    ∙ ap (λ (x : List ℕ). take w s ++ x) rest
    ∙ take-append-drop w s

-- the bytes of the numbers of a list that is not broken are that list
pub spell_numbers : (w : ℕ) (s : List ℕ) → 0 < w → Bytes s → broken w s ≡ false → spell_all (bytes_of w) (numbers w s) ≡ s
unfolding numbers broken
spell_numbers w s p b h = spell_first w (length s / w) s b (omega (arith, ltb-false 0 (length s % w) h, div-add-mod (length s) w))
