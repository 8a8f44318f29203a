-- The loops between bytes and numbers: one number more.
use mathlib.Core.Path.{◌≡◌, refl, sym, ap, ◌∙◌}
use mathlib.Core.List.{List, [], ◌∷◌, ◌++◌, append_assoc, map, map-append}
use Prim.Native.Nat.{ℕ, zero, suc, ◌+◌, ◌*◌, ◌/◌, ◌%◌, ◌≤◌, ◌<◌}
use native.Mathlib.Omega.{arith}
use lib.ListN.{length, take, drop, set, get_or, length-append, length-map}
use lib.Seq.{take-suc, length-take-le}
use Rattle.std.specs.Simd.{first_chunks}
use Rattle.field.specs.Put.{spell_all}
use Rattle.field.proofs.Spell.{spell_more}
use Rattle.basics.specs.Buffer.{over}
use Rattle.basics.proofs.Buffer.{over_more}
use Rattle.lent.specs.Numbers.{value_of, bytes_of, first_numbers, numbers}
use Rattle.lent.proofs.Numbers.{spell_length}

-- ---- numbers of so many bytes, from bytes

-- what the part at i stands for is put behind those of the parts before it
pub gathered_more : {A B : Type 0} (of : A → B) (cs : List A) (out : List B) (i : ℕ) {after : List B} (c : A) (v : B) → i < length cs
    → length cs ≤ length out → c ≡ get_or cs i c → v ≡ of c → after ≡ over (map of (take i cs)) out
    → set after i v ≡ over (map of (take (i + 1) cs)) out
gathered_more {A} {B} of cs out i {after} c v l room h e g =
    let n : length (map of (take i cs)) ≡ i = length-map (take i cs) of ∙ length-take-le i cs (omega arith) in
    let last : of (get_or cs i c) ≡ v = ap of (sym h) ∙ sym e in
    let more : map of (take i cs) ++ (v ∷ []) ≡ map of (take (i + 1) cs) =
    ap (λ (x : B). map of (take i cs) ++ (x ∷ [])) (sym last)
    ∙ sym (map-append of (take i cs) (get_or cs i c ∷ []))
    ∙ ap (map of) (sym (take-suc cs i c l) ∙ ap (λ (k : ℕ). take k cs) {x = suc i} {y = i + 1} (omega arith)) in
    ap (λ (x : List B). set x i v) g ∙ over_more (map of (take i cs)) out i v n (omega arith) ∙ ap (λ (x : List B). over x out) more

-- the numbers of the library's parts are the list's numbers
first_parts : (w n : ℕ) (s : List ℕ) → map value_of (first_chunks w n s) ≡ first_numbers w n s
unfolding first_numbers
first_parts w zero s = refl
first_parts w (suc n) s = ap (λ (x : List ℕ). value_of (take w s) ∷ x) (first_parts w n (drop w s))

pub parts_numbers : (w : ℕ) (s : List ℕ) → map value_of (first_chunks w (length s / w) s) ≡ numbers w s
unfolding numbers
parts_numbers w s = first_parts w (length s / w) s

-- ---- numbers of two bytes, as bytes

-- the two bytes of the number at i are put behind those of the numbers before it
pub spread_more : (xs out : List ℕ) (i : ℕ) {after two : List ℕ} → i < length xs → 2 * length xs ≤ length out
    → two ≡ bytes_of 2 (get_or xs i 0) → after ≡ over (spell_all (bytes_of 2) (take i xs)) out
    → set (set after (2 * i) (get_or two 0 0)) (2 * i + 1) (get_or two 1 0) ≡ over (spell_all (bytes_of 2) (take (i + 1) xs)) out
unfolding bytes_of
spread_more xs out i {after} {two} l room e g =
    let lo : ℕ = get_or xs i 0 % 256 in
    let hi : ℕ = get_or xs i 0 / 256 % 256 in
    let before : List ℕ = spell_all (bytes_of 2) (take i xs) in
    let n : length before ≡ 2 * i = omega (arith, spell_length 2 (take i xs), length-take-le i xs (omega arith)) in
    ap (λ (y : List ℕ). set (set after (2 * i) (get_or y 0 0)) (2 * i + 1) (get_or y 1 0)) e
    ∙ ap (λ (y : List ℕ). set (set y (2 * i) lo) (2 * i + 1) hi) g
    ∙ ap (λ (y : List ℕ). set y (2 * i + 1) hi) (over_more before out (2 * i) lo n (omega arith))
    ∙ over_more (before ++ (lo ∷ [])) out (2 * i + 1) hi (omega (arith, n, length-append before (lo ∷ []))) (omega arith)
    ∙ ap (λ (y : List ℕ). over y out) (append_assoc before (lo ∷ []) (hi ∷ []) ∙ spell_more (bytes_of 2) xs i 0 l)
