-- Laws of `decode` and `more`: what they are where bytes are left and where none are, and how large a value is.
use mathlib.Core.Path.{◌≡◌, refl, sym, ap, ◌∙◌}
use mathlib.Core.List.{List, [], ◌∷◌}
use Prim.Native.Nat.{ℕ, zero, suc, ◌+◌, ◌*◌, ◌-◌, ◌%◌, ◌^◌, ◌≤◌, ◌<◌}
use native.Mathlib.Omega.{arith}
use borrow.Author.Tests.{eq-eqb, ne_eqb, lt-ltb, le-ltb, ltb-true}
use lib.ListN.{length, take, drop, get_or}
use lib.Dec.{lit<}
use native.Mathlib.Nat.{pow-suc, one-le-pow, pow-le-pow_right}
use Rattle.std.specs.Prelude.{Result}
use Rattle.number.specs.declared.Broken.{Broken}
use Rattle.std.specs.Prelude.{Option, Some, None}
use Rattle.std.specs.List.{slice_get}
use Rattle.std.specs.Option.{unwrap_or}
use Rattle.number.specs.Told.{told}
use Rattle.number.specs.Decode.{Decoded, value, refused, under, more, decode}
use Rattle.basics.proofs.Choice.{pick_true, pick_false, pick_elim}
use Rattle.basics.proofs.Buffer.{rest}

-- what an answer told
pub told_is : {f g : Result (ℕ × ℕ) Broken} {o : Decoded} → told f ≡ o → f ≡ g → o ≡ told g
told_is h q = sym h ∙ ap told q

-- ---- the first byte of a list, as `first` tells it

pub no_byte : (s : List ℕ) → ◌≡◌ {A = Option ℕ} None (slice_get s 0) → length s ≡ 0
no_byte [] e = refl
no_byte (b ∷ s) e = cc

pub first_byte : (s : List ℕ) {b : ℕ} → Some b ≡ slice_get s 0 → (0 < length s) × (get_or s 0 0 ≡ b)
first_byte [] e = cc
first_byte (b ∷ s) e = (omega arith, ap (λ (x : Option ℕ). unwrap_or x 0) (sym e))

-- ---- decode, by its first byte

pub decode_none : (s : List ℕ) → length s ≡ 0 → decode s ≡ refused 1
unfolding decode
decode_none [] h = refl
decode_none (b ∷ s) h = absurd (omega arith)

pub decode_one : (s : List ℕ) → 0 < length s → get_or s 0 0 < 128 → decode s ≡ value (get_or s 0 0) 1
unfolding decode
decode_one [] h l = absurd (omega arith)
decode_one (b ∷ s) h l = pick_true _ _ (lt-ltb _ _ l)

-- the groups behind it, and what they give
under_first : (s : List ℕ) → 0 < length s → 128 ≤ get_or s 0 0 → decode s ≡ under (get_or s 0 0) (more 3 (take (length s - 1) (drop 1 s)))
unfolding decode
under_first [] h l = absurd (omega arith)
under_first (b ∷ s) h l = pick_false _ _ (le-ltb _ _ l) ∙ ap (λ (x : List ℕ). under b (more 3 x)) (sym (rest (b ∷ s) 1))

module _ (s : List ℕ) (h : 0 < length s) (l : 128 ≤ get_or s 0 0) where
  pub decode_value : {v n : ℕ} → more 3 (take (length s - 1) (drop 1 s)) ≡ value v n
      → decode s ≡ value (get_or s 0 0 % 128 + 128 * v) (n + 1)
  unfolding under
  decode_value e = under_first s h l ∙ ap (under (get_or s 0 0)) e

  pub decode_bad : {e : ℕ} → more 3 (take (length s - 1) (drop 1 s)) ≡ refused e → decode s ≡ refused e
  unfolding under
  decode_bad e = under_first s h l ∙ ap (under (get_or s 0 0)) e

-- ---- more, by the next byte

pub more_none : (k : ℕ) (s : List ℕ) → length s ≡ 0 → more k s ≡ refused 1
unfolding more
more_none zero [] h = refl
more_none (suc k) [] h = refl
more_none zero (b ∷ s) h = absurd (omega arith)
more_none (suc k) (b ∷ s) h = absurd (omega arith)

-- a last byte of 0 is no shortest form
pub more_zero : (k : ℕ) (s : List ℕ) → 0 < length s → get_or s 0 0 ≡ 0 → more k s ≡ refused 2
unfolding more
more_zero zero [] h e = absurd (omega arith)
more_zero (suc k) [] h e = absurd (omega arith)
more_zero zero (b ∷ s) h e = pick_true _ _ (eq-eqb _ _ e)
more_zero (suc k) (b ∷ s) h e = pick_true _ _ (eq-eqb _ _ e)

-- the fifth byte is below 16
pub more_fifth : (k : ℕ) (s : List ℕ) → k ≡ 0 → 0 < length s → (get_or s 0 0 ≡ 0 → ⊥) → get_or s 0 0 < 16
    → more k s ≡ value (get_or s 0 0) 1
unfolding more
more_fifth (suc k) s z h e l = absurd (omega arith)
more_fifth zero [] z h e l = absurd (omega arith)
more_fifth zero (b ∷ s) z h e l = pick_false _ _ (ne_eqb _ _ e) ∙ pick_true _ _ (lt-ltb _ _ l)

-- or it is too large
pub more_large : (k : ℕ) (s : List ℕ) → k ≡ 0 → 0 < length s → (get_or s 0 0 ≡ 0 → ⊥) → 16 ≤ get_or s 0 0 → more k s ≡ refused 2
unfolding more
more_large (suc k) s z h e l = absurd (omega arith)
more_large zero [] z h e l = absurd (omega arith)
more_large zero (b ∷ s) z h e l = pick_false _ _ (ne_eqb _ _ e) ∙ pick_false _ _ (le-ltb _ _ l)

pub more_one : (k : ℕ) (s : List ℕ) → (k ≡ 0 → ⊥) → 0 < length s → (get_or s 0 0 ≡ 0 → ⊥) → get_or s 0 0 < 128
    → more k s ≡ value (get_or s 0 0) 1
unfolding more
more_one zero s p h e l = absurd (p refl)
more_one (suc k) [] p h e l = absurd (omega arith)
more_one (suc k) (b ∷ s) p h e l = pick_false _ _ (ne_eqb _ _ e) ∙ pick_true _ _ (lt-ltb _ _ l)

-- the groups behind it, and what they give
under_next : (k : ℕ) (s : List ℕ) → (k ≡ 0 → ⊥) → 0 < length s → 128 ≤ get_or s 0 0
    → more k s ≡ under (get_or s 0 0) (more (k - 1) (take (length s - 1) (drop 1 s)))
unfolding more
under_next zero s p h l = absurd (p refl)
under_next (suc k) [] p h l = absurd (omega arith)
under_next (suc k) (b ∷ s) p h l =
    let e : suc k - 1 ≡ k = omega arith in
    pick_false _ _ (ne_eqb b 0 (λ z. omega arith)) ∙ pick_false _ _ (le-ltb _ _ l)
    ∙ ap (λ (j : ℕ). under b (more j s)) (sym e) ∙ ap (λ (x : List ℕ). under b (more (suc k - 1) x)) (sym (rest (b ∷ s) 1))

module _ (k : ℕ) (s : List ℕ) (p : k ≡ 0 → ⊥) (h : 0 < length s) (l : 128 ≤ get_or s 0 0) where
  pub more_value : {v n : ℕ} → more (k - 1) (take (length s - 1) (drop 1 s)) ≡ value v n
      → more k s ≡ value (get_or s 0 0 % 128 + 128 * v) (n + 1)
  unfolding under
  more_value e = under_next k s p h l ∙ ap (under (get_or s 0 0)) e

  pub more_bad : {e : ℕ} → more (k - 1) (take (length s - 1) (drop 1 s)) ≡ refused e → more k s ≡ refused e
  unfolding under
  more_bad e = under_next k s p h l ∙ ap (under (get_or s 0 0)) e

-- ---- how large a value is, and how many bytes it has

Small : ℕ → Decoded → Type 0
Small k (value v n) = (v < 16 * 128 ^ k) × (n ≤ suc k)
Small k (refused e) = Unit

small_under : (k b : ℕ) (d : Decoded) → Small k d → Small (suc k) (under b d)
unfolding Small under
small_under k b (refused e) h = tt
small_under k b (value v n) h = (omega arith, omega arith)

small : (k : ℕ) (s : List ℕ) → Small k (more k s)
unfolding Small more
small zero [] = tt
small (suc k) [] = tt
small zero (b ∷ s) =
    pick_elim (Small 0) _ _ _ (λ _. tt) λ _. pick_elim (Small 0) _ _ _ (λ l. (omega (arith, ltb-true b 16 l), omega arith)) λ _. tt
small (suc k) (b ∷ s) =
    pick_elim (Small (suc k)) _ _ _ (λ _. tt) λ _.
    pick_elim (Small (suc k)) _ _ _ (λ l. (omega (arith, ltb-true b 128 l, pow-suc 128 k, one-le-pow k 128 (lit< tt)), omega arith)) λ _.
    small_under k b (more k s) (small k s)

-- after the first byte 25 bits are left, in four bytes at the most
pub more_small : (k : ℕ) (s : List ℕ) (v n : ℕ) → k ≤ 3 → more k s ≡ value v n → (v < 2 ^ 25) × (n ≤ 4)
unfolding Small
more_small k s v n h e =
    let p : Small k (value v n) = rw e at (small k s) in
    (omega (arith, pow-le-pow_right {n = 128} (lit< tt) h), omega arith)

-- ---- a value lies within the bytes

Within : List ℕ → Decoded → Type 0
Within s (value v n) = n ≤ length s
Within s (refused e) = Unit

within_under : (b : ℕ) (s : List ℕ) (d : Decoded) → Within s d → Within (b ∷ s) (under b d)
unfolding Within under
within_under b s (refused e) h = tt
within_under b s (value v n) h = omega arith

within_more : (k : ℕ) (s : List ℕ) → Within s (more k s)
unfolding Within more
within_more zero [] = tt
within_more (suc k) [] = tt
within_more zero (b ∷ s) =
    pick_elim (Within (b ∷ s)) _ _ _ (λ _. tt) λ _.
    pick_elim (Within (b ∷ s)) _ _ _ (λ _. omega arith) λ _. tt
within_more (suc k) (b ∷ s) =
    pick_elim (Within (b ∷ s)) _ _ _ (λ _. tt) λ _.
    pick_elim (Within (b ∷ s)) _ _ _ (λ _. omega arith) λ _. within_under b s (more k s) (within_more k s)

within : (s : List ℕ) → Within s (decode s)
unfolding Within decode
within [] = tt
within (b ∷ s) = pick_elim (Within (b ∷ s)) _ _ _ (λ _. omega arith) λ _. within_under b s (more 3 s) (within_more 3 s)

pub decode_within : (s : List ℕ) (v n : ℕ) → decode s ≡ value v n → n ≤ length s
unfolding Within
decode_within s v n e = rw e at (within s)
