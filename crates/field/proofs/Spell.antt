-- Laws of the bytes of a list, value by value.
use mathlib.Core.Path.{◌≡◌, refl, sym, ap, ◌∙◌}
use mathlib.Core.List.{List, [], ◌∷◌, ◌++◌, append_assoc, append-nil}
use Prim.Native.Nat.{ℕ, suc, ◌+◌, ◌*◌, ◌≤◌, ◌<◌}
use native.Mathlib.Omega.{arith}
use lib.ListN.{length, take, get_or, length-append}
use lib.Seq.{take-suc}
use Rattle.field.specs.Put.{spell_all}

-- the bytes of one list behind another
pub spell_append : {A : Type 0} (spell : A → List ℕ) (xs ys : List A)
    → spell_all spell (xs ++ ys) ≡ spell_all spell xs ++ spell_all spell ys
unfolding spell_all
spell_append spell [] ys = refl
spell_append spell (x ∷ xs) ys = ap (λ (z : List ℕ). spell x ++ z) (spell_append spell xs ys)
    ∙ sym (append_assoc (spell x) (spell_all spell xs) (spell_all spell ys))

-- one value more
module _ {A : Type 0} (spell : A → List ℕ) (ms : List A) (i : ℕ) (z : A) (l : i < length ms) where
  pub spell_more : spell_all spell (take i ms) ++ spell (get_or ms i z) ≡ spell_all spell (take (i + 1) ms)
  unfolding spell_all
  spell_more =
      sym (ap (λ (x : List ℕ). spell_all spell (take i ms) ++ x) (append-nil (spell (get_or ms i z))))
      ∙ sym (spell_append spell (take i ms) (get_or ms i z ∷ []))
      ∙ ap (spell_all spell) (sym (take-suc ms i z l) ∙ ap (λ (k : ℕ). take k ms) {x = suc i} {y = i + 1} (omega arith))

-- so many bytes at the most for each value
pub spell_bound : {A : Type 0} (spell : A → List ℕ) (k : ℕ) → ((v : A) → length (spell v) ≤ k) → (xs : List A)
    → length (spell_all spell xs) ≤ k * length xs
unfolding spell_all
spell_bound spell k h [] = omega arith
spell_bound spell k h (x ∷ xs) = omega (arith, length-append (spell x) (spell_all spell xs), h x, spell_bound spell k h xs)
