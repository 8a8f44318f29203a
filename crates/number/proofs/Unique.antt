-- Each promise of this crate fixes the answer: no second one satisfies it.
use mathlib.Core.Path.{◌≡◌, refl, sym, ◌∙◌}
use mathlib.Core.List.{List}
use Prim.Native.Nat.{ℕ}
use native.Mathlib.Omega.{arith}
use Rattle.std.specs.Prelude.{Option, Result, Ok, Err}
use Rattle.number.specs.declared.Broken.{Broken}
use Rattle.number.specs.declared.Broken.TheVariants.{Ends, Malformed}
use Rattle.number.specs.Decode.{decode}
use Rattle.number.specs.Encode.{width_of, WroteNumber}
use Rattle.number.specs.Told.{told}

-- two answers that say the same are the same
pub told_injective : (a b : Result (ℕ × ℕ) Broken) → told a ≡ told b → a ≡ b
told_injective (Ok (v, n)) (Ok (w, m)) e = cc
told_injective (Ok (v, n)) (Err Ends) e = cc
told_injective (Ok (v, n)) (Err Malformed) e = cc
told_injective (Err Ends) (Ok (w, m)) e = cc
told_injective (Err Ends) (Err Ends) e = refl
told_injective (Err Ends) (Err Malformed) e = let z : ◌≡◌ {A = ℕ} 1 2 = cc in absurd (omega arith)
told_injective (Err Malformed) (Ok (w, m)) e = cc
told_injective (Err Malformed) (Err Ends) e = let z : ◌≡◌ {A = ℕ} 2 1 = cc in absurd (omega arith)
told_injective (Err Malformed) (Err Malformed) e = refl

-- `read`
pub read_unique : (s : List ℕ) (a b : Result (ℕ × ℕ) Broken) → told a ≡ decode s → told b ≡ decode s → a ≡ b
read_unique s a b p q = told_injective a b (p ∙ sym q)

-- `width`
pub width_unique : (v a b : ℕ) → a ≡ width_of v → b ≡ width_of v → a ≡ b
width_unique v a b p q = p ∙ sym q

-- `write`: the count and the buffer
pub write_unique : (v : ℕ) (out : List ℕ) (n m : Option ℕ) (x y : List ℕ) → WroteNumber v out n x → WroteNumber v out m y
    → (n ≡ m) × (x ≡ y)
write_unique v out n m x y p q = (p.count ∙ sym q.count, p.left ∙ sym q.left)
