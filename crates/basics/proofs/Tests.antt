-- Tests: what passes or fails, and two joined.
--     by_cases, below_or, lt_or_le, below_suc     a test passes or fails; a number is below another, or is not
--     differ, not_here, same_test      no test does both; one that can't pass fails; two that imply one another are equal
--     and_left, and_right, both, and_both, first_false, second_false     both of two tests
--     or_elim, or_left, or_right     one of two tests
use Prim.Native.Nat.{ℕ, suc, ◌≤◌, ◌<◌}
use mathlib.Core.Path.{◌≡◌, refl, sym, ◌∙◌}
use mathlib.Core.Logic.{◌⊎◌, inl, inr}
use mathlib.Core.Bool.{Bool, true, false, ◌&&◌, ◌||◌, true≢false}
use native.Mathlib.Omega.{arith}
use lib.Dec.{ltb}
use borrow.Author.Tests.{ltb-true, ltb-false}

pub by_cases {ℓ} : {C : Type ℓ} (b : Bool) → (b ≡ true → C) → (b ≡ false → C) → C
by_cases true f g = f refl
by_cases false f g = g refl

pub below_or {ℓ} : {C : Type ℓ} (x y : ℕ) → (x < y → C) → (y ≤ x → C) → C
below_or x y f g = by_cases (ltb x y) (λ e. f (ltb-true x y e)) (λ e. g (ltb-false x y e))

pub lt_or_le : (x y : ℕ) → (x < y) ⊎ (y ≤ x)
lt_or_le x y = below_or x y inl inr

-- a number below k + 1 is below k, or is k
pub below_suc : (k i : ℕ) → i < suc k → (i < k) ⊎ (i ≡ k)
below_suc k i h = below_or i k inl (λ l. inr (omega arith))

pub differ : {b : Bool} → b ≡ true → b ≡ false → ⊥
differ p q = true≢false (sym p ∙ q)

pub not_here : (b : Bool) → (b ≡ true → ⊥) → b ≡ false
not_here true h = absurd (h refl)
not_here false h = refl

pub same_test : (a b : Bool) → (a ≡ true → b ≡ true) → (b ≡ true → a ≡ true) → a ≡ b
same_test true b f g = sym (f refl)
same_test false true f g = g refl
same_test false false f g = refl

-- ---- both

pub and_left : (a b : Bool) → (a && b) ≡ true → a ≡ true
and_left true b e = refl
and_left false b e = e

pub and_right : (a b : Bool) → (a && b) ≡ true → b ≡ true
and_right true b e = e
and_right false b e = absurd (differ e refl)

pub both : (a b : Bool) → (a && b) ≡ true → (a ≡ true) × (b ≡ true)
both a b e = (and_left a b e, and_right a b e)

pub and_both : (a b : Bool) → a ≡ true → b ≡ true → (a && b) ≡ true
and_both true b p q = q
and_both false b p q = p

-- where one fails, not both pass
pub first_false : {a : Bool} (b : Bool) → a ≡ false → (a && b) ≡ false
first_false b p = rw p

pub second_false : (a : Bool) {b : Bool} → b ≡ false → (a && b) ≡ false
second_false true p = p
second_false false p = refl

-- ---- one of two

pub or_elim : (a b : Bool) → (a || b) ≡ true → (a ≡ true) ⊎ (b ≡ true)
or_elim true b e = inl refl
or_elim false b e = inr e

pub or_left : (a b : Bool) → a ≡ true → (a || b) ≡ true
or_left true b e = refl
or_left false b e = absurd (differ e refl)

pub or_right : (a b : Bool) → b ≡ true → (a || b) ≡ true
or_right true b e = refl
or_right false b e = e
