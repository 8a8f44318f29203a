-- A rule and its number: the promises fix the answer.
--     number_unique, numbered_unique     no second number of a rule, and no second answer to a number
use mathlib.Core.Path.{◌≡◌, refl, sym, ap, ◌∙◌}
use Prim.Native.Nat.{ℕ}
use native.Mathlib.Omega.{arith}
use Rattle.std.specs.Prelude.{◌≢◌, Result, Ok, Err}
use Rattle.model.specs.Rule.{rule_number, Numbered}
use Rattle.model.specs.declared.NoRule.{NoRule}
use Rattle.model.specs.declared.Rule.{Rule}
use Rattle.model.specs.declared.Rule.TheVariants.{Sum, Larger}

-- `u32::from`
pub number_unique : (r : Rule) (n m : ℕ) → n ≡ rule_number r → m ≡ rule_number r → n ≡ m
number_unique r n m p q = p ∙ sym q

-- no two rules have one number
number_injective : (a b : Rule) → rule_number a ≡ rule_number b → a ≡ b
number_injective Sum Sum h = refl
number_injective Sum Larger h = absurd (omega (arith, h))
number_injective Larger Sum h = absurd (omega (arith, h))
number_injective Larger Larger h = refl

-- a number that is a rule's is not refused
number_some : (r : Rule) (n : ℕ) → rule_number r ≡ n → (n ≢ 1) × (n ≢ 2) → ⊥
number_some Sum n h q = q.0 (sym h)
number_some Larger n h q = q.1 (sym h)

-- `Rule::try_from`
pub numbered_unique : (n : ℕ) (a b : Result Rule NoRule) → Numbered n a → Numbered n b → a ≡ b
numbered_unique n (Ok r) (Ok s) p q = ap Ok (number_injective r s (p ∙ sym q))
numbered_unique n (Ok r) (Err e) p q = absurd (number_some r n p q)
numbered_unique n (Err e) (Ok s) p q = absurd (number_some s n q p)
numbered_unique n (Err e) (Err f) p q = refl
