-- A refusal that is not the first of them does not wait.
use mathlib.Core.Path.{◌≡◌, refl, ap}
use mathlib.Core.Bool.{Bool, true, false, ◌&&◌, not}
use mathlib.Core.List.{List, [], ◌∷◌}
use mathlib.Core.Logic.{inl, inr}
use Prim.Native.Nat.{ℕ, ◌<◌}
use native.Mathlib.Omega.{arith}
use borrow.Author.Tests.{ltb-true}
use lib.Dec.{ltb}
use denote.Enum.Bare.{sameb}
use denote.Enum.Declared.{tag_of}
use types.Run.{OneOf}
use Rattle.basics.proofs.Tests.{both}
use Rattle.field.specs.contracts.Refusal.{the_type}
use Rattle.field.specs.declared.Refusal.{Refusal}
use Rattle.field.specs.declared.Refusal.TheVariants.{SheetEnds, BadNumber, WrongKind, WrongUnit, WrongTenancy, OutOfRange, NoCopy}
use Rattle.field.specs.declared.Refusal.TheVariants.{NotRising, BytesFollow, NoSettings, NoRoom, Rented, NotAbove, NotTheTenant}
use Rattle.field.specs.declared.Refusal.TheVariants.{BadAmount, BadIndex, AllOut}
use Rattle.field.specs.Refusal.{number_of}
use Rattle.field.specs.Sheet.{note}
use Rattle.service.specs.Shelf.{waits}

-- the places of all refusals but the first
abbrev pub others : List ℕ
others = 1 ∷ 2 ∷ 3 ∷ 4 ∷ 5 ∷ 6 ∷ 7 ∷ 8 ∷ 9 ∷ 10 ∷ 11 ∷ 12 ∷ 13 ∷ 14 ∷ 15 ∷ 16 ∷ []

-- all above 0
above : List ℕ → Bool
above [] = true
above (k ∷ ks) = ltb 0 k && above ks

one_above : (ks : List ℕ) (x : ℕ) → above ks ≡ true → OneOf ks x → 0 < x
unfolding above
one_above [] x a h = absurd h
one_above (k ∷ []) x a h = omega (arith, ltb-true 0 k (both (ltb 0 k) true a).0)
one_above (k ∷ j ∷ ks) x a (inl h) = omega (arith, ltb-true 0 k (both (ltb 0 k) _ a).0)
one_above (k ∷ j ∷ ks) x a (inr h) = one_above (j ∷ ks) x (both (ltb 0 k) _ a).1 h

tagged : (e : Refusal) (p : ℕ) (ended : Bool) → 0 < tag_of the_type e → false ≡ waits ended (note (number_of e) p)
unfolding waits
tagged SheetEnds p ended h = absurd (omega arith)
tagged BadNumber p ended h = refl
tagged WrongKind p ended h = refl
tagged WrongUnit p ended h = refl
tagged WrongTenancy p ended h = refl
tagged OutOfRange p ended h = refl
tagged NoCopy p ended h = refl
tagged NotRising p ended h = refl
tagged BytesFollow p ended h = refl
tagged NoSettings p ended h = refl
tagged NoRoom p ended h = refl
tagged Rented p ended h = refl
tagged NotAbove p ended h = refl
tagged NotTheTenant p ended h = refl
tagged BadAmount p ended h = refl
tagged BadIndex p ended h = refl
tagged AllOut p ended h = refl

pub waits_not : (e : Refusal) (p : ℕ) (ended : Bool) → OneOf others (tag_of the_type e) → false ≡ waits ended (note (number_of e) p)
unfolding above
waits_not e p ended h = tagged e p ended (one_above others (tag_of the_type e) refl h)

-- the same of a refusal that is told not to be the first
pub waits_else : (e : Refusal) (p : ℕ) (ended : Bool) → (e ≡ SheetEnds → ⊥) → false ≡ waits ended (note (number_of e) p)
unfolding waits
waits_else SheetEnds p ended h = absurd (h refl)
waits_else BadNumber p ended h = refl
waits_else WrongKind p ended h = refl
waits_else WrongUnit p ended h = refl
waits_else WrongTenancy p ended h = refl
waits_else OutOfRange p ended h = refl
waits_else NoCopy p ended h = refl
waits_else NotRising p ended h = refl
waits_else BytesFollow p ended h = refl
waits_else NoSettings p ended h = refl
waits_else NoRoom p ended h = refl
waits_else Rented p ended h = refl
waits_else NotAbove p ended h = refl
waits_else NotTheTenant p ended h = refl
waits_else BadAmount p ended h = refl
waits_else BadIndex p ended h = refl
waits_else AllOut p ended h = refl

-- as the code tells it: the first of them, and the input has not ended
pub waits_first : (e : Refusal) (p : ℕ) (ended b : Bool) → b ≡ sameb the_type e SheetEnds
    → (b && not ended) ≡ waits ended (note (number_of e) p)
unfolding waits
waits_first SheetEnds p ended b h = ap (λ x. x && not ended) h
waits_first BadNumber p ended b h = ap (λ x. x && not ended) h
waits_first WrongKind p ended b h = ap (λ x. x && not ended) h
waits_first WrongUnit p ended b h = ap (λ x. x && not ended) h
waits_first WrongTenancy p ended b h = ap (λ x. x && not ended) h
waits_first OutOfRange p ended b h = ap (λ x. x && not ended) h
waits_first NoCopy p ended b h = ap (λ x. x && not ended) h
waits_first NotRising p ended b h = ap (λ x. x && not ended) h
waits_first BytesFollow p ended b h = ap (λ x. x && not ended) h
waits_first NoSettings p ended b h = ap (λ x. x && not ended) h
waits_first NoRoom p ended b h = ap (λ x. x && not ended) h
waits_first Rented p ended b h = ap (λ x. x && not ended) h
waits_first NotAbove p ended b h = ap (λ x. x && not ended) h
waits_first NotTheTenant p ended b h = ap (λ x. x && not ended) h
waits_first BadAmount p ended b h = ap (λ x. x && not ended) h
waits_first BadIndex p ended b h = ap (λ x. x && not ended) h
waits_first AllOut p ended b h = ap (λ x. x && not ended) h
