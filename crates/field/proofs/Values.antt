-- What is known of values that were read, whatever the bytes.
--     one_test, two_tests       a number that passed its checks
--     between_within, between_range, tenancy_within, kind_within     the checks of each reader of a field
--     ascending_rises, times_all    lists of numbers that rise, and lists of values with a property
use mathlib.Core.Path.{◌≡◌, refl, sym, ap, ◌∙◌, subst}
use mathlib.Core.Bool.{Bool, true}
use mathlib.Core.List.{List, [], ◌∷◌}
use Prim.Native.Nat.{ℕ, zero, suc, ◌+◌, ◌≤◌, ◌<◌}
use native.Mathlib.Omega.{arith}
use borrow.Author.Tests.{leb-true}
use lib.Dec.{leb}
use lib.ListN.{length}
use Rattle.basics.specs.Lists.{All, Rises, listed}
use Rattle.field.specs.Sheet.{Note, note, got, Parser, ◌>>=◌, ◌>>◌, pure, require, times}
use Rattle.field.specs.Field.{number, between, tenancy, rising, ascending, kind}
use Rattle.field.proofs.Sheet.{bind_got, passed, pure_got, at_here}

-- ---- one number

pub one_test : (t : ℕ → Bool) (m : Note) (s : List ℕ) (at v e : ℕ)
    → (number >>= λ x. require (t x) m >> pure x) s at ≡ got v e → (number s at ≡ got v e) × (t v ≡ true)
one_test t m s at v e h =
    let w = bind_got number s at v e (λ x. require (t x) m >> pure x) h in
    let g = passed _ m _ s w.mid v e w.last in
    let p = pure_got _ _ s _ _ g.1 in
    (w.first ∙ ap (λ (x : ℕ). got x w.mid) p.0 ∙ ap (got v) p.1, ap t (sym p.0) ∙ g.0)

pub two_tests : (t u : ℕ → Bool) (m n : Note) (s : List ℕ) (at v e : ℕ)
    → (number >>= λ x. require (t x) m >> (require (u x) n >> pure x)) s at ≡ got v e
    → (number s at ≡ got v e) × (t v ≡ true) × (u v ≡ true)
two_tests t u m n s at v e h =
    let w = bind_got number s at v e (λ x. require (t x) m >> (require (u x) n >> pure x)) h in
    let g = passed _ m _ s w.mid v e w.last in
    let k = passed _ n _ s w.mid v e g.1 in
    let p = pure_got _ _ s _ _ k.1 in
    (w.first ∙ ap (λ (x : ℕ). got x w.mid) p.0 ∙ ap (got v) p.1, ap t (sym p.0) ∙ g.0, ap u (sym p.0) ∙ k.0)

module _ (low high under above : ℕ) (s : List ℕ) (at : ℕ) {v e : ℕ} (h : between low high under above s at ≡ got v e) where
  pub between_within : (number s at ≡ got v e) × (low ≤ v) × (v ≤ high)
  unfolding between
  between_within =
      let w = two_tests (λ x. leb x high) (λ x. leb low x) (note above at) (note under at) s at v e (sym (at_here _ s at) ∙ h) in
      (w.0, leb-true low v w.2, leb-true v high w.1)

  pub between_range : (low ≤ v) × (v ≤ high)
  between_range = (between_within.1, between_within.2)

pub tenancy_within : (due : ℕ) (s : List ℕ) (at : ℕ) {v e : ℕ} → tenancy due s at ≡ got v e → (v ≡ due) × (0 < due)
tenancy_within due s at h = let r = between_range _ _ _ _ s at h in (omega arith, omega arith)

pub kind_within : (kinds : List ℕ) (s : List ℕ) (at : ℕ) {v e : ℕ} → kind kinds s at ≡ got v e → (number s at ≡ got v e)
    × (listed kinds v ≡ true)
unfolding kind
kind_within kinds s at {v} {e} h = one_test (listed kinds) (note 3 at) s at v e (sym (at_here _ s at) ∙ h)

-- ---- lists

pub ascending_rises : (high : ℕ) (s : List ℕ) (n floor at : ℕ) (vs : List ℕ) (e : ℕ)
    → ascending n floor high s at ≡ got vs e → (length vs ≡ n) × Rises floor high vs
unfolding ascending Rises
ascending_rises high s zero floor at vs e h =
    let q = pure_got [] vs s at e h in subst (λ (z : List ℕ). (length z ≡ 0) × Rises floor high z) q.0 (refl, tt)
ascending_rises high s (suc n) floor at vs e h =
    let w = bind_got (rising floor high) s at vs e (λ v. ascending n (v + 1) high >>= λ rest. pure (v ∷ rest)) h in
    let u = bind_got (ascending n (w.found + 1) high) s w.mid vs e (λ rest. pure (w.found ∷ rest)) w.last in
    let q = pure_got (w.found ∷ u.found) vs s u.mid e u.last in
    let f = between_range floor high 8 16 s at w.first in
    let g = ascending_rises high s n (w.found + 1) w.mid u.found u.mid u.first in
    subst (λ (z : List ℕ). (length z ≡ suc n) × Rises floor high z) q.0 (ap suc g.0, (f.0, f.1, g.1))

pub times_all : {A : Type 0} (p : Parser A) (P : A → Type 0) (s : List ℕ) → ((at : ℕ) (a : A) (e : ℕ) → p s at ≡ got a e → P a)
    → (n at : ℕ) (vs : List A) (e : ℕ) → times n p s at ≡ got vs e → (length vs ≡ n) × All P vs
unfolding times All
times_all p P s one zero at vs e h =
    let q = pure_got [] vs s at e h in subst (λ z. (length z ≡ 0) × All P z) q.0 (refl, tt)
times_all p P s one (suc n) at vs e h =
    let w = bind_got p s at vs e (λ a. times n p >>= λ rest. pure (a ∷ rest)) h in
    let u = bind_got (times n p) s w.mid vs e (λ rest. pure (w.found ∷ rest)) w.last in
    let q = pure_got (w.found ∷ u.found) vs s u.mid e u.last in
    let g = times_all p P s one n w.mid u.found u.mid u.first in
    subst (λ z. (length z ≡ suc n) × All P z) q.0 (ap suc g.0, (one at w.found w.mid w.first, g.1))
