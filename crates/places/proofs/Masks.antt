-- Laws of masks.
--     Upto               a mask that is made disk by disk
--     none_free          no disk of a mask has room
use Prim.Native.Nat.{ℕ, ◌+◌}
use mathlib.Core.Path.{◌≡◌, sym, ap, ◌∙◌}
use mathlib.Core.Bool.{Bool, true, false, ◌&&◌, ◌||◌}
use native.Mathlib.Omega.{arith}
use lib.Dec.{eqb, ltb}
use borrow.Author.Tests.{ltb-true, ltb-false, lt-ltb, le-ltb, eqb-true, eqb-false}
use Rattle.mask.specs.Has.{has}
use Rattle.mask.proofs.Has.{has_zero}
use Rattle.basics.proofs.Tests.{by_cases, differ, and_both, first_false, second_false, not_here, same_test}

-- ---- a mask that is made disk by disk

-- m holds the disks below d that pass the test p
unfoldable pub Upto : (ℕ → Bool) → ℕ → ℕ → Type 0
Upto p d m = (e : ℕ) → has m e ≡ (ltb e d && p e)

pub ltb_other : (e d : ℕ) → (e ≡ d → ⊥) → ltb e (d + 1) ≡ ltb e d
ltb_other e d n =
    same_test (ltb e (d + 1)) (ltb e d)
    (λ t. lt-ltb e d (let h = ltb-true e (d + 1) t in by_cases (ltb e d) (λ s. ltb-true e d s)
    (λ s. absurd (n (let k = ltb-false e d s in omega arith)))))
    (λ t. lt-ltb e (d + 1) (let h = ltb-true e d t in omega arith))

pub upto_start : (p : ℕ → Bool) → Upto p 0 0
unfolding Upto
upto_start p e = has_zero e ∙ sym (first_false (p e) (le-ltb e 0 (omega arith)))

pub upto_put : (p : ℕ → Bool) (d m r : ℕ) → Upto p d m → p d ≡ true → ((e : ℕ) → has r e ≡ (eqb e d || has m e)) → Upto p (d + 1) r
unfolding Upto
upto_put p d m r u t a e =
    a e
    ∙ by_cases (eqb e d)
    (λ s. ap (λ (x : Bool). x || has m e) s
    ∙ sym (and_both (ltb e (d + 1)) (p e) (lt-ltb e (d + 1) (let k = eqb-true e d s in omega arith)) (ap p (eqb-true e d s) ∙ t)))
    (λ s. ap (λ (x : Bool). x || has m e) s ∙ u e
    ∙ ap (λ (x : Bool). x && p e) (sym (ltb_other e d (eqb-false e d s))))

pub upto_skip : (p : ℕ → Bool) (d m : ℕ) → Upto p d m → p d ≡ false → Upto p (d + 1) m
unfolding Upto
upto_skip p d m u t e =
    by_cases (eqb e d)
    (λ s. u e ∙ second_false (ltb e d) (ap p (eqb-true e d s) ∙ t)
    ∙ sym (second_false (ltb e (d + 1)) (ap p (eqb-true e d s) ∙ t)))
    (λ s. u e ∙ ap (λ (x : Bool). x && p e) (sym (ltb_other e d (eqb-false e d s))))

-- no disk of w has room, where both hold none
pub none_free : (w room both : ℕ) → ((e : ℕ) → has both e ≡ (has w e && has room e)) → both ≡ 0
    → (e : ℕ) → has w e ≡ true → has room e ≡ false
none_free w room both f z e t =
    not_here (has room e) (λ u. differ (f e ∙ and_both (has w e) (has room e) t u) (ap (λ (y : ℕ). has y e) z ∙ has_zero e))
