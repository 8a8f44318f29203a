-- What the test of a list of bytes says.
use mathlib.Core.Path.{◌≡◌, sym, ap, ◌∙◌}
use mathlib.Core.Bool.{Bool, true, false, not, ◌&&◌}
use mathlib.Core.Logic.{◌⊎◌, inl, inr}
use mathlib.Core.List.{List}
use Prim.Native.Nat.{ℕ, ◌/◌, ◌%◌, ◌≤◌, ◌<◌}
use native.Mathlib.Omega.{arith}
use borrow.Author.Tests.{leb-true, leb-false, lt-ltb, le-ltb}
use lib.ListN.{length}
use lib.Dec.{leb}
use Rattle.basics.proofs.Tests.{by_cases}
use Rattle.lent.specs.Numbers.{numbers, broken, usable}
use Rattle.lent.proofs.Numbers.{numbers_length}

module _ (w most : ℕ) (s : List ℕ) where
  pub is_usable : usable w most s ≡ true → (broken w s ≡ false) × (length s / w ≤ most)
  unfolding usable
  is_usable h =
      by_cases (broken w s)
      (λ t. let z : false ≡ true = ap (λ (b : Bool). not b && leb (length s / w) most) (sym t) ∙ h in
      absurd (let o : ◌≡◌ {A = ℕ} 0 1 = cc in omega arith))
      (λ f. (f, leb-true _ _ (ap (λ (b : Bool). not b && leb (length s / w) most) (sym f) ∙ h)))

  pub not_usable : usable w most s ≡ false → (broken w s ≡ true) ⊎ (most < length (numbers w s))
  unfolding usable
  not_usable h =
      by_cases (broken w s)
      (λ t. inl t)
      (λ f. inr (omega (
        arith,
        numbers_length w s,
        leb-false (length s / w) most
            (ap (λ (b : Bool). not b && leb (length s / w) most) (sym f) ∙ h),
      )))

  -- the code's own tests
  pub usable_broken : 0 < length s % w → false ≡ usable w most s
  unfolding usable broken
  usable_broken h = sym (ap (λ (b : Bool). not b && leb (length s / w) most) (lt-ltb 0 (length s % w) h))

  pub usable_whole : length s % w ≤ 0 → leb (length s / w) most ≡ usable w most s
  unfolding usable broken
  usable_whole h = sym (ap (λ (b : Bool). not b && leb (length s / w) most) (le-ltb 0 (length s % w) h))
