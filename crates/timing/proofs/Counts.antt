-- How many numbers from b on pass a test.
--     count_from_start, count_from_more, count_from_same     none below b; one more that passes, one that does not
use Prim.Native.Nat.{ℕ, ◌+◌, ◌≤◌}
use mathlib.Core.Path.{◌≡◌, ap}
use mathlib.Core.Bool.{Bool, true, false, ◌&&◌}
use native.Mathlib.Omega.{arith}
use lib.Dec.{leb}
use borrow.Author.Tests.{leb-true, le-leb}
use Rattle.basics.specs.Count.{count}
use Rattle.basics.proofs.Tests.{and_right, and_both, not_here}
use Rattle.basics.proofs.Count.{bit_true, bit_false, count_none, count_next}

module _ (p : ℕ → Bool) (b : ℕ) where
  pub count_from_start : count b (λ i. p i && leb b i) ≡ 0
  count_from_start =
      count_none b (λ i. p i && leb b i)
      (λ i h. not_here (p i && leb b i) (λ t. let u = leb-true b i (and_right (p i) (leb b i) t) in omega arith))

  pub count_from_more : (i : ℕ) → b ≤ i → p i ≡ true → count (i + 1) (λ j. p j && leb b j) ≡ count i (λ j. p j && leb b j) + 1
  count_from_more i h t =
      omega (
        arith,
        count_next i (λ j. p j && leb b j),
        bit_true (p i && leb b i) (and_both (p i) (leb b i) t (le-leb b i h)),
      )

  pub count_from_same : (i : ℕ) → p i ≡ false → count (i + 1) (λ j. p j && leb b j) ≡ count i (λ j. p j && leb b j)
  count_from_same i t =
      omega (
        arith,
        count_next i (λ j. p j && leb b j),
        bit_false (p i && leb b i) (ap (λ (y : Bool). y && leb b i) t),
      )
