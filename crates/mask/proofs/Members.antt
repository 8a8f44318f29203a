-- The ones of a number of n bits are its disks.
use mathlib.Core.Path.{◌≡◌, refl, sym, ap, ◌∙◌}
use Prim.Native.Nat.{ℕ, zero, suc, ◌/◌, ◌%◌, ◌^◌, ◌<◌}
use native.Mathlib.Nat.{pow-suc}
use native.Mathlib.Omega.{arith}
use lib.Dec.{eqb}
use lib.Arith.{lt-one}
use lib.Count.{ones, ones_step}
use Rattle.basics.specs.Count.{bit, sum, count}
use Rattle.basics.proofs.Count.{count_front, count_ext}
use Rattle.mask.specs.Has.{has}
use Rattle.mask.specs.Count.{members}
use Rattle.mask.proofs.Has.{has_half, has_first, odd_or_even}

bit_first : (m : ℕ) → bit (has m 0) ≡ m % 2
unfolding bit
bit_first m =
    ap bit (has_first m)
    ∙ odd_or_even m (λ o. ap (λ (x : ℕ). bit (eqb x 1)) o ∙ sym o) (λ z. ap (λ (x : ℕ). bit (eqb x 1)) z ∙ sym z)

zero_ones : ones 0 ≡ 0
unfolding ones
zero_ones = refl

none : (m : ℕ) → members 0 m ≡ 0
unfolding count sum
none m = refl

pub ones_members : (n m : ℕ) → m < 2 ^ n → ones m ≡ members n m
ones_members zero m h = ap ones (lt-one h) ∙ zero_ones ∙ sym (none m)
ones_members (suc n) m h =
    ones_step m
    ∙ omega (
      arith,
      ones_members n (m / 2) (omega (arith, pow-suc 2 n)),
      bit_first m,
      count_front n (has m),
      count_ext n (λ d. has m (suc d)) (has (m / 2)) (λ d l. has_half m d),
    )
