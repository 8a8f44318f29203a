-- Laws of the lowest disk of a mask: as many zeros stand under it as the number has at its end.
--     zeros_under, zeros_found                a number of k bits: no disk under its trailing zeros, and a disk at them if they are under k
--     zeros_first                             at disks_most bits they are the lowest disk of a number that is not 0
use mathlib.Core.Path.{◌≡◌, ap, ◌∙◌}
use mathlib.Core.Bool.{true, false}
use mathlib.Core.Logic.{⊎_elim}
use Prim.Native.Nat.{ℕ, zero, suc, ◌/◌, ◌%◌, ◌^◌, ◌<◌}
use native.Mathlib.Omega.{arith}
use lib.Dec.{eqb}
use lib.Count.{count_trailing_zeros, under, trailing_le}
use Rattle.mask.specs.Has.{has}
use Rattle.std.specs.Prelude.{None}
use Rattle.mask.specs.Lowest.{First, Lowest}
use Rattle.mask.proofs.Has.{has_first, has_half, mask_zero, odd_or_even}
use Rattle.basics.specs.Limits.{disks_most}
use Rattle.basics.proofs.Tests.{lt_or_le}

-- ---- trailing zeros, of a number of any width

module _ (k m : ℕ) where
  zeros_odd : m % 2 ≡ 1 → count_trailing_zeros (suc k) m ≡ 0
  unfolding count_trailing_zeros
  zeros_odd e = ap (λ (x : ℕ). under x (count_trailing_zeros k (m / 2))) e

  zeros_even : m % 2 ≡ 0 → count_trailing_zeros (suc k) m ≡ suc (count_trailing_zeros k (m / 2))
  unfolding count_trailing_zeros
  zeros_even e = ap (λ (x : ℕ). under x (count_trailing_zeros k (m / 2))) e

pub zeros_under : (k m e : ℕ) → e < count_trailing_zeros k m → has m e ≡ false
zeros_under zero m e l = absurd (omega (arith, trailing_le 0 m))
zeros_under (suc k) m zero l =
    odd_or_even m (λ o. absurd (omega (arith, zeros_odd k m o))) (λ z. has_first m ∙ ap (λ (x : ℕ). eqb x 1) z)
zeros_under (suc k) m (suc e) l =
    odd_or_even m (λ o. absurd (omega (arith, zeros_odd k m o)))
    (λ z. has_half m e ∙ zeros_under k (m / 2) e (omega (arith, zeros_even k m z)))

pub zeros_found : (k m : ℕ) → count_trailing_zeros k m < k → has m (count_trailing_zeros k m) ≡ true
zeros_found zero m l = absurd (omega arith)
zeros_found (suc k) m l =
    odd_or_even m (λ o. ap (has m) (zeros_odd k m o) ∙ has_first m ∙ ap (λ (x : ℕ). eqb x 1) o)
    (λ z. let e = zeros_even k m z in ap (has m) e ∙ has_half m (count_trailing_zeros k (m / 2)) ∙ zeros_found k (m / 2) (omega arith))

-- of a number that is not 0 they are the lowest disk
pub zeros_first : (m : ℕ) → m < 2 ^ disks_most → (m ≡ 0 → ⊥) → First m (count_trailing_zeros disks_most m)
zeros_first m h n =
    let l : count_trailing_zeros disks_most m < disks_most =
    ⊎_elim (λ k. k) (λ k. absurd (n (mask_zero disks_most m h (λ d g. zeros_under disks_most m d (omega (arith, g, k))))))
    (lt_or_le (count_trailing_zeros disks_most m) disks_most) in
    record { disk = l; under = zeros_under disks_most m; found = zeros_found disks_most m l }

-- none is told of 0 alone
pub lowest_zero : (m : ℕ) → Lowest m None → m ≡ 0
lowest_zero m h = h
