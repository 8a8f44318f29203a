-- Each promise has one answer: no second one of as many bits satisfies it.
--     told_unique                   `held`, `count`, `disks`
--     mask_unique                   `both`, `either`, `without`, `put`, `take`, `only`, `before`
--     below_unique, lowest_unique   `below`, `lowest`
use Rattle.std.proofs.Common.{Option, None, Some}
use mathlib.Core.Path.{◌≡◌, refl, sym, ap, ◌∙◌}
use mathlib.Core.Bool.{Bool, true≢false}
use mathlib.Core.Logic.{◌⊎◌, inl, inr, ⊎_elim}
use Prim.Native.Nat.{ℕ, ◌^◌, ◌≤◌, ◌<◌}
use native.Mathlib.Nat.{le_of_lt}
use native.Mathlib.Omega.{arith}
use lib.Dec.{ltb}
use Rattle.mask.specs.Has.{has}
use Rattle.mask.specs.Member.{Below}
use Rattle.mask.specs.Lowest.{First, Lowest}
use Rattle.mask.proofs.Has.{has_ext, has_zero}
use Rattle.basics.specs.Limits.{disks_most}
use Rattle.basics.proofs.Tests.{lt_or_le}

-- a value that is told
pub told_unique : {A : Type 0} {v r r' : A} → r ≡ v → r' ≡ v → r ≡ r'
told_unique p q = p ∙ sym q

-- a mask of k bits told by its disks
pub mask_unique : (k : ℕ) (f : ℕ → Bool) (r r' : ℕ) → r < 2 ^ k → r' < 2 ^ k
    → ((e : ℕ) → has r e ≡ f e) → ((e : ℕ) → has r' e ≡ f e) → r ≡ r'
mask_unique k f r r' h h' p q = has_ext k r r' h h' (λ e l. told_unique (p e) (q e))

pub below_unique : (k n r r' : ℕ) → r < 2 ^ k → r' < 2 ^ k → Below n r → Below n r' → r ≡ r'
below_unique k n r r' h h' p q =
    ⊎_elim (λ l. mask_unique k (λ e. ltb e n) r r' h h' (p.holds (le_of_lt l)) (q.holds (le_of_lt l)))
    (λ l. mask_unique k (λ e. ltb e disks_most) r r' h h' (p.beyond l) (q.beyond l)) (lt_or_le n disks_most)

-- no lowest disk stands under another
no_lower : (m d d' : ℕ) → First m d → First m d' → d < d' → ⊥
no_lower m d d' p q l = true≢false (sym p.found ∙ q.under d l)

none_first : (m d : ℕ) → m ≡ 0 → First m d → ⊥
none_first m d z p = true≢false (sym p.found ∙ ap (λ (y : ℕ). has y d) z ∙ has_zero d)

pub lowest_unique : (m : ℕ) (r r' : Option ℕ) → Lowest m r → Lowest m r' → r ≡ r'
lowest_unique m None None p q = refl
lowest_unique m None (Some d) p q = absurd (none_first m d p q)
lowest_unique m (Some d) None p q = absurd (none_first m d q p)
lowest_unique m (Some d) (Some d') p q = ap Some (side (lt_or_le d d') (lt_or_le d' d))
  where
    side : (d < d') ⊎ (d' ≤ d) → (d' < d) ⊎ (d ≤ d') → d ≡ d'
    side (inl l) k = absurd (no_lower m d d' p q l)
    side (inr l) (inl k) = absurd (no_lower m d' d q p k)
    side (inr l) (inr k) = omega arith
