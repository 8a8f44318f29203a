-- Laws of a mask's disks as a list.
--     disks_up                                  no disk at a place or above: those below it are all
--     disks_held, disks_small, each_first       what holds of each disk; a list of disks that begins with one
--     disks_total                               a sum over the disks below n is one over the list
--     disks_zero, disks_lowest                  0 has no disk; the lowest disk of a mask, then those of the mask without it
use mathlib.Core.Path.{◌≡◌, sym, ap, ◌∙◌, refl, ap₂, subst}
use mathlib.Core.Bool.{Bool, true, false, not, ◌&&◌}
use Prim.Native.Nat.{ℕ, zero, suc, ◌+◌, ◌-◌, ◌^◌, ◌≤◌, ◌<◌}
use native.Mathlib.Nat.{eq-or-lt_of_le}
use native.Mathlib.Omega.{arith}
use lib.Dec.{eqb}
use mathlib.Core.Logic.{◌⊎◌, inl, inr}
use mathlib.Core.List.{List, [], ◌∷◌, ◌++◌, append-nil}
use Rattle.std.specs.List.{sum_by}
use Rattle.basics.specs.Lists.{All}
use Rattle.std.proofs.lemmas.List.Sums.{sum_by-append}
use borrow.Author.Tests.{eq-eqb, ne_eqb}
use Rattle.basics.specs.Choice.{pick}
use Rattle.basics.proofs.Choice.{pick_true, pick_false}
use Rattle.basics.specs.Limits.{disks_most}
use Rattle.basics.specs.Count.{sum, gate}
use Rattle.basics.proofs.Count.{gate_true, gate_false}
use Rattle.basics.proofs.Tests.{by_cases, not_here}
use Rattle.mask.specs.Has.{has}
use Rattle.mask.specs.Lowest.{First}
use Rattle.mask.specs.Disks.{disks_below, disks_of}
use Rattle.mask.proofs.Has.{has_zero, has_above, has_bound}

disks_enough : (f k m : ℕ) → m < 2 ^ f → disks_below (f + k) m ≡ disks_below f m
unfolding disks_below
disks_enough f zero m h = ap (λ (k : ℕ). disks_below k m) {x = f + 0} {y = f} (omega arith)
disks_enough f (suc k) m h =
    ap (λ (k : ℕ). disks_below k m) {x = f + suc k} {y = suc (f + k)} (omega arith)
    ∙ ap (λ (x : List ℕ). disks_below (f + k) m ++ x) (pick_false ((f + k) ∷ []) [] (has_above f {d = f + k} h (omega arith)))
    ∙ append-nil (disks_below (f + k) m)
    ∙ disks_enough f k m h

pub disks_up : (f n m : ℕ) → m < 2 ^ f → f ≤ n → disks_below n m ≡ disks_below f m
disks_up f n m h l = ap (λ (k : ℕ). disks_below k m) {x = n} {y = f + (n - f)} (omega arith) ∙ disks_enough f (n - f) m h

-- ---- what holds of each disk, and a sum over them

all_append : (P : ℕ → Type 0) (xs ys : List ℕ) → All P xs → All P ys → All P (xs ++ ys)
unfolding All
all_append P [] ys h k = k
all_append P (x ∷ xs) ys h k = (h.0, all_append P xs ys h.1 k)

disks_each : (P : ℕ → Type 0) (n m : ℕ) → ((d : ℕ) → d < n → has m d ≡ true → P d) → All P (disks_below n m)
unfolding disks_below All
disks_each P zero m h = tt
disks_each P (suc n) m h =
    all_append P (disks_below n m) (pick (has m n) (n ∷ []) []) (disks_each P n m (λ d l. h d (omega arith)))
    (by_cases (has m n) (λ t. subst (All P) (sym (pick_true (n ∷ []) [] t)) (h n (omega arith) t, tt))
    (λ f. subst (All P) (sym (pick_false (n ∷ []) [] f)) tt))

pub disks_held : (m : ℕ) → All (λ d. has m d ≡ true) (disks_of m)
unfolding disks_of
disks_held m = disks_each (λ d. has m d ≡ true) disks_most m (λ d _ t. t)

pub disks_small : (m : ℕ) → All (λ d. d < disks_most) (disks_of m)
unfolding disks_of
disks_small m = disks_each (λ d. d < disks_most) disks_most m (λ d l _. l)

-- a list of disks begins with one that is still to come
pub each_first : (P : ℕ → Type 0) {ds rest : List ℕ} {d : ℕ} → ds ≡ d ∷ rest → All P ds → P d × All P rest
unfolding All
each_first P e h = subst (All P) e h

disks_sum : (f : ℕ → ℕ) (n m : ℕ) → sum n (λ d. gate (has m d) (f d)) ≡ sum_by f (disks_below n m)
unfolding disks_below sum
disks_sum f zero m = refl
disks_sum f (suc n) m =
    let last : sum_by f (pick (has m n) (n ∷ []) []) ≡ gate (has m n) (f n) =
    by_cases (has m n)
    (λ t. ap (sum_by f) (pick_true (n ∷ []) [] t) ∙ (omega (arith, gate_true (has m n) (f n) t)))
    (λ e. ap (sum_by f) (pick_false (n ∷ []) [] e) ∙ sym (gate_false (has m n) (f n) e)) in
    omega (arith, disks_sum f n m, last, sum_by-append f (disks_below n m) (pick (has m n) (n ∷ []) []))

-- of a mask whose disks are below n
pub disks_total : (f : ℕ → ℕ) (n m : ℕ) → n ≤ disks_most → m < 2 ^ disks_most → ((d : ℕ) → has m d ≡ true → d < n)
    → sum n (λ d. gate (has m d) (f d)) ≡ sum_by f (disks_of m)
unfolding disks_of
disks_total f n m l h s =
    let b : m < 2 ^ n = has_bound disks_most n m h (λ d g. not_here (has m d) (λ t. omega (arith, s d t, g))) in
    disks_sum f n m ∙ ap (sum_by f) (sym (disks_up n disks_most m b l))

-- ---- the lowest disk, then the rest

disks_none : (n m : ℕ) → ((e : ℕ) → e < n → has m e ≡ false) → disks_below n m ≡ []
unfolding disks_below
disks_none zero m h = refl
disks_none (suc n) m h =
    ap₂ (λ (x y : List ℕ). x ++ y) (disks_none n m (λ e l. h e (omega arith))) (pick_false (n ∷ []) [] (h n (omega arith)))

pub disks_zero : disks_of 0 ≡ []
unfolding disks_of
disks_zero = disks_none disks_most 0 (λ e l. has_zero e)

-- d is the lowest disk of m, and r is m with d taken out
module _ (m d r : ℕ) (found : has m d ≡ true) (under : (e : ℕ) → e < d → has m e ≡ false)
    (taken : (e : ℕ) → has r e ≡ (not (eqb e d) && has m e)) where
  kept : (e : ℕ) → (e ≡ d → ⊥) → has m e ≡ has r e
  kept e n = sym (taken e ∙ ap (λ (b : Bool). not b && has m e) (ne_eqb e d n))

  first_at : disks_below (suc d) m ≡ d ∷ disks_below (suc d) r
  unfolding disks_below
  first_at =
      let gone : has r d ≡ false = taken d ∙ ap (λ (b : Bool). not b && has m d) (eq-eqb d d refl) in
      ap₂ (λ (x y : List ℕ). x ++ y) (disks_none d m under) (pick_true (d ∷ []) [] found)
      ∙ sym
      (ap₂ (λ (x y : List ℕ). d ∷ (x ++ y)) (disks_none d r (λ e l. sym (kept e (λ q. omega arith)) ∙ under e l))
      (pick_false (d ∷ []) [] gone))

  disks_first : (n : ℕ) → d < n → disks_below n m ≡ d ∷ disks_below n r
  unfolding disks_below
  disks_first zero l = absurd (omega arith)
  disks_first (suc n) l = side (disks_first n) (eq-or-lt_of_le l)
    where
      side : (d < n → disks_below n m ≡ d ∷ disks_below n r) → (suc d ≡ suc n) ⊎ (suc d < suc n)
          → disks_below (suc n) m ≡ d ∷ disks_below (suc n) r
      side rest (inl e) = subst (λ (k : ℕ). disks_below (suc k) m ≡ d ∷ disks_below (suc k) r) {x = d} {y = n} (omega arith) first_at
      side rest (inr k) = ap₂ (λ (x : List ℕ) (b : Bool). x ++ pick b (n ∷ []) []) (rest (omega arith)) (kept n (λ q. omega arith))

pub disks_lowest : (m d r : ℕ) → First m d → ((e : ℕ) → has r e ≡ (not (eqb e d) && has m e))
    → disks_of m ≡ d ∷ disks_of r
unfolding disks_of
disks_lowest m d r low taken = disks_first m d r low.found low.under taken disks_most low.disk
