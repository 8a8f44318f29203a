-- Laws of the kinds of requests, and of the age, which kind 4 alone has.
--     kind_either, kind_listed, kind_tried, kind_other, kind_small     the kinds are 2 and 4, each of one byte
--     aged_none, aged_zero, aged_other, aged_tried, aged_two           kind 2 has age 0, kind 4 any
--     age_held, age_empty, age_bound                       the age's bytes
use mathlib.Core.Path.{◌≡◌, sym, ap}
use mathlib.Core.Bool.{true, false, not}
use mathlib.Core.Logic.{◌⊎◌, inl, inr, ⊎_elim}
use mathlib.Core.List.{List, [], ◌∷◌}
use Prim.Native.Nat.{ℕ, ◌≤◌, ◌<◌}
use native.Mathlib.Omega.{arith}
use borrow.Author.Tests.{eq-eqb, ne_eqb, lt-ltb, le-ltb, eqb-true, ltb-true, ltb-false}
use lib.Dec.{eqb, ltb}
use lib.ListN.{length}
use Rattle.basics.specs.Lists.{listed}
use Rattle.basics.proofs.Choice.{pick_true, pick_false, pick_elim}
use Rattle.basics.proofs.Lists.{listed_one}
use Rattle.basics.proofs.Tests.{by_cases, differ, not_here, or_elim, first_false, second_false}
use Rattle.number.specs.Encode.{encode, width_of}
use Rattle.number.proofs.Encode.{width_bounds}
use Rattle.request.specs.Draft.{age_bytes, aged}
use Rattle.request.specs.Request.{kinds}

-- ---- the kinds

module _ (k : ℕ) where
  pub kind_either : listed kinds k ≡ true → (k ≡ 2) ⊎ (k ≡ 4)
  unfolding listed
  kind_either h = ⊎_elim (λ t. inl (sym (eqb-true 2 k t))) (λ t. inr (listed_one 4 k t)) (or_elim (eqb 2 k) (listed (4 ∷ []) k) h)

  pub kind_listed : (k ≡ 2) ⊎ (k ≡ 4) → listed kinds k ≡ true
  unfolding listed
  kind_listed h = ⊎_elim (λ e. rw e) (λ e. rw e) h

  -- as tests find it
  pub kind_tried : ((k ≡ 2 → ⊥) × (k ≡ 4)) ⊎ (k ≡ 2) → listed kinds k ≡ true
  kind_tried h = kind_listed (⊎_elim (λ e. inr e.1) (λ e. inl e) h)

  pub kind_other : (k ≡ 2 → ⊥) → (k ≡ 4 → ⊥) → listed kinds k ≡ false
  kind_other f g = not_here (listed kinds k) (λ h. ⊎_elim f g (kind_either h))

  pub kind_small : listed kinds k ≡ true → k < 128
  kind_small h = ⊎_elim (λ e. omega arith) (λ e. omega arith) (kind_either h)

-- ---- the age

module _ (k a : ℕ) where
  pub aged_none : k ≡ 2 → 0 < a → aged k a ≡ false
  unfolding aged
  aged_none e l = rw (eq-eqb k 2 e, lt-ltb 0 a l)

  pub aged_zero : a ≤ 0 → aged k a ≡ true
  unfolding aged
  aged_zero l = ap not (second_false (eqb k 2) (le-ltb 0 a l))

  pub aged_other : (k ≡ 2 → ⊥) → aged k a ≡ true
  unfolding aged
  aged_other f = ap not (first_false (ltb 0 a) (ne_eqb k 2 f))

  -- as tests find it
  pub aged_tried : ((k ≡ 2) × (a ≤ 0)) ⊎ (k ≡ 2 → ⊥) → aged k a ≡ true
  aged_tried h = ⊎_elim (λ e. aged_zero e.1) (λ f. aged_other f) h

  pub aged_two : aged k a ≡ true → k ≡ 2 → a ≡ 0
  aged_two h e =
      by_cases (ltb 0 a) (λ t. absurd (differ h (aged_none e (ltb-true 0 a t)))) (λ f. omega (arith, ltb-false 0 a f))

  pub age_held : k ≡ 4 → age_bytes k a ≡ encode a
  unfolding age_bytes
  age_held e = pick_true _ _ (eq-eqb k 4 e)

  pub age_empty : (k ≡ 4 → ⊥) → age_bytes k a ≡ []
  unfolding age_bytes
  age_empty f = pick_false _ _ (ne_eqb k 4 f)

  -- five bytes at the most
  pub age_bound : length (age_bytes k a) ≤ 5
  unfolding age_bytes width_of
  age_bound = pick_elim (λ (bs : List ℕ). length bs ≤ 5) _ _ _ (λ _. omega (arith, width_bounds a)) (λ _. omega arith)
