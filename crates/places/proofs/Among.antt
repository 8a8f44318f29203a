-- Laws of copies that all lie among some disks.
--     inside_zero, some_new         what the difference of two masks says of each disk
--     inside_true, inside_false     what it says of the test
--     inside_has, has_inside        what the test says of each disk
--     among_touched                 a disk that the blocks among x touch is in x
use Prim.Native.Nat.{ℕ, ◌≤◌, ◌<◌, ◌^◌}
use mathlib.Core.Path.{◌≡◌, sym, ap, ◌∙◌}
use mathlib.Core.Bool.{true, false, not, ◌&&◌}
use mathlib.Core.List.{List}
use native.Mathlib.Omega.{arith}
use lib.ListN.{get_or}
use borrow.Author.Tests.{not-true}
use Rattle.basics.specs.Limits.{disks_most}
use Rattle.mask.specs.Has.{has}
use Rattle.mask.proofs.Has.{has_zero, mask_some}
use Rattle.basics.specs.Count.{any}
use Rattle.model.specs.Shortfall.{touches}
use Rattle.basics.proofs.Tests.{by_cases, differ, and_left, and_right, and_both, not_here}
use Rattle.basics.proofs.Count.{any_some, any_none}
use Rattle.places.specs.Places.{holds}
use Rattle.places.specs.Among.{Inside, inside, among}

pub inside_zero : (m x w : ℕ) → ((e : ℕ) → has w e ≡ (has m e && not (has x e))) → w ≡ 0 → Inside m x
inside_zero m x w f z d t =
    by_cases (has x d)
    (λ s. s)
    (λ s. absurd (differ (and_both (has m d) (not (has x d)) t (ap not s)) (sym (f d) ∙ ap (λ (y : ℕ). has y d) z ∙ has_zero d)))

pub some_new : (m x w : ℕ) → w < 2 ^ disks_most → ((e : ℕ) → has w e ≡ (has m e && not (has x e))) → (w ≡ 0 → ⊥)
    → (d : ℕ) × (has m d ≡ true) × (has x d ≡ false)
some_new m x w l f n =
    let s = mask_some disks_most w l (omega arith) in
    let t : (has m s.0 && not (has x s.0)) ≡ true = sym (f s.0) ∙ s.2 in
    (s.0, and_left (has m s.0) (not (has x s.0)) t, not-true (has x s.0) (and_right (has m s.0) (not (has x s.0)) t))

pub inside_has : (m x d : ℕ) → d < disks_most → inside m x ≡ true → has m d ≡ true → has x d ≡ true
unfolding inside
inside_has m x d l e t =
    let n = any_none disks_most (λ i. has m i && not (has x i)) (not-true _ e) d l in
    by_cases (has x d) (λ s. s) (λ s. absurd (differ (and_both (has m d) (not (has x d)) t (ap not s)) n))

pub has_inside : (m x : ℕ) → ((d : ℕ) → has m d ≡ true → has x d ≡ true) → inside m x ≡ true
unfolding inside
has_inside m x f =
    ap not (not_here (any disks_most (λ i. has m i && not (has x i))) (λ t.
    let s = any_some disks_most (λ i. has m i && not (has x i)) t in
    differ (f s.0 (and_left (has m s.0) (not (has x s.0)) s.2))
    (not-true (has x s.0) (and_right (has m s.0) (not (has x s.0)) s.2))))

module _ (m x w : ℕ) (f : (e : ℕ) → has w e ≡ (has m e && not (has x e))) where
  pub inside_true : w ≡ 0 → inside m x ≡ true
  inside_true z = has_inside m x (inside_zero m x w f z)

  pub inside_false : w < 2 ^ disks_most → (w ≡ 0 → ⊥) → inside m x ≡ false
  inside_false l n =
      not_here (inside m x) (λ t.
      let s = mask_some disks_most w l (omega arith) in
      let u : (has m s.0 && not (has x s.0)) ≡ true = sym (f s.0) ∙ s.2 in
      differ (inside_has m x s.0 s.1 t (and_left (has m s.0) (not (has x s.0)) u))
      (not-true (has x s.0) (and_right (has m s.0) (not (has x s.0)) u)))

-- a disk that the blocks among x touch is in x
pub among_touched : (n q x : ℕ) (masks : List ℕ) → n ≤ disks_most → ((b d : ℕ) → b < q → holds masks b d ≡ true → d < n)
    → (d : ℕ) → touches q (holds masks) (among masks x) d ≡ true → has x d ≡ true
unfolding touches
among_touched n q x masks few small d t =
    let s = any_some q (λ b. among masks x b && holds masks b d) t in
    let h = and_right (among masks x s.0) (holds masks s.0 d) s.2 in
    inside_has (get_or masks s.0 0) x d (omega (arith, few, small s.0 d s.1 h))
    (and_left (among masks x s.0) (holds masks s.0 d) s.2) h
