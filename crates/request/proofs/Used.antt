-- Copies in use, where some disks are out.
--     used_below                 whether a disk of a number is in use, place by place
--     unused_all                 where none of a list is in use, each is out
--     InUse                      a disk of a number that is in use
--     used_some, some_used       there is one exactly if its disks are not all out
--     nothing_left, some_left    by the number without the disks that are out: it is 0 exactly if all are
--     none_out                   where no disk is out, every number of copies has one in use
use mathlib.Core.Path.{◌≡◌, refl, sym, ap, ap₂, ◌∙◌}
use mathlib.Core.Bool.{Bool, true, false, not, ◌&&◌, ◌||◌, or_assoc, or-false}
use mathlib.Core.List.{List, [], ◌∷◌, ◌++◌}
use Prim.Native.Nat.{ℕ, zero, suc, ◌^◌, ◌<◌}
use native.Mathlib.Omega.{arith}
use borrow.Author.Tests.{not-true}
use Rattle.basics.specs.Choice.{pick}
use Rattle.basics.specs.Count.{any}
use Rattle.basics.specs.Limits.{disks_most}
use Rattle.basics.specs.Lists.{All}
use Rattle.basics.proofs.Count.{any_some, any_here}
use Rattle.basics.proofs.Tests.{by_cases, differ, not_here, both, and_both, or_left, or_right}
use Rattle.mask.specs.Has.{has}
use Rattle.mask.proofs.Has.{has_zero, has_place, mask_some}
use Rattle.mask.specs.Disks.{disks_below, disks_of}
use Rattle.request.specs.Request.{used}

module _ (out : ℕ → Bool) where
  used_append : (xs ys : List ℕ) → used out (xs ++ ys) ≡ (used out xs || used out ys)
  unfolding used
  used_append [] ys = refl
  used_append (x ∷ xs) ys =
      ap (λ (b : Bool). not (out x) || b) (used_append xs ys) ∙ sym (or_assoc (not (out x)) (used out xs) (used out ys))

  -- a disk that may be there
  used_one : (b : Bool) (d : ℕ) → used out (pick b (d ∷ []) []) ≡ (b && not (out d))
  unfolding used pick
  used_one true d = or-false (not (out d))
  used_one false d = refl

  pub used_below : (n m : ℕ) → used out (disks_below n m) ≡ any n (λ d. has m d && not (out d))
  unfolding disks_below any used
  used_below zero m = refl
  used_below (suc d) m =
      used_append (disks_below d m) (pick (has m d) (d ∷ []) [])
      ∙ ap₂ (λ (a b : Bool). a || b) (used_below d m) (used_one (has m d) d)

  pub unused_all : (ds : List ℕ) → used out ds ≡ false → All (λ d. out d ≡ true) ds
  unfolding used All
  unused_all [] h = tt
  unused_all (d ∷ ds) h = (
    by_cases (out d) (λ t. t) (λ f. absurd (differ (or_left (not (out d)) (used out ds) (ap not f)) h)),
    unused_all ds (not_here (used out ds) (λ t. differ (or_right (not (out d)) (used out ds) t) h)),
  )

pub record InUse (out : ℕ → Bool) (m : ℕ) : Type 0 where
  pub disk : ℕ
  pub holds : has m disk ≡ true
  pub stays : out disk ≡ false

module _ (out : ℕ → Bool) (m : ℕ) where
  pub used_some : used out (disks_of m) ≡ true → InUse out m
  unfolding disks_of
  used_some h =
      let f = any_some disks_most (λ d. has m d && not (out d)) (sym (used_below out disks_most m) ∙ h) in
      let b = both (has m f.0) (not (out f.0)) f.2 in
      record { disk = f.0; holds = b.0; stays = not-true (out f.0) b.1 }

  pub some_used : m < 2 ^ disks_most → InUse out m → used out (disks_of m) ≡ true
  unfolding disks_of
  some_used l u =
      let kept : (has m u.disk && not (out u.disk)) ≡ true = and_both _ _ u.holds (ap not u.stays) in
      used_below out disks_most m ∙ any_here disks_most _ u.disk (has_place disks_most m u.disk l u.holds) kept

-- r holds the disks of m that are not in `gone`
module _ (m gone r : ℕ) (left : (d : ℕ) → has r d ≡ (has m d && not (has gone d))) where
  pub nothing_left : r ≡ 0 → used (has gone) (disks_of m) ≡ false
  nothing_left z = not_here (used (has gone) (disks_of m)) (λ h.
      let u : InUse (has gone) m = used_some (has gone) m h in
      differ (left u.disk ∙ and_both _ _ u.holds (ap not u.stays)) (ap (λ (x : ℕ). has x u.disk) z ∙ has_zero u.disk))

  pub some_left : m < 2 ^ disks_most → r < 2 ^ disks_most → (r ≡ 0 → ⊥) → used (has gone) (disks_of m) ≡ true
  some_left l k some =
      let f = mask_some disks_most r k (omega (arith, some)) in
      let b = both (has m f.0) (not (has gone f.0)) (sym (left f.0) ∙ f.2) in
      some_used (has gone) m l (record { disk = f.0; holds = b.0; stays = not-true (has gone f.0) b.1 })

pub none_out : (m : ℕ) → m < 2 ^ disks_most → (m ≡ 0 → ⊥) → InUse (λ _. false) m
none_out m l some =
    let f = mask_some disks_most m l (omega (arith, some)) in record { disk = f.0; holds = f.2; stays = refl }
