-- Laws of `if_room`: the ways in which an accepted sheet's plan meets the two lent lists.
--     room_disks, room_short, room_both     the first list is too short, the second alone, neither
--     room_either                           there is no fourth
use mathlib.Core.Path.{◌≡◌, ◌∙◌}
use mathlib.Core.List.{List}
use Prim.Native.Nat.{ℕ, ◌≤◌, ◌<◌}
use borrow.Author.Tests.{le-leb, lt-leb, leb-true, leb-false}
use lib.Dec.{leb}
use lib.ListN.{length}
use Rattle.basics.proofs.Choice.{pick_true, pick_false}
use Rattle.basics.proofs.Tests.{by_cases}
use Rattle.field.specs.Sheet.{note, got, refused}
use Rattle.plan.specs.Plan.{Plan}
use Rattle.plan.specs.Receive.{if_room}

module _ (p : Plan) (e : ℕ) (disks short : List ℕ) where
  pub room_disks : length disks < length p.disks → if_room (got p e) disks short ≡ refused (note 11 (length p.disks))
  unfolding if_room
  room_disks l = pick_false _ _ (lt-leb _ _ l)

  module _ (k : length p.disks ≤ length disks) where
    pub room_short : length short < length p.short → if_room (got p e) disks short ≡ refused (note 11 (length p.short))
    unfolding if_room
    room_short l = pick_true _ _ (le-leb _ _ k) ∙ pick_false _ _ (lt-leb _ _ l)

    pub room_both : length p.short ≤ length short → if_room (got p e) disks short ≡ got p e
    unfolding if_room
    room_both l = pick_true _ _ (le-leb _ _ k) ∙ pick_true _ _ (le-leb _ _ l)

  pub room_either : {C : Type 0} → (length disks < length p.disks → C)
      → (length p.disks ≤ length disks → length short < length p.short → C)
      → (length p.disks ≤ length disks → length p.short ≤ length short → C) → C
  room_either f g h =
      by_cases (leb (length p.disks) (length disks))
      (λ t. let k : length p.disks ≤ length disks = leb-true _ _ t in
      by_cases (leb (length p.short) (length short)) (λ u. h k (leb-true _ _ u)) (λ u. g k (leb-false _ _ u)))
      (λ t. f (leb-false _ _ t))
