-- Laws of the disks that have room.
--     full_roomy                  a disk that has no room, for the capacities
--     reopen_full, reopen_roomy   the disks that have room, after one more block
use Prim.Native.Nat.{ℕ, ◌≤◌, ◌<◌}
use mathlib.Core.Path.{◌≡◌, refl, sym, ap, ◌∙◌}
use mathlib.Core.Bool.{Bool, true, false, not, ◌&&◌}
use mathlib.Core.List.{List}
use lib.Dec.{eqb, ltb}
use lib.ListN.{get_or}
use borrow.Author.Tests.{lt-ltb, le-ltb, eqb-true, eqb-false}
use Rattle.mask.specs.Has.{has}
use Rattle.basics.proofs.Tests.{by_cases, differ, and_both}
use Rattle.places.specs.Places.{roomy}
use Rattle.places.specs.Room.{Open, OpenBut}

-- a disk below n has no room
pub full_roomy : (n d room : ℕ) (caps counts : List ℕ) → Open n caps counts room → d < n → has room d ≡ false → roomy caps counts d ≡ false
full_roomy n d room caps counts o l e = after (ltb d n) (roomy caps counts d) (lt-ltb d n l) (sym (o d) ∙ e)
  where
    after : (a b : Bool) → a ≡ true → (a && b) ≡ false → b ≡ false
    after true b e f = f
    after false b e f = absurd (differ e refl)

module _ {n d room : ℕ} {caps counts : List ℕ} (o : OpenBut n d caps counts room) where
  pub reopen_full : (r : ℕ) → ((e : ℕ) → has r e ≡ (not (eqb e d) && has room e)) → get_or caps d 0 ≤ get_or counts d 0
      → Open n caps counts r
  reopen_full r f h e =
      f e ∙ by_cases (eqb e d)
      (λ t. ap (λ (y : Bool). not y && has room e) t
      ∙ sym (ap (λ (y : ℕ). ltb y n && roomy caps counts y) (eqb-true e d t)
      ∙ ap (λ (y : Bool). y && roomy caps counts d) (lt-ltb d n o.disk) ∙ le-ltb _ _ h))
      (λ t. ap (λ (y : Bool). not y && has room e) t ∙ o.others e (eqb-false e d t))

  pub reopen_roomy : get_or counts d 0 < get_or caps d 0 → Open n caps counts room
  reopen_roomy h e =
      by_cases (eqb e d)
      (λ t. ap (has room) (eqb-true e d t) ∙ o.here
      ∙ sym (ap (λ (y : ℕ). ltb y n && roomy caps counts y) (eqb-true e d t)
      ∙ and_both (ltb d n) (roomy caps counts d) (lt-ltb d n o.disk) (lt-ltb _ _ h)))
      (λ t. o.others e (eqb-false e d t))
