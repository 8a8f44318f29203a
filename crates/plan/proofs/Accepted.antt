-- What an answer of the plan reader says: for those who call it.
--     Took, took       an accepted sheet: its plan, Q, R and m, and the lists
use mathlib.Core.Path.{◌≡◌, ap, ◌∙◌}
use mathlib.Core.List.{List}
use Prim.Native.Nat.{ℕ}
use lib.ListN.{length}
use Rattle.std.specs.Prelude.{Ok}
use Rattle.field.specs.Sheet.{note, Out, got, refused}
use Rattle.field.proofs.Unique.{not_refused}
use Rattle.plan.specs.declared.Head.{Head}
use Rattle.plan.specs.Plan.{Plan}
use Rattle.plan.specs.Receive.{if_room, heads, disks_left, short_left, Received}
use Rattle.basics.specs.Buffer.{over}
use Rattle.plan.proofs.Room.{room_disks, room_short, room_both, room_either}

-- an accepted sheet: its plan, Q, R and m, and the lists
pub record Took (sheet : Out Plan) (bytes : ℕ) (disks short : List ℕ) (h : Head) (disks' short' : List ℕ) : Type 0 where
  pub plan : Plan
  pub says : sheet ≡ got plan bytes
  pub blocks : h.blocks ≡ length plan.disks
  pub time : h.time ≡ plan.time
  pub size : h.size ≡ length plan.short
  pub disks_left_law : disks' ≡ over plan.disks disks
  pub short_left_law : short' ≡ over plan.short short

module _ (bytes : ℕ) (disks short : List ℕ) (h : Head) (disks' short' : List ℕ) where
  took_got : (p : Plan) (e : ℕ) → Received (got p e) bytes disks short (Ok h) disks' short'
      → Took (got p e) bytes disks short h disks' short'
  unfolding if_room heads disks_left short_left
  took_got p e r =
      room_either p e disks short
      (λ l. let a : got h bytes ≡ refused (note 11 (length p.disks)) = r.answer ∙ ap heads (room_disks p e disks short l) in
      absurd (not_refused a))
      (λ k l. let a : got h bytes ≡ refused (note 11 (length p.short)) = r.answer ∙ ap heads (room_short p e disks short k l) in
      absurd (not_refused a))
      (λ k l.
      let x : if_room (got p e) disks short ≡ got p e = room_both p e disks short k l in
      let a : got h bytes ≡ heads (got p e) = r.answer ∙ ap heads x in
      record {
        plan = p;
        says = cc;
        blocks = cc;
        time = cc;
        size = cc;
        disks_left_law = r.blocks ∙ ap (λ (o : Out Plan). disks_left o disks) x;
        short_left_law = r.members ∙ ap (λ (o : Out Plan). short_left o short) x;
      })

  pub took : (sheet : Out Plan) → Received sheet bytes disks short (Ok h) disks' short' → Took sheet bytes disks short h disks' short'
  unfolding if_room heads
  took (got p e) r = took_got p e r
  took (refused n) r = absurd (not_refused r.answer)
