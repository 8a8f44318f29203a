-- The plan sheet: document 01's example read into lent lists and written, a refusal of each.
--     example     document 01's plan sheet
--     plan        its values
use Prim.Native.Nat.{ℕ}
use mathlib.Core.Path.{◌≡◌, refl}
use mathlib.Core.List.{List, [], ◌∷◌}
use lib.ListN.{replicate}
use Rattle.std.specs.Prelude.{Ok, Err}
use Rattle.field.specs.declared.Refusal.TheVariants.{NoRoom}
use Rattle.field.specs.Refusal.{fault_at}
use Rattle.field.specs.Send.{sheet, Sent}
use Rattle.field.specs.Sheet.{note, refused}
use Rattle.plan.specs.Draft.{plan_draft}
use Rattle.plan.specs.Plan.{Plan, plan_sheet}
use Rattle.plan.specs.Receive.{Received}
use Rattle.vectors.specs.Text.{bytes}
use Rattle.vectors.proofs.Opened.{plan_opened}

abbrev pub example : List ℕ
example = bytes "03 07 AC 02 04 09 00 00 01 01 04 00 01 02 03"

abbrev pub plan : Plan
plan = record { time = 9; disks = 0 ∷ 0 ∷ 1 ∷ 1 ∷ []; short = 0 ∷ 1 ∷ 2 ∷ 3 ∷ [] }

-- ---- read

-- block 2 of two blocks
pub block_at_q : plan_sheet 7 300 (bytes "03 07 AC 02 02 09 00 01 01 02") 0 ≡ refused (note 16 9)
unfolding plan_opened
block_at_q = refl

-- Q, R and m; the disks and the short set stand first, the entries beyond them are as they were
pub lists_filled :
    Received (plan_sheet 7 300 example 0) 15 (replicate 6 99) (replicate 5 99)
    (Ok (record { blocks = 4; time = 9; size = 4 }))
    (0 ∷ 0 ∷ 1 ∷ 1 ∷ 99 ∷ 99 ∷ []) (0 ∷ 1 ∷ 2 ∷ 3 ∷ 99 ∷ [])
unfolding plan_opened
lists_filled = record { answer = refl; blocks = refl; members = refl }

-- ---- write

-- m is the size of the short set, not Q
pub draft_smaller_set : plan_draft 7 300 (record { time = 10; disks = 2 ∷ 0 ∷ 0 ∷ []; short = 0 ∷ [] })
    ≡ sheet (bytes "03 07 AC 02 03 0A 02 00 00 01 00")
unfolding plan_opened
draft_smaller_set = refl

-- the very length is room enough
pub write_exact : Sent (plan_draft 7 300 plan) (replicate 15 0xEE) (Ok 15) example
unfolding plan_opened
write_exact = record { answer = refl; held = refl }

-- one byte less is 11, and the buffer is as it was
write_no_room : Sent (plan_draft 7 300 plan) (replicate 14 0xEE) (Err (fault_at NoRoom 15)) (replicate 14 0xEE)
unfolding plan_opened
write_no_room = record { answer = refl; held = refl }
