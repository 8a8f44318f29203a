-- Where a settings sheet is refused, and what is enough where 11 is told.
--     sheet_placed, read_placed     a byte of the sheet, or its end
--     write_enough     a buffer of the length that 11 told
use mathlib.Core.Path.{◌≡◌, sym, ap, subst, ◌∙◌}
use mathlib.Core.List.{List}
use Prim.Native.Nat.{ℕ, ◌+◌, ◌*◌, ◌≤◌}
use native.Mathlib.Omega.{arith}
use lib.ListN.{length}
use Rattle.basics.specs.Limits.{disks_most}
use Rattle.std.specs.Prelude.{Result, Err}
use Rattle.field.specs.declared.Fault.{Fault}
use Rattle.field.specs.declared.Refusal.TheVariants.{NoRoom}
use Rattle.field.specs.Send.{answer_to, Sent}
use Rattle.field.specs.Sheet.{Note, got, refused}
use Rattle.field.specs.Told.{told_by}
use Rattle.field.proofs.Sends.{Roomless, sent_enough}
use Rattle.field.proofs.Within.{Within, within_bind, within_known, within_pure, within_more, within_between, within_opening}
use Rattle.field.proofs.Within.{within_times, within_whole, place_inside}
use Rattle.settings.specs.declared.Head.{Head}
use Rattle.settings.specs.Row.{mark, row}
use Rattle.settings.specs.Sheet.{kinds, rule, heading, body, fields, settings_sheet}
use Rattle.settings.specs.Kind.{kind_number}
use Rattle.settings.specs.declared.Table.{Table}
use Rattle.settings.specs.Told.{Told}
use Rattle.settings.specs.Draft.{sheet_draft}
use Rattle.settings.proofs.Alone.{within_alone}
use Rattle.settings.proofs.Accepted.{heading_disks}
use Rattle.settings.proofs.Writing.{draft_either}

within_row : (k : ℕ) → Within 20 (row k)
unfolding row mark
within_row k =
    within_bind {j = 5} (within_between _ _ _ _) (λ c. within_bind {j = 5} (within_between _ _ _ _) (λ l.
    within_bind {j = 5} (within_between _ _ _ _) (λ d. within_bind {j = 5} (within_alone _ _ _ _) (λ m. within_pure _))))

within_body : (h : Head) → h.disks ≤ disks_most → Within (disks_most * 20) (body h)
unfolding body
within_body h l =
    within_more (omega arith) (within_bind (within_times h.disks (within_row (kind_number h.kind))) (λ rows. within_pure _))

within_heading : (unit t : ℕ) → Within 25 (heading unit t)
unfolding heading rule
within_heading unit t =
    within_bind {j = 15} (within_opening kinds unit t) (λ k. within_bind {j = 5} (within_between _ _ _ _) (λ n.
    within_bind {j = 5} (within_alone _ _ _ _) (λ r. within_pure _)))

pub within_sheet : (unit t : ℕ) → Within (25 + disks_most * 20) (settings_sheet unit t)
unfolding settings_sheet fields
within_sheet unit t =
    within_whole (within_known (λ h. h.disks ≤ disks_most) (within_heading unit t)
    (λ s at h e f. (heading_disks unit t s at h e f).1) within_body)

pub sheet_placed : (unit t : ℕ) (s : List ℕ) {n : Note} → settings_sheet unit t s 0 ≡ refused n → n.place ≤ length s
sheet_placed unit t s h = place_inside (within_sheet unit t) h

-- the same of what `read` answers
pub read_placed : (unit t : ℕ) (s : List ℕ) (k : ℕ) {r : Result Table Fault} {f : Fault} → Told k (settings_sheet unit t s 0) r
    → r ≡ Err f → f.place ≤ length s
read_placed unit t s k w h = sheet_placed unit t s (sym w ∙ ap (told_by (λ T. got T k)) h)

module _ (k unit t r : ℕ) (cs ls ds ms : List ℕ) where
  roomless : Roomless (sheet_draft k unit t r cs ls ds ms)
  unfolding Roomless
  roomless =
      draft_either k unit t r cs ls ds ms (λ n o e. subst Roomless (sym e) o) (λ w. subst Roomless (sym w.is) tt)

  -- of any kind
  pub write_enough : (out out' : List ℕ) (f : Fault) (after : List ℕ) → Sent (sheet_draft k unit t r cs ls ds ms) out (Err f) after
      → f.refusal ≡ NoRoom → f.place ≤ length out' → answer_to (sheet_draft k unit t r cs ls ds ms) out' ≡ got tt f.place
  write_enough out out' f after w q l = sent_enough (sheet_draft k unit t r cs ls ds ms) out out' f after roomless w q l
