-- Document 02, Q-1: where a refusal is placed, and wrong places and numbers ruled out.
use mathlib.Core.Path.{◌≡◌, refl, ap, sym, ◌∙◌}
use mathlib.Core.List.{[], ◌∷◌}
use Prim.Native.Nat.{◌+◌, ◌*◌, ◌^◌}
use native.Mathlib.Omega.{arith}
use lib.ListN.{replicate}
use Rattle.std.specs.Prelude.{Err}
use Rattle.field.specs.declared.Fault.{Fault}
use Rattle.field.specs.declared.Refusal.TheVariants.{NoRoom}
use Rattle.field.specs.Field.{number}
use Rattle.field.specs.Refusal.{fault_at}
use Rattle.field.specs.Send.{none, Sent}
use Rattle.field.specs.Sheet.{Note, note, unplaced, Out, got, refused}
use Rattle.field.proofs.Sends.{sent_unique}
use Rattle.model.specs.declared.Rule.TheVariants.{Sum}
use Rattle.settings.specs.Draft.{settings_draft}
use Rattle.settings.specs.Sheet.{settings_sheet}
use Rattle.request.specs.Draft.{request_draft}
use Rattle.request.specs.Request.{request_sheet}
use Rattle.plan.specs.declared.Head.{Head}
use Rattle.plan.specs.Plan.{plan_sheet}
use Rattle.plan.specs.Receive.{if_room}
use Rattle.lent.specs.Packed.{reader_answer}
use Rattle.vectors.specs.Text.{bytes}
use Rattle.vectors.proofs.Opened.{settings_opened, request_opened, plan_opened, desk_opened}
use Rattle.vectors.proofs.Field as field
use Rattle.vectors.proofs.Request.{in_use, first_out, all_out}
use Rattle.vectors.proofs.Settings as settings

-- what tells two answers apart
unfoldable told : {A : Type 0} → Out A → Note
told (got a e) = unplaced 0
told (refused n) = n

places_differ : {A : Type 0} {o : Out A} (m n : Note) → o ≡ refused m → o ≡ refused n → m.place ≡ n.place
unfolding told
places_differ m n p q = ap (λ (x : Note). x.place) (ap told (sym p ∙ q))

numbers_differ : {A : Type 0} {o : Out A} (m n : Note) → o ≡ refused m → o ≡ refused n → m.number ≡ n.number
unfolding told
numbers_differ m n p q = ap (λ (x : Note). x.number) (ap told (sym p ∙ q))

-- ---- numbers

-- 2 at the byte that shows it
two_where_it_shows : number (bytes "01 AC 80 00") 1 ≡ refused (note 2 3) → ⊥
two_where_it_shows h = let z = places_differ (note 2 1) (note 2 3) field.any_long h in omega (arith, z)

-- 1 at the number
one_at_the_number : number (bytes "01 AC 82") 1 ≡ refused (note 1 1) → ⊥
one_at_the_number h = let z = places_differ (note 1 3) (note 1 1) field.any_cut h in omega (arith, z)

-- ---- settings

-- the load of disk 0 above its range: 15, at its first byte
load_above : settings_sheet 7 300 (bytes "01 07 AC 02 01 04 81 C2 D7 2F 01") 0 ≡ refused (note 15 6)
unfolding settings_opened
load_above = refl

-- the writer tells no place
pub written_load_above : settings_draft Sum 7 300 (4 ∷ []) (100000001 ∷ []) (1 ∷ []) ≡ none (unplaced 15)
unfolding settings_opened
written_load_above = refl

-- 11 telling the buffer's length
eleven_tells_the_buffer : Sent (settings_draft Sum 7 300 (4 ∷ []) (0 ∷ []) (1 ∷ [])) (replicate 7 0xEE) (Err (fault_at NoRoom 7))
    (replicate 7 0xEE) → ⊥
unfolding settings_opened
eleven_tells_the_buffer w =
    let e : Err (fault_at NoRoom 8) ≡ Err (fault_at NoRoom 7) = (sent_unique _ _ _ _ _ _ settings.write_no_room w).0 in
    let f : fault_at NoRoom 8 ≡ fault_at NoRoom 7 = cc in
    let z = ap (λ (x : Fault). x.place) f in omega (arith, z)

-- ---- request

-- no settings yet: 10 at the byte after the tenancy
ten_placed : request_sheet 7 300 0 in_use (bytes "02 07 AC 02 00") 0 ≡ refused (note 10 4)
unfolding request_opened
ten_placed = refl

ten_at_the_tenancy : request_sheet 7 300 0 in_use (bytes "02 07 AC 02 00") 0 ≡ refused (note 10 2) → ⊥
ten_at_the_tenancy h = let z = places_differ (note 10 4) (note 10 2) ten_placed h in omega (arith, z)

-- disk 1 again: 8 at the second
eight_placed : request_sheet 7 300 3 in_use (bytes "02 07 AC 02 01 02 01 01") 0 ≡ refused (note 8 7)
unfolding request_opened
eight_placed = refl

eight_at_the_number_before : request_sheet 7 300 3 in_use (bytes "02 07 AC 02 01 02 01 01") 0 ≡ refused (note 8 6) → ⊥
eight_at_the_number_before h = let z = places_differ (note 8 7) (note 8 6) eight_placed h in omega (arith, z)

-- 20 at the copy count
twenty_at_k : request_sheet 7 300 3 first_out (bytes "02 07 AC 02 01 01 00") 0 ≡ refused (note 20 5) → ⊥
twenty_at_k h = let z = places_differ (note 20 6) (note 20 5) all_out h in omega (arith, z)

-- nine disks, one of them at N: too many bits come first
too_many_bits : request_draft 2 7 300 0 8 (511 ∷ []) ≡ none (unplaced 6)
unfolding request_opened
too_many_bits = refl

-- a disk at N
bit_at_n : request_draft 2 7 300 0 3 (8 ∷ 0 ∷ []) ≡ none (unplaced 16)
unfolding request_opened
bit_at_n = refl

-- ---- plan

-- R = 0 for one block: 15
time_placed : plan_sheet 7 300 (bytes "03 07 AC 02 01 00 00 01 00") 0 ≡ refused (note 15 5)
unfolding plan_opened
time_placed = refl

time_as_six : plan_sheet 7 300 (bytes "03 07 AC 02 01 00 00 01 00") 0 ≡ refused (note 6 5) → ⊥
time_as_six h = let z = numbers_differ (note 15 5) (note 6 5) time_placed h in omega (arith, z)

-- m = 2 for one block: 6, a count
size_placed : plan_sheet 7 300 (bytes "03 07 AC 02 01 05 00 02 00 01") 0 ≡ refused (note 6 7)
unfolding plan_opened
size_placed = refl

size_as_fifteen : plan_sheet 7 300 (bytes "03 07 AC 02 01 05 00 02 00 01") 0 ≡ refused (note 15 7) → ⊥
size_as_fifteen h = let z = numbers_differ (note 6 7) (note 15 7) size_placed h in omega (arith, z)

-- three disks and one block, lists of two entries and of none: the disks are told
disks_told_first : if_room (plan_sheet 7 300 (bytes "03 07 AC 02 03 0A 02 00 00 01 00") 0) (replicate 2 99) [] ≡ refused (note 11 3)
unfolding plan_opened
disks_told_first = refl

set_told_first : if_room (plan_sheet 7 300 (bytes "03 07 AC 02 03 0A 02 00 00 01 00") 0) (replicate 2 99) [] ≡ refused (note 11 1) → ⊥
set_told_first h = let z = places_differ (note 11 3) (note 11 1) disks_told_first h in omega (arith, z)

-- ---- the exported answer

-- 16 at byte 9
packed : (h : Out Head) → h ≡ refused (note 16 9) → reader_answer h ≡ 16 + 9 * 2 ^ 32
unfolding desk_opened
packed h e = ap reader_answer e
