-- The read request: document 01's example and one with an age, which Example answers; refusals of the reader and the writer.
--     in_use, first_out               no disk out; disk 0 out
--     example, copies                 the request of document 01's bench input; its blocks: 3 is disks 0 and 1, 6 is disks 1 and 2
--     aged_example, aged_copies       a request of kind 4, at age 3; its blocks
use Prim.Native.Nat.{ℕ}
use mathlib.Core.Path.{◌≡◌, refl}
use mathlib.Core.Bool.{Bool, true, false}
use mathlib.Core.List.{List, [], ◌∷◌, ◌++◌, map}
use lib.Dec.{eqb, ltb}
use lib.ListN.{replicate}
use Rattle.std.specs.Prelude.{Err}
use Rattle.field.specs.declared.Refusal.TheVariants.{NoRoom}
use Rattle.field.specs.Refusal.{fault_at}
use Rattle.field.specs.Send.{sheet, none, Sent}
use Rattle.field.specs.Sheet.{note, unplaced, got, refused}
use Rattle.request.specs.Draft.{request_draft}
use Rattle.request.specs.Request.{request_sheet}
use Rattle.vectors.specs.Text.{bytes}
use Rattle.vectors.proofs.Opened.{request_opened}

-- no disk is out
abbrev pub in_use : ℕ → Bool
in_use d = false

-- disk 0 is
abbrev pub first_out : ℕ → Bool
first_out d = eqb d 0

abbrev pub example : List ℕ
example = bytes "02 07 AC 02 04 02 00 01 02 00 01 02 00 01 02 01 02"

abbrev pub copies : List ℕ
copies = 3 ∷ 3 ∷ 3 ∷ 6 ∷ []

abbrev pub aged_example : List ℕ
aged_example = bytes "04 07 AC 02 03 03 02 00 01 02 00 01 02 00 01"

abbrev pub aged_copies : List ℕ
aged_copies = 3 ∷ 3 ∷ 3 ∷ []

-- ---- read

-- kind 4: the age stands behind the tenancy
pub read_aged : request_sheet 7 300 3 in_use aged_example 0 ≡ got (record { kind = 4; age = 3; copies = aged_copies }) 15
unfolding request_opened
read_aged = refl

-- kind 2 has no such field, and means age 0
read_unaged : request_sheet 7 300 3 in_use (bytes "02 07 AC 02 01 02 00 01") 0 ≡ got (record { kind = 2; age = 0; copies = 3 ∷ [] }) 8
unfolding request_opened
read_unaged = refl

-- an age may be any number
read_oldest : request_sheet 7 300 3 in_use (bytes "04 07 AC 02 FF FF FF FF 0F 00") 0
    ≡ got (record { kind = 4; age = 4294967295; copies = [] }) 10
unfolding request_opened
read_oldest = refl

-- no settings yet: 10 before the age, also where there is none, or one in another than the shortest form
pub ten_before_the_age : request_sheet 7 300 0 in_use (bytes "04 07 AC 02") 0 ≡ refused (note 10 4)
unfolding request_opened
ten_before_the_age = refl

ten_before_its_form : request_sheet 7 300 0 in_use (bytes "04 07 AC 02 80 00") 0 ≡ refused (note 10 4)
unfolding request_opened
ten_before_its_form = refl

-- with settings these are 1 and 2
age_missing : request_sheet 7 300 3 in_use (bytes "04 07 AC 02") 0 ≡ refused (note 1 4)
unfolding request_opened
age_missing = refl

age_malformed : request_sheet 7 300 3 in_use (bytes "04 07 AC 02 80 00") 0 ≡ refused (note 2 4)
unfolding request_opened
age_malformed = refl

-- kinds 3 and 5
pub kind_three : request_sheet 7 300 3 in_use (bytes "03") 0 ≡ refused (unplaced 3)
unfolding request_opened
kind_three = refl

kind_five : request_sheet 7 300 3 in_use (bytes "05") 0 ≡ refused (unplaced 3)
unfolding request_opened
kind_five = refl

-- k = 0
pub no_copies : request_sheet 7 300 3 in_use (bytes "02 07 AC 02 01 00") 0 ≡ refused (note 7 5)
unfolding request_opened
no_copies = refl

-- disk 3 of three disks
pub disk_at_n : request_sheet 7 300 3 in_use (bytes "02 07 AC 02 01 01 03") 0 ≡ refused (note 16 6)
unfolding request_opened
disk_at_n = refl

-- ---- disks that are out

-- the copies of block 0 are all out: 20 at the last of them
pub all_out : request_sheet 7 300 3 first_out (bytes "02 07 AC 02 01 01 00") 0 ≡ refused (note 20 6)
unfolding request_opened
all_out = refl

both_out : request_sheet 7 300 3 (λ d. ltb d 2) (bytes "02 07 AC 02 01 02 00 01") 0 ≡ refused (note 20 7)
unfolding request_opened
both_out = refl

-- before the next number is read: a k of 0, the sheet's end, a byte too many
out_before_the_next : map (λ x. request_sheet 7 300 3 first_out (bytes "02 07 AC 02 02 01 00" ++ x) 0) (bytes "00" ∷ [] ∷ [])
    ≡ replicate 2 (refused (note 20 6))
unfolding request_opened
out_before_the_next = refl

out_before_nine : request_sheet 7 300 3 first_out (bytes "02 07 AC 02 01 01 00 FF") 0 ≡ refused (note 20 6)
unfolding request_opened
out_before_nine = refl

-- after the last copy's own 16 and 8
pub out_after_sixteen : request_sheet 7 300 3 (λ _. true) (bytes "02 07 AC 02 01 02 00 03") 0 ≡ refused (note 16 7)
unfolding request_opened
out_after_sixteen = refl

pub out_after_eight : request_sheet 7 300 3 (λ _. true) (bytes "02 07 AC 02 01 02 01 01") 0 ≡ refused (note 8 7)
unfolding request_opened
out_after_eight = refl

-- not where one copy is in use; the copies are given as they are named
pub one_in_use : request_sheet 7 300 3 first_out (bytes "02 07 AC 02 01 02 00 01") 0 ≡ got (record { kind = 2; age = 0; copies = 3 ∷ [] }) 8
unfolding request_opened
one_in_use = refl

-- all disks are out: no blocks are accepted
all_out_no_blocks : request_sheet 7 300 3 (λ _. true) (bytes "02 07 AC 02 00") 0 ≡ got (record { kind = 2; age = 0; copies = [] }) 5
unfolding request_opened
all_out_no_blocks = refl

-- ---- write

-- the age goes behind the tenancy
write_aged : request_draft 4 7 300 3 3 aged_copies ≡ sheet aged_example
unfolding request_opened
write_aged = refl

-- kind 4 stays kind 4, at age 0 too
pub write_age_zero : request_draft 4 7 300 0 3 (3 ∷ []) ≡ sheet (bytes "04 07 AC 02 00 01 02 00 01")
unfolding request_opened
write_age_zero = refl

-- another kind, whatever else is wrong
pub write_kind : request_draft 3 7 0 1 0 (0 ∷ []) ≡ none (unplaced 3)
unfolding request_opened
write_kind = refl

-- kind 2 with an age: after the tenancy, before N and the blocks
pub write_age_of_two : request_draft 2 7 300 1 0 (0 ∷ []) ≡ none (unplaced 15)
unfolding request_opened
write_age_of_two = refl

write_tenancy : request_draft 2 7 0 1 3 [] ≡ none (unplaced 6)
unfolding request_opened
write_tenancy = refl

-- a copy number with no bits
pub draft_no_copies : request_draft 2 7 300 0 3 (3 ∷ 0 ∷ []) ≡ none (unplaced 7)
unfolding request_opened
draft_no_copies = refl

-- one byte less than the sheet has is 11, and the buffer is as it was
write_no_room : Sent (request_draft 2 7 300 0 3 (3 ∷ [])) (replicate 7 0xEE) (Err (fault_at NoRoom 8)) (replicate 7 0xEE)
unfolding request_opened
write_no_room = record { answer = refl; held = refl }
