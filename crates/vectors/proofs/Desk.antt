-- The exported functions: lists as bytes, lowest byte first, and answers packed into one number.
use Prim.Native.Nat.{◌+◌, ◌*◌, ◌^◌}
use mathlib.Core.Path.{◌≡◌, refl}
use lib.ListN.{replicate}
use Rattle.field.specs.Sheet.{unplaced}
use Rattle.field.specs.Send.{none, sheet}
use Rattle.model.specs.declared.Rule.TheVariants.{Sum, Larger}
use Rattle.desk.specs.Desk.{settings_draft_of_bytes, marked_draft_of_bytes, request_draft_of_bytes, PlanRead}
use Rattle.vectors.specs.Text.{bytes}
use Rattle.vectors.proofs.Opened.{desk_opened}
use Rattle.vectors.proofs.Plan.{example as plan}

-- ---- rp_write_settings

-- a cost of 300 in four bytes: the lowest byte first
settings_lowest_first : settings_draft_of_bytes Sum 7 300 (bytes "2C 01 00 00") (bytes "00 00 00 00") (bytes "01 00 00 00")
    ≡ sheet (bytes "01 07 AC 02 01 AC 02 00 01")
unfolding desk_opened
settings_lowest_first = refl

-- a list broken inside a number
pub settings_broken : settings_draft_of_bytes Sum 7 300 (bytes "04 00 00 00 03") (bytes "00 00 00 00") (bytes "01 00 00 00")
    ≡ none (unplaced 6)
unfolding desk_opened
settings_broken = refl

-- ---- rp_write_settings_overlap

-- the same lists, kind 5
pub overlap_example : settings_draft_of_bytes Larger 7 300 (bytes "04 00 00 00") (bytes "03 00 00 00") (bytes "02 00 00 00")
    ≡ sheet (bytes "05 07 AC 02 01 04 03 02")
unfolding desk_opened
overlap_example = refl

overlap_broken : settings_draft_of_bytes Larger 7 300 (bytes "04 00 00 00 03") (bytes "00 00 00 00") (bytes "01 00 00 00")
    ≡ none (unplaced 6)
unfolding desk_opened
overlap_broken = refl

-- ---- rp_write_settings_marked

-- the rule by its number, the marks in four bytes each
pub marked_example : marked_draft_of_bytes 7 300 2 (bytes "04 00 00 00") (bytes "03 00 00 00") (bytes "02 00 00 00") (bytes "01 00 00 00")
    ≡ sheet (bytes "06 07 AC 02 01 02 04 03 02 01")
unfolding desk_opened
marked_example = refl

-- a broken list of marks, before the rule
marked_broken : marked_draft_of_bytes 7 300 3 (bytes "04 00 00 00") (bytes "03 00 00 00") (bytes "02 00 00 00") (bytes "01 00 00 00 00")
    ≡ none (unplaced 6)
unfolding desk_opened
marked_broken = refl

-- ---- rp_write_request

-- disk 63 is the highest bit of the eighth byte
pub request_disk_63 : request_draft_of_bytes 2 7 300 0 64 (bytes "01 00 00 00 00 00 00 80") ≡ sheet (bytes "02 07 AC 02 01 02 00 3F")
unfolding desk_opened
request_disk_63 = refl

-- a list broken inside a number
pub request_broken : request_draft_of_bytes 2 7 300 0 3 (bytes "03 00 00 00") ≡ none (unplaced 6)
unfolding desk_opened
request_broken = refl

-- broken inside a number: after the kind, before the age
request_broken_kind : request_draft_of_bytes 3 7 300 1 3 (bytes "03 00 00 00") ≡ none (unplaced 3)
unfolding desk_opened
request_broken_kind = refl

request_broken_aged : request_draft_of_bytes 2 7 300 1 3 (bytes "03 00 00 00") ≡ none (unplaced 6)
unfolding desk_opened
request_broken_aged = refl

-- ---- rp_read_plan

-- Q from bit 8, R from bit 19, m from bit 50; the disks, and the short set in pairs; beyond them all as it was
pub plan_example :
    PlanRead 7 300 plan (bytes "EE EE EE EE EE") (replicate 10 0xEE) (4 * 2 ^ 8 + 9 * 2 ^ 19 + 4 * 2 ^ 50)
    (bytes "00 00 01 01 EE") (bytes "00 00 01 00 02 00 03 00 EE EE")
unfolding desk_opened
plan_example = record { answer = refl; blocks = refl; members = refl }

-- an odd last byte is not used: seven bytes are room for three, and four are needed
pub plan_odd_byte :
    PlanRead 7 300 plan (replicate 4 0xEE) (replicate 7 0xEE) (11 + 4 * 2 ^ 32) (replicate 4 0xEE) (replicate 7 0xEE)
unfolding desk_opened
plan_odd_byte = record { answer = refl; blocks = refl; members = refl }
