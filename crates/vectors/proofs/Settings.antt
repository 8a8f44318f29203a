-- The settings sheet: no settings, document 01's example and sheets of kinds 5 and 6 read and written, refusals of each.
--     example     the sheet of document 01's bench input
--     three       its disks
--     overlap     a sheet of kind 5
--     queued      the same with kind 1
--     busy        their disks, on whose starts the rules differ
--     marked      a sheet of kind 6, by the sum
--     pulled      the same disks, disk 0 out
use Prim.Native.Nat.{ℕ}
use mathlib.Core.Path.{◌≡◌, refl}
use mathlib.Core.List.{List, [], ◌∷◌, ◌++◌, map}
use lib.ListN.{drop, replicate}
use Rattle.std.specs.Prelude.{Err}
use Rattle.basics.specs.Lists.{All}
use Rattle.field.specs.declared.Refusal.TheVariants.{NoRoom}
use Rattle.field.specs.Refusal.{fault_at}
use Rattle.field.specs.Send.{sheet, none, Sent}
use Rattle.field.specs.Sheet.{note, unplaced, got, refused}
use Rattle.model.specs.declared.Rule.TheVariants.{Sum, Larger}
use Rattle.settings.specs.declared.Row.{Row}
use Rattle.settings.specs.Draft.{settings_draft, marked_draft}
use Rattle.settings.specs.Row.{disk, no_disk}
use Rattle.settings.specs.Sheet.{settings_sheet}
use Rattle.settings.specs.Table.{table, no_table}
use Rattle.settings.specs.Told.{table_of}
use Rattle.settings.proofs.Rules.{InUse}
use Rattle.vectors.specs.Text.{bytes}
use Rattle.vectors.proofs.Opened.{settings_opened}

abbrev pub example : List ℕ
example = bytes "01 07 AC 02 03 04 00 01 03 02 00 0A 00 00"

abbrev pub three : List Row
three = disk 4 0 1 0 ∷ disk 3 2 0 0 ∷ disk 10 0 0 0 ∷ []

abbrev pub overlap : List ℕ
overlap = bytes "05 07 AC 02 03 04 03 02 03 02 08 0A 00 00"

abbrev pub queued : List ℕ
queued = bytes "01 07 AC 02 03 04 03 02 03 02 08 0A 00 00"

abbrev pub busy : List Row
busy = disk 4 3 2 0 ∷ disk 3 2 8 0 ∷ disk 10 0 0 0 ∷ []

-- in which no disk is out
pub three_in_use : All InUse three
unfolding All
three_in_use = (refl, (refl, (refl, tt)))

pub busy_in_use : All InUse busy
unfolding All
busy_in_use = (refl, (refl, (refl, tt)))

abbrev pub marked : List ℕ
marked = bytes "06 07 AC 02 03 01 04 03 02 01 03 02 08 00 0A 00 00 00"

abbrev pub pulled : List Row
pulled = disk 4 3 2 1 ∷ disk 3 2 8 0 ∷ disk 10 0 0 0 ∷ []

-- ---- empty

-- no settings yet: N is 0
empty_disks : no_table.disks ≡ 0
unfolding settings_opened
empty_disks = refl

-- the rule is the sum
empty_rule : no_table.rule ≡ Sum
unfolding settings_opened
empty_rule = refl

-- all rows are 0
empty_rows : no_table.rows ≡ replicate 64 no_disk
unfolding settings_opened
empty_rows = refl

-- ---- read

-- document 01's example: three disks, with cost, load and delay
read_example : settings_sheet 7 300 example 0 ≡ got (table 3 Sum three) 14
unfolding settings_opened
read_example = refl

-- kind 5 says the larger of delay and load, kind 1 their sum
pub read_overlap : settings_sheet 7 300 overlap 0 ≡ got (table 3 Larger busy) 14
unfolding settings_opened
read_overlap = refl

pub read_queued : settings_sheet 7 300 queued 0 ≡ got (table 3 Sum busy) 14
unfolding settings_opened
read_queued = refl

-- kind 6 says the rule behind N and a mark behind each delay
pub read_marked : settings_sheet 7 300 marked 0 ≡ got (table 3 Sum pulled) 18
unfolding settings_opened
read_marked = refl

read_marked_larger : settings_sheet 7 300 (bytes "06 07 AC 02 01 02 04 03 02 01") 0 ≡ got (table 1 Larger (disk 4 3 2 1 ∷ [])) 10
unfolding settings_opened
read_marked_larger = refl

-- a mark of 2, and rules 0 and 3: 15 at each
pub mark_two : settings_sheet 7 300 (bytes "06 07 AC 02 01 01 04 03 02 02") 0 ≡ refused (note 15 9)
unfolding settings_opened
mark_two = refl

pub rules_between : map (λ r. settings_sheet 7 300 (bytes "06 07 AC 02 01" ++ (r ∷ bytes "04 03 02 00")) 0) (0 ∷ 3 ∷ [])
    ≡ replicate 2 (refused (note 15 5))
unfolding settings_opened
rules_between = refl

-- behind N, before the first row
rule_after_n : settings_sheet 7 300 (bytes "06 07 AC 02 00 03") 0 ≡ refused (note 6 4)
unfolding settings_opened
rule_after_n = refl

rule_before_the_rows : settings_sheet 7 300 (bytes "06 07 AC 02 01 03 00") 0 ≡ refused (note 15 5)
unfolding settings_opened
rule_before_the_rows = refl

-- no other kind is settings
other_kinds : map (λ k. settings_sheet 7 300 (k ∷ drop 1 example) 0) (2 ∷ 3 ∷ 4 ∷ 9 ∷ []) ≡ replicate 4 (refused (unplaced 3))
unfolding settings_opened
other_kinds = refl

-- rows N and up are 0
rows_beyond : drop 3 (table_of (settings_sheet 7 300 example 0)).rows ≡ replicate 61 no_disk
unfolding settings_opened
rows_beyond = refl

-- the tenant before
pub other_tenancy : settings_sheet 7 301 example 0 ≡ refused (note 5 2)
unfolding settings_opened
other_tenancy = refl

-- ---- write

-- the bytes of document 01's example
pub draft_example : settings_draft Sum 7 300 (4 ∷ 3 ∷ 10 ∷ []) (0 ∷ 2 ∷ 0 ∷ []) (1 ∷ 0 ∷ 0 ∷ []) ≡ sheet example
unfolding settings_opened
draft_example = refl

-- a sheet of kind 5
pub draft_overlap : settings_draft Larger 7 300 (4 ∷ 3 ∷ 10 ∷ []) (3 ∷ 2 ∷ 0 ∷ []) (2 ∷ 8 ∷ 0 ∷ []) ≡ sheet overlap
unfolding settings_opened
draft_overlap = refl

-- a sheet of kind 6
pub draft_marked : marked_draft 7 300 1 (4 ∷ 3 ∷ 10 ∷ []) (3 ∷ 2 ∷ 0 ∷ []) (2 ∷ 8 ∷ 0 ∷ []) (1 ∷ 0 ∷ 0 ∷ []) ≡ sheet marked
unfolding settings_opened
draft_marked = refl

-- marks of another number than disks, before the rule; a rule and a mark out of their ranges
marked_lengths : marked_draft 7 300 3 (4 ∷ []) (3 ∷ []) (2 ∷ []) [] ≡ none (unplaced 6)
unfolding settings_opened
marked_lengths = refl

marked_rule : marked_draft 7 300 3 (4 ∷ []) (3 ∷ []) (2 ∷ []) (0 ∷ []) ≡ none (unplaced 15)
unfolding settings_opened
marked_rule = refl

marked_mark : marked_draft 7 300 1 (4 ∷ []) (3 ∷ []) (2 ∷ []) (2 ∷ []) ≡ none (unplaced 15)
unfolding settings_opened
marked_mark = refl

-- kind 5 is checked as document 01's is: no tenancy, a load out of its range
overlap_no_tenancy : settings_draft Larger 7 0 (4 ∷ []) (0 ∷ []) (1 ∷ []) ≡ none (unplaced 6)
unfolding settings_opened
overlap_no_tenancy = refl

overlap_load_above : settings_draft Larger 7 300 (4 ∷ []) (100000001 ∷ []) (1 ∷ []) ≡ none (unplaced 15)
unfolding settings_opened
overlap_load_above = refl

-- one byte less than the sheet has is 11, and the buffer is as it was
pub write_no_room : Sent (settings_draft Sum 7 300 (4 ∷ []) (0 ∷ []) (1 ∷ [])) (replicate 7 0xEE) (Err (fault_at NoRoom 8))
    (replicate 7 0xEE)
unfolding settings_opened
write_no_room = record { answer = refl; held = refl }
