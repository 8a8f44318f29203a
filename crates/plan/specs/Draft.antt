-- The bytes of a plan sheet.
use Rattle.std.specs.Prelude.{ℕ, Bool, ◌&&◌, List, ◌∷◌, ◌++◌, length, leb}
use Rattle.basics.specs.Limits.{blocks_most}
use Rattle.basics.specs.Choice.{pick}
use Rattle.number.specs.Encode.{encode}
use Rattle.field.specs.Put.{spell_all}
use Rattle.field.specs.Send.{Draft, sheet, none}
use Rattle.field.specs.Sheet.{unplaced}
use Rattle.plan.specs.Plan.{Plan}

-- kind 3, unit, tenancy, Q, R, a disk number for each block, short set size m, m block numbers
unfoldable pub plan_numbers : ℕ → ℕ → Plan → List ℕ
plan_numbers unit t p =
    3 ∷ unit ∷ t ∷ length p.disks ∷ p.time ∷ (p.disks ++ (length p.short ∷ p.short))

-- each number in its shortest form
unfoldable pub plan_bytes : ℕ → ℕ → Plan → List ℕ
plan_bytes unit t p = spell_all encode (plan_numbers unit t p)

-- whether Q and m are at most 1,024
unfoldable pub counted : Plan → Bool
counted p = leb (length p.disks) blocks_most && leb (length p.short) blocks_most

-- the sheet of whatever values are given; 6 where Q or m is above 1,024
unfoldable pub plan_draft : ℕ → ℕ → Plan → Draft
plan_draft unit t p = pick (counted p) (sheet (plan_bytes unit t p)) (none (unplaced 6))
