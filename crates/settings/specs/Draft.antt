-- The settings sheet that the writers make.
--     rows_of            the rows of four lists
--     kind_of            the kind that says a start rule
--     lists_fit          whether there is a tenancy, the lists are of one length, and N is 1 to 64
--     sheet_draft        the sheet of a kind
--     settings_draft, marked_draft     of kinds 1 and 5, and of kind 6
use Rattle.std.specs.Prelude.{ℕ, Bool, ◌&&◌, List, [], ◌∷◌, ◌++◌, length, replicate, eqb, leb, ltb}
use Rattle.basics.specs.Choice.{pick}
use Rattle.number.specs.Encode.{encode}
use Rattle.basics.specs.Limits.{disks_most}
use Rattle.field.specs.Put.{spell_all, opening_bytes}
use Rattle.field.specs.Send.{Draft, sheet, none}
use Rattle.field.specs.Sheet.{unplaced}
use Rattle.model.specs.declared.Rule.{Rule}
use Rattle.model.specs.declared.Rule.TheVariants.{Sum, Larger}
use Rattle.model.specs.Rule.{rule_number}
use Rattle.settings.specs.declared.Row.{Row}
use Rattle.settings.specs.Row.{disk, all_in_range, marked_bytes, row_bytes}

unfoldable pub rows_of : List ℕ → List ℕ → List ℕ → List ℕ → List Row
rows_of [] ls ds ms = []
rows_of (c ∷ cs) [] ds ms = []
rows_of (c ∷ cs) (l ∷ ls) [] ms = []
rows_of (c ∷ cs) (l ∷ ls) (d ∷ ds) [] = []
rows_of (c ∷ cs) (l ∷ ls) (d ∷ ds) (m ∷ ms) = disk c l d m ∷ rows_of cs ls ds ms

abbrev pub kind_of : Rule → ℕ
kind_of Sum = 1
kind_of Larger = 5

-- the number of a rule, a field of kind 6 alone
abbrev pub rule_bytes : ℕ → ℕ → List ℕ
rule_bytes k r = marked_bytes k r

-- the bytes of the fields before the rows
unfoldable pub heading_bytes : ℕ → ℕ → ℕ → ℕ → ℕ → List ℕ
heading_bytes k unit t n r = opening_bytes k unit t ++ (encode n ++ rule_bytes k r)

-- the bytes of a sheet
unfoldable pub sheet_bytes : ℕ → ℕ → ℕ → ℕ → List Row → List ℕ
sheet_bytes k unit t r rows = heading_bytes k unit t (length rows) r ++ spell_all (row_bytes k) rows

unfoldable pub lists_fit : ℕ → List ℕ → List ℕ → List ℕ → List ℕ → Bool
lists_fit t cs ls ds ms =
    ltb 0 t && (eqb (length ls) (length cs) && (eqb (length ds) (length cs) && (eqb (length ms) (length cs)
    && (leb 1 (length cs) && leb (length cs) disks_most))))

-- 6 where they don't fit; then 15 where the rule's number, a cost, load, delay or mark is out of its range
unfoldable pub sheet_draft : ℕ → ℕ → ℕ → ℕ → List ℕ → List ℕ → List ℕ → List ℕ → Draft
sheet_draft k unit t r cs ls ds ms =
    pick (lists_fit t cs ls ds ms)
    (pick ((leb 1 r && leb r 2) && all_in_range (rows_of cs ls ds ms)) (sheet (sheet_bytes k unit t r (rows_of cs ls ds ms)))
    (none (unplaced 15)))
    (none (unplaced 6))

-- all disks are in use
unfoldable pub settings_draft : Rule → ℕ → ℕ → List ℕ → List ℕ → List ℕ → Draft
settings_draft r unit t cs ls ds = sheet_draft (kind_of r) unit t (rule_number r) cs ls ds (replicate (length cs) 0)

abbrev pub marked_draft : ℕ → ℕ → ℕ → List ℕ → List ℕ → List ℕ → List ℕ → Draft
marked_draft unit t r cs ls ds ms = sheet_draft 6 unit t r cs ls ds ms
