-- The plan sheet.
--     Plan         a plan's values: its time, a disk for each block, and its short set
--     plan_of       a plan with these values
--     disk, time_of, size_of    a disk's number; R and m, for Q blocks
--     lists_of                 the fields behind R
--     plan_fields              all fields in order
--     plan_sheet    the sheet of a plan, for a unit and a tenancy
use Rattle.std.specs.Prelude.{ℕ, zero, suc, ◌-◌, List, [], ◌∷◌}
use Rattle.basics.specs.Limits.{disks_most, blocks_most, time_most}
use Rattle.field.specs.Sheet.{Parser, ◌>>=◌, ◌>>◌, pure, times}
use Rattle.field.specs.Field.{opening, inside, ascending, whole}

pub record Plan : Type 0 where
  pub time : ℕ
  pub disks : List ℕ
  pub short : List ℕ

-- a plan with these values
abbrev pub plan_of : ℕ → List ℕ → List ℕ → Plan
plan_of r ds bs = record { time = r; disks = ds; short = bs }

-- a disk's number; the sheet does not say N
abbrev pub disk : Parser ℕ
disk = inside 0 (disks_most - 1) 16

-- a bound for at least one block; for no blocks it is 0
unfoldable pub if_any : ℕ → ℕ → ℕ
if_any zero n = 0
if_any (suc q) n = n

-- R is 1 to 1,125,000,000, and 0 exactly for Q = 0
unfoldable pub time_of : ℕ → Parser ℕ
time_of q = inside (if_any q 1) (if_any q time_most) 15

-- m is 1 to Q, and 0 exactly for Q = 0
unfoldable pub size_of : ℕ → Parser ℕ
size_of q = inside (if_any q 1) q 6

-- a disk number for each block, short set size m, m block numbers, rising
unfoldable pub lists_of : ℕ → ℕ → Parser Plan
lists_of q r = do
  ds ← times q disk
  m ← size_of q
  bs ← ascending m 0 (q - 1)
  pure (plan_of r ds bs)

-- kind 3, unit, tenancy, Q, R and the lists
unfoldable pub plan_fields : ℕ → ℕ → Parser Plan
plan_fields unit t = do
  opening (3 ∷ []) unit t
  q ← inside 0 blocks_most 6
  r ← time_of q
  lists_of q r

-- all fields, and then the end of the sheet
unfoldable pub plan_sheet : ℕ → ℕ → Parser Plan
plan_sheet unit t = whole (plan_fields unit t)
