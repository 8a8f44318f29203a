-- A disk's row on a settings sheet.
--     disk, no_disk            a row's values; a row of 0
--     cost, load, delay       the fields of a row, each within its range
--     mark                    the mark of a disk, 0 in use or 1 out: a field of kind 6 alone, else 0
--     row                     the row as it is read from a sheet of a kind
--     in_range, all_in_range     whether the values of a row, and of each row, are in these ranges
--     marked_bytes              a number that is a field of kind 6 alone, as it is written on a sheet of a kind
--     mark_bytes, row_bytes     the mark and the row as they are written
use Rattle.std.specs.Prelude.{ℕ, Bool, true, ◌&&◌, List, [], ◌∷◌, ◌++◌, eqb, leb}
use Rattle.basics.specs.Choice.{pick}
use Rattle.basics.specs.Limits.{cost_most, load_most, delay_most}
use Rattle.number.specs.Encode.{encode}
use Rattle.field.specs.Sheet.{Parser, ◌>>=◌, pure}
use Rattle.field.specs.Field.{inside}
use Rattle.field.specs.Put.{field_if}
use Rattle.settings.specs.declared.Row.{Row}

abbrev pub disk : ℕ → ℕ → ℕ → ℕ → Row
disk c l d m = record { cost = c; load = l; delay = d; mark = m }

abbrev pub no_disk : Row
no_disk = disk 0 0 0 0

abbrev pub cost : Parser ℕ
cost = inside 1 cost_most 15

abbrev pub load : Parser ℕ
load = inside 0 load_most 15

abbrev pub delay : Parser ℕ
delay = inside 0 delay_most 15

unfoldable pub mark : ℕ → Parser ℕ
mark k = pick (eqb k 6) (inside 0 1 15) (pure 0)

unfoldable pub row : ℕ → Parser Row
row k = do
  c ← cost
  l ← load
  d ← delay
  m ← mark k
  pure (disk c l d m)

unfoldable pub in_range : Row → Bool
in_range r =
    leb 1 r.cost && (leb r.cost cost_most && (leb r.load load_most && (leb r.delay delay_most && leb r.mark 1)))

unfoldable pub all_in_range : List Row → Bool
all_in_range [] = true
all_in_range (r ∷ rs) = in_range r && all_in_range rs

unfoldable pub marked_bytes : ℕ → ℕ → List ℕ
marked_bytes k v = field_if (eqb k 6) v

abbrev pub mark_bytes : ℕ → ℕ → List ℕ
mark_bytes k m = marked_bytes k m

unfoldable pub row_bytes : ℕ → Row → List ℕ
row_bytes k r = encode r.cost ++ (encode r.load ++ (encode r.delay ++ mark_bytes k r.mark))
