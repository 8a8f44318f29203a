-- What the reader answers.
use Rattle.std.specs.Prelude.{ℕ, ◌≡◌, Result}
use Rattle.field.specs.declared.Fault.{Fault}
use Rattle.field.specs.Sheet.{Out, got, refused}
use Rattle.field.specs.Told.{told_by}
use Rattle.settings.specs.declared.Table.{Table}
use Rattle.settings.specs.Table.{no_table}

-- the table that was read; none on refusal
unfoldable pub table_of : Out Table → Table
table_of (got t e) = t
table_of (refused e) = no_table

-- the answer to a sheet of this length, of which the definition says this: the table, or a refusal
abbrev pub Told : ℕ → Out Table → Result Table Fault → Type 0
Told n o r = told_by (λ t. got t n) r ≡ o
