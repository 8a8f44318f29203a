use lib.ListN.{take}
use Rattle.field.specs.Put.{spell_all}
use Rattle.field.specs.Pen.{Lays}
use Rattle.settings.specs.Kind.{kind_number}
use Rattle.settings.specs.Parts.{rows_in}
use Rattle.settings.specs.Row.{row_bytes}
use Rattle.settings.proofs.Lists.put_rows.Given as goal

abbrev pub invariant-loop-disk : goal.invariant-loop-disk
invariant-loop-disk l = Lays (spell_all (row_bytes (kind_number l.kind)) (take l.disk (rows_in l.self))) l.initial.pen l.pen
