use Rattle.settings.specs.Kind.{kind_number}
use Rattle.settings.specs.Parts.{rows_in}
use Rattle.settings.proofs.Rows.{Sized}
use Rattle.settings.proofs.Lists.rows_width.Given as goal

abbrev pub invariant-loop-disk : goal.invariant-loop-disk
invariant-loop-disk l = Sized (kind_number l.kind) (rows_in l.self) l.disk l.total
