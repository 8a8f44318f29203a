-- The loop's invariant: the bytes of the rows so far were put, and nothing else.
use mathlib.Core.Path.{ap}
use native.Mathlib.Omega.{arith}
use lib.Seq.{take_all}
use Rattle.field.specs.Put.{spell_all}
use Rattle.field.proofs.Pens.{lays_same, lays_start, lays_entry}
use Rattle.settings.specs.Kind.{kind_number}
use Rattle.settings.specs.Parts.{rows_in}
use Rattle.settings.specs.Row.{row_bytes}
use Rattle.settings.proofs.Rows.{rows_below, rows_end}
use Rattle.settings.proofs.Lists.put_rows.Goals as goal

pub loop-disk-init : goal.loop-disk-init
loop-disk-init c = lays_start _ _

pub loop-disk-preserved : goal.loop-disk-preserved
loop-disk-preserved c =
    lays_entry _ (rows_in c.args.self) _ _ (rows_below c.requires c.loop-disk-test.true) c.row.ensures c.loop-disk.invariant c.put.ensures

pub returns : goal.returns
returns c =
    lays_same
    (ap (spell_all (row_bytes (kind_number c.args.kind)))
    (take_all c.loop-disk.disk (rows_in c.args.self) (rows_end c.requires (omega arith))))
    c.loop-disk.invariant
