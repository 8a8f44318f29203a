-- Three fields, and the mark behind them.
use Rattle.field.proofs.Pens.{lays_one, lays_join}
use Rattle.settings.specs.Row.{marked_bytes, row_bytes}
use Rattle.settings.proofs.Row.put.Goals as goal

pub returns : goal.returns
unfolding row_bytes marked_bytes
returns c =
    lays_join (lays_one c.put.ensures)
    (lays_join (lays_one c.put-2.ensures)
    (lays_join (lays_one c.put-3.ensures) (rw c.marked.ensures at c.put_if.ensures)))
