-- `list`. A value is put as the number that it is converted into, which is the number that it is.
use native.Mathlib.Omega.{arith}
use Rattle.field.proofs.Pens.{lays_one, lays_start, lays_entry}
use Rattle.field.proofs.Pen.list.Goals as goal

pub loop-x-init : goal.loop-x-init
loop-x-init g c = lays_start _ _

pub loop-x-preserved : goal.loop-x-preserved
loop-x-preserved g c =
    let e = g.met.T.Numeral.into_value c.x-item.result c.into.result c.into.ensures in
    lays_entry _ c.args.xs.now c.x-item.result _ (omega arith) c.x-item.is c.loop-x.invariant (lays_one (rw e at c.put.ensures))
