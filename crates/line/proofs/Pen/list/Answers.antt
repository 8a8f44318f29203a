-- `list`. A value is put as the number that it is converted into, which is the number that it is.
use native.Mathlib.Omega.{arith}
use mathlib.Core.Path.{◌≡◌, ◌∙◌}
use Rattle.line.proofs.Adding.{writes_start, writes_entry}
use Rattle.line.proofs.Pen.list.Goals as goal

pub loop-x-init : goal.loop-x-init
loop-x-init g c = writes_start _ _

pub loop-x-preserved : goal.loop-x-preserved
loop-x-preserved g c =
    let e : c.from.result ≡ g.T.Numeral.value c.x-item.result =
    c.from.ensures ∙ g.met.T.Numeral.into_value c.x-item.result c.into-v.result c.into-v.ensures in
    writes_entry _ c.args.xs.now c.x-item.result (omega arith) c.x-item.is c.loop-x.invariant (rw e at c.spaced.ensures)
