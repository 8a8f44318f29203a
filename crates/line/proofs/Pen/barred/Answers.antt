-- `barred`: the bar, then the list.
use Rattle.line.proofs.Adding.{writes_join}
use Rattle.line.proofs.Pen.barred.Goals as goal

pub returns : goal.returns
returns g c = writes_join c.text.ensures c.list.ensures
