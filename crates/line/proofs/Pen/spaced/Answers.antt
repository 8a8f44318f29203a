-- `spaced`: a space, then the digits.
use Rattle.line.specs.Text.{spaced}
use Rattle.line.proofs.Adding.{writes_join}
use Rattle.line.proofs.Pen.spaced.Goals as goal

pub returns : goal.returns
unfolding spaced
returns c = writes_join c.byte.ensures c.decimal.ensures
