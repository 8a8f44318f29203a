-- `plain`: the word, then the line feed.
use Rattle.line.specs.Line.{feed}
use Rattle.line.proofs.Adding.{writes_join}
use Rattle.line.proofs.Pen.plain.Goals as goal

pub returns : goal.returns
unfolding feed
returns c = writes_join c.text.ensures c.byte.ensures
