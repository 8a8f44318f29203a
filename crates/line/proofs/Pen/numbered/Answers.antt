-- `numbered`: the word, the number, then the line feed.
use Rattle.line.specs.Line.{feed}
use Rattle.line.proofs.Adding.{writes_join}
use Rattle.line.proofs.Pen.numbered.Goals as goal

pub returns : goal.returns
unfolding feed
returns c = writes_join c.text.ensures (writes_join (rw c.from.ensures at c.spaced.ensures) c.byte.ensures)
