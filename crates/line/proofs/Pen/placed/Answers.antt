-- `placed`: the word, the number, the place or the time, then the line feed.
use Rattle.line.specs.Line.{feed}
use Rattle.line.proofs.Adding.{writes_join}
use Rattle.line.proofs.Pen.placed.Goals as goal

pub returns : goal.returns
unfolding feed
returns c =
    writes_join c.text.ensures
    (writes_join (rw c.from.ensures at c.spaced.ensures) (writes_join c.spaced-2.ensures c.byte.ensures))
