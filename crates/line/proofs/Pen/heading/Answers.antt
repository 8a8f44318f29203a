-- `heading`: the word, then the four numbers.
use Rattle.line.specs.Line.{word_plan}
use Rattle.line.proofs.Adding.{writes_join}
use Rattle.line.proofs.Pen.heading.Goals as goal

pub returns : goal.returns
unfolding word_plan
returns c = writes_join c.text.ensures c.list.ensures
