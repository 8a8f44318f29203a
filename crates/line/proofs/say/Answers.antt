-- `say`: the buffer has room for the longest word.
use native.Mathlib.Omega.{arith}
use borrow.Author.Rules.{rules}
use mathlib.Core.Path.{refl}
use Rattle.line.proofs.Adding.{writes_line}
use Rattle.line.proofs.Lines.{spoken_bound}
use Rattle.line.proofs.say.Goals as goal

pub returns : goal.returns
returns c = writes_line c.word.ensures refl (omega (arith, spoken_bound c.args.w)) (search rules)
