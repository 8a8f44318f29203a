use Rattle.line.specs.Text.{spaced}
use Rattle.line.specs.Parts.{Writes}
use Rattle.field.specs.Put.{spell_all}
use lib.ListN.{take}
use Rattle.line.proofs.Pen.list.Given as goal

abbrev pub invariant-loop-x : goal.invariant-loop-x
invariant-loop-x g l = Writes (spell_all (λ x. spaced (g.T.Numeral.value x)) (take l.x-index l.xs)) l.initial.self l.self
