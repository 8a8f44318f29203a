use Rattle.line.specs.Parts.{Writes}
use lib.ListN.{take}
use Rattle.line.proofs.Pen.text.Given as goal

abbrev pub invariant-loop-b : goal.invariant-loop-b
invariant-loop-b l = Writes (take l.b-index l.text) l.initial.self l.self
