use Rattle.fill.specs.Boards.{Ground}
use Rattle.fill.proofs.place_all.Given as goal

abbrev pub invariant-loop-b : goal.invariant-loop-b
invariant-loop-b l = Ground l.n l.q l.b l.masks l.caps l.board l.by l.known
