use Rattle.places.specs.Boards.{Begun}
use Rattle.places.proofs.rings.Given as goal

abbrev pub invariant-loop-d : goal.invariant-loop-d
invariant-loop-d l = Begun l.d l.nodes
