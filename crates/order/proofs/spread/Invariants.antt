use Rattle.order.proofs.Spreads.{Told}
use Rattle.order.proofs.spread.Given as goal

abbrev pub invariant-loop-d : goal.invariant-loop-d
invariant-loop-d l = Told l.d l.x l.initial.dead l.dead
