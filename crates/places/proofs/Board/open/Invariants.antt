use Rattle.places.specs.Places.{roomy}
use Rattle.places.proofs.Masks.{Upto}
use Rattle.places.proofs.Board.open.Given as goal

abbrev pub invariant-loop-d : goal.invariant-loop-d
invariant-loop-d l = Upto (roomy l.caps l.self.counts) l.d l.m
