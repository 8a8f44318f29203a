use Rattle.planner.specs.Parts.{Kept}
use Rattle.planner.proofs.keep.Given as goal

abbrev pub invariant-loop-m : goal.invariant-loop-m
invariant-loop-m l = Kept l.m-index l.out l.initial.copies l.copies
