use Rattle.request.proofs.Writing.{Counting}
use Rattle.request.proofs.size.Given as goal

abbrev pub invariant-loop-m : goal.invariant-loop-m
invariant-loop-m l = Counting l.disks l.copies l.total l.m-index
