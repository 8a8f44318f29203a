use Rattle.reason.specs.Parts.{Kept}
use Rattle.reason.proofs.keep.Given as goal

abbrev pub invariant-loop-b : goal.invariant-loop-b
invariant-loop-b l = Kept l.b l.disks l.initial.masks l.masks
