use Rattle.mask.specs.Rising.{disks_left}
use Rattle.request.proofs.Writing.{Left}
use Rattle.request.proofs.put_disks.Given as goal

abbrev pub invariant-loop-d : goal.invariant-loop-d
invariant-loop-d l = Left l.m (disks_left l.d-iterator) l.initial.pen l.pen
