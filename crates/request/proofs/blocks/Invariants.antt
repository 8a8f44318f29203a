use Rattle.request.proofs.Reading.{Filling}
use Rattle.mask.specs.Has.{has}
use Rattle.request.proofs.blocks.Given as goal

abbrev pub invariant-loop-held : goal.invariant-loop-held
invariant-loop-held l = Filling l.q l.high (has l.out) l.s l.at l.held-items l.p l.held-index
