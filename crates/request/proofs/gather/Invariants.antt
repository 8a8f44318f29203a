use Rattle.request.proofs.Reading.{Gathering}
use Rattle.request.proofs.gather.Given as goal

abbrev pub invariant-loop-i : goal.invariant-loop-i
invariant-loop-i l = Gathering l.high l.s l.at l.k l.m l.floor l.p l._i
