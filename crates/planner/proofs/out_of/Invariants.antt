use Rattle.planner.proofs.Cut.{Gathered}
use Rattle.planner.proofs.out_of.Given as goal

abbrev pub invariant-loop-i : goal.invariant-loop-i
invariant-loop-i l = Gathered l.fn.table.rows l.out l.i
