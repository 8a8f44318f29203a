use Rattle.planner.proofs.Rows.{UpTo}
use Rattle.planner.proofs.columns.Given as goal

abbrev pub invariant-loop-i : goal.invariant-loop-i
invariant-loop-i l = UpTo l.fn.table.rule l.age l.fn.table.rows l.costs l.starts l.i
