use Rattle.order.specs.Boards.{Sorting}
use Rattle.order.proofs.Lowering.{Sorted}
use Rattle.order.proofs.first.Given as goal

abbrev pub invariant-loop-k : goal.invariant-loop-k
invariant-loop-k l =
    Sorting l.n l.q l.k l.free l.cut l.caps l.board l.by l.dead × Sorted l.n l.q l.initial.cut l.caps l.k l.cut l.board.seats
