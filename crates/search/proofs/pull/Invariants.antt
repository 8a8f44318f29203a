use Prim.Native.Nat.{◌≤◌}
use Rattle.search.proofs.Hands.{Hand}
use Rattle.search.proofs.pull.Given as goal

abbrev pub invariant-loop-d : goal.invariant-loop-d
invariant-loop-d l =
    let t = l.task in
    let s = l.board in
    (l.k ≤ l.steps) × Hand t.n t.q t.b t.base t.bound l.start l.masks l.by l.initial.board.seats l.initial.board.counts
    s.seats s.counts s.nodes.next s.nodes.prev s.out l.d l.k

abbrev pub decreases-loop-d : goal.decreases-loop-d
decreases-loop-d l = l.k
