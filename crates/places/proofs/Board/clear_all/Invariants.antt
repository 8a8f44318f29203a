use mathlib.Core.Path.{◌≡◌}
use Rattle.places.proofs.Clearing.{Clearing}
use Rattle.places.proofs.Board.clear_all.Given as goal

abbrev pub invariant-loop-b : goal.invariant-loop-b
invariant-loop-b l =
    Clearing l.n l.b l.self.seats l.self.nodes.next l.self.nodes.prev × (l.self.counts ≡ l.initial.self.counts)
    × (l.self.out ≡ l.initial.self.out)
