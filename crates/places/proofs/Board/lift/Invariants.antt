use Prim.Native.Nat.{◌+◌, ◌-◌}
use lib.ListN.{get_or}
use Rattle.basics.specs.Limits.{blocks_most}
use Rattle.places.proofs.Clearing.{Lifting}
use Rattle.places.proofs.Board.lift.Given as goal

abbrev pub invariant-loop-self : goal.invariant-loop-self
invariant-loop-self l =
    Lifting l.n l.q l.masks l.caps l.self.seats l.self.counts l.self.nodes.next l.self.nodes.prev l.self.out l.d

abbrev pub decreases-loop-self : goal.decreases-loop-self
decreases-loop-self l = blocks_most + 1 - get_or l.self.counts l.n 0

abbrev pub invariant-loop-d : goal.invariant-loop-d
invariant-loop-d l =
    Lifting l.n l.q l.masks l.caps l.self.seats l.self.counts l.self.nodes.next l.self.nodes.prev l.self.out l.d
