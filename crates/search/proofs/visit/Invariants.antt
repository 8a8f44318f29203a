use Rattle.basics.specs.Limits.{nodes_most}
use Rattle.ring.specs.Walk.{hops}
use Rattle.search.proofs.Rounds.{Round}
use Rattle.search.proofs.visit.Given as goal

abbrev pub invariant-loop-y : goal.invariant-loop-y
invariant-loop-y l =
    let t = l.task in
    Round t.n t.q t.b t.base t.bound l.d l.masks l.seats l.next t.room l.initial.disks l.by l.steps l.disks l.y l.seen

abbrev pub decreases-loop-y : goal.decreases-loop-y
decreases-loop-y l = hops l.next nodes_most l.y
