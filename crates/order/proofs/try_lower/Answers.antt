-- `order::try_lower` meets its contract.
use Rattle.search.specs.Outcome.{Improved}
use Rattle.order.specs.Parts.{Tried}
use Rattle.order.proofs.Tries.{off_shifting, try_seeking, lowered, back_shifting, stayed}
use native.Mathlib.Omega.{arith}
use Rattle.order.proofs.try_lower.Goals as goal

pub shift-o-requires : goal.shift-o-requires
shift-o-requires c = off_shifting c.requires

pub improve-hit-requires : goal.improve-hit-requires
improve-hit-requires c =
    try_seeking c.requires c.shift-o.ensures

pub bounds-cut-k-3 : goal.bounds-cut-k-3
bounds-cut-k-3 c =
    let p = c.requires in
    omega (arith, p.less, p.bound.placed.blocks)

pub shift-requires : goal.shift-requires
unfolding Improved
shift-requires c = back_shifting c.requires c.shift-o.ensures c.in-Stuck.ensures

pub returns-in-Stuck : goal.returns-in-Stuck
unfolding Improved Tried
returns-in-Stuck c = rw c.in-Stuck.is (stayed c.requires c.shift-o.ensures c.in-Stuck.ensures c.shift.ensures)

pub returns-in_default : goal.returns-in_default
unfolding Improved Tried
returns-in_default c = rw c.in_default.is (lowered c.requires c.shift-o.ensures c.in_default.ensures)
