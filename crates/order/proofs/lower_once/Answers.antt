-- `order::lower_once` meets its contract.
use Rattle.order.specs.Parts.{Tried}
use Rattle.order.proofs.Lowering.{disk, trying, asked_lowered, asked_stayed}
use native.Mathlib.Omega.{arith}
use Rattle.order.proofs.lower_once.Goals as goal

pub put-freed-requires : goal.put-freed-requires
put-freed-requires c = let p = c.requires in omega (arith, disk p.0 p.1)

pub bounds-dead-o : goal.bounds-dead-o
bounds-dead-o c = let p = c.requires in omega (arith, disk p.0 p.1)

pub try_lower-requires : goal.try_lower-requires
try_lower-requires c =
    let p = c.requires in
    trying p.0 p.1 p.2 c.put-freed.result c.put-freed.ensures

pub reopen-requires : goal.reopen-requires
unfolding Tried
reopen-requires c = (c.requires.0.bound.placed.disks, c.in-Free.ensures.opened)

pub returns-in-Free : goal.returns-in-Free
unfolding Tried
returns-in-Free c = let p = c.requires in asked_lowered p.0 p.1 p.2 c.reopen.result c.in-Free.ensures c.reopen.ensures

pub returns-in-Stuck : goal.returns-in-Stuck
unfolding Tried
returns-in-Stuck c = let p = c.requires in asked_stayed p.0 p.1 p.2 c.in-Stuck.ensures c.spread.ensures
