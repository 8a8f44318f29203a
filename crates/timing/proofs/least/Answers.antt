-- `timing::least` meets its contract. The measure: each turn the time rises, or it stays and block b has a disk.
use mathlib.Core.Path.{refl}
use Rattle.timing.proofs.Rises.{so_far_start, so_far_end, turned_falls}
use native.Mathlib.Omega.{arith}
use Rattle.timing.proofs.least.Goals as goal

pub loop-b-init : goal.loop-b-init
loop-b-init c = so_far_start _ c.requires c.capacities.ensures refl

pub loop-board-smaller : goal.loop-board-smaller
loop-board-smaller c = turned_falls c.seat-moment.ensures c.loop-board-test.true

pub returns : goal.returns
returns c = so_far_end c.loop-b.invariant (omega arith)
