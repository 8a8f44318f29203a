use Prim.Native.Nat.{◌+◌, ◌-◌, ◌*◌}
use mathlib.Core.Path.{◌≡◌}
use lib.Dec.{eqb}
use lib.ListN.{get_or}
use Rattle.basics.specs.Limits.{time_most}
use Rattle.basics.specs.Count.{bit}
use Rattle.timing.specs.Boards.{SoFar}
use Rattle.timing.proofs.least.Given as goal

abbrev pub invariant-loop-b : goal.invariant-loop-b
invariant-loop-b l = SoFar l.demand l.b l.masks l.caps l.board l.by l.moment

-- block b is still on no disk, or is on one
abbrev pub invariant-loop-board : goal.invariant-loop-board
invariant-loop-board l = record {
  off : get_or l.board.seats l.b 0 ≡ l.demand.n → SoFar l.demand l.b l.masks l.caps l.board l.by l.moment;
  on : (get_or l.board.seats l.b 0 ≡ l.demand.n → ⊥) → SoFar l.demand (l.b + 1) l.masks l.caps l.board l.by l.moment;
}

abbrev pub decreases-loop-board : goal.decreases-loop-board
decreases-loop-board l = (time_most - l.moment.time) * 2 + bit (eqb (get_or l.board.seats l.b 0) l.demand.n)
