use Prim.Native.Nat.{◌-◌, ◌≤◌, ◌<◌}
use Rattle.capacity.specs.Rated.{room_of}
use Rattle.basics.specs.Limits.{time_most}
use Rattle.capacity.proofs.earliest.Given as goal

abbrev pub invariant-loop-high : goal.invariant-loop-high
invariant-loop-high l =
    (l.t ≤ l.low) × (l.low < l.high) × (l.high ≤ time_most)
    × (room_of l.n l.rates l.x l.low < l.size) × (l.size ≤ room_of l.n l.rates l.x l.high)

abbrev pub decreases-loop-high : goal.decreases-loop-high
decreases-loop-high l = l.high - l.low
