use Prim.Native.Nat.{ℕ, ◌<◌}
use mathlib.Core.Path.{◌≡◌}
use lib.ListN.{get_or, length}
use Rattle.basics.specs.Limits.{disks_most}
use Rattle.model.specs.Capacity.{capacity}
use Rattle.capacity.proofs.capacities.Given as goal

abbrev pub invariant-loop-d : goal.invariant-loop-d
invariant-loop-d l =
    (length l.caps ≡ disks_most)
    × ((d : ℕ) → d < l.d → get_or l.caps d 0 ≡ capacity (get_or l.rates.starts.now d 0) (get_or l.rates.costs.now d 0) l.t)
