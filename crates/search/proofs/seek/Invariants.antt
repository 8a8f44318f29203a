use Prim.Native.Nat.{◌-◌, ◌^◌}
use Rattle.std.specs.Prelude.{◌≡◌, None}
use Rattle.basics.specs.Limits.{disks_most}
use Rattle.places.specs.Seats.{Far}
use Rattle.search.proofs.Sweeps.{Sweep}
use Rattle.search.proofs.seek.Given as goal

abbrev pub invariant-search : goal.invariant-search
invariant-search l =
    let t = l.task in
    Sweep t.n t.q t.b t.base t.bound l.masks l.seats t.room l.by l.reach.steps l.reach.disks l.done × (l.reach.free ≡ None)
    × Far t.n t.q t.bound l.masks l.seats l.out

abbrev pub decreases-search : goal.decreases-search
decreases-search l = 2 ^ disks_most - l.done
