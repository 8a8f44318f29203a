use Prim.Native.Nat.{◌≤◌}
use mathlib.Core.Path.{◌≡◌}
use mathlib.Core.Bool.{◌&&◌}
use lib.Dec.{leb}
use Rattle.basics.specs.Count.{count}
use Rattle.places.specs.Among.{among}
use Rattle.timing.proofs.count_among.Given as goal

abbrev pub invariant-loop-i : goal.invariant-loop-i
invariant-loop-i l =
    (l.b ≤ l.i) × (l.i ≤ l.q) × (l.total ≡ count l.i (λ j. among l.masks l.x j && leb l.b j)) × (l.total ≤ l.i)
