use mathlib.Core.Path.{◌≡◌}
use Prim.Native.Nat.{◌-◌}
use lib.ListN.{take}
use Rattle.field.specs.Field.{ascending}
use Rattle.field.proofs.Lists.{prefix}
use Rattle.plan.proofs.read_short.Given as goal

-- the blocks read so far stand in the list, and the sheet from here on gives the rest
abbrev pub invariant-loop-x : goal.invariant-loop-x
invariant-loop-x l =
    ascending l.m 0 l.last l.s l.at ≡ prefix (take l.x-index l.x-items) (ascending (l.m - l.x-index) l.floor l.last l.s l.p)
