use mathlib.Core.Path.{◌≡◌}
use Prim.Native.Nat.{◌-◌}
use lib.ListN.{take}
use Rattle.field.specs.Sheet.{times}
use Rattle.field.proofs.Lists.{prefix}
use Rattle.plan.specs.Plan.{disk}
use Rattle.plan.proofs.read_disks.Given as goal

-- the disks read so far stand in the list, and the sheet from here on gives the rest
abbrev pub invariant-loop-x : goal.invariant-loop-x
invariant-loop-x l = times l.q disk l.s l.at ≡ prefix (take l.x-index l.x-items) (times (l.q - l.x-index) disk l.s l.p)
