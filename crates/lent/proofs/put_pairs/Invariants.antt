use lib.ListN.{take}
use mathlib.Core.Path.{◌≡◌}
use Rattle.field.specs.Put.{spell_all}
use Rattle.basics.specs.Buffer.{over}
use Rattle.lent.specs.Numbers.{bytes_of}
use Rattle.lent.proofs.put_pairs.Given as goal

-- the numbers passed stand at the buffer's start, two bytes each
abbrev pub invariant-loop-i : goal.invariant-loop-i
invariant-loop-i l = l.out ≡ over (spell_all (bytes_of 2) (take l.i l.x-items)) l.initial.out
