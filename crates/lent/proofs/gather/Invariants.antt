use lib.ListN.{take}
use mathlib.Core.List.{map}
use mathlib.Core.Path.{◌≡◌}
use Rattle.basics.specs.Buffer.{over}
use Rattle.lent.proofs.gather.Given as goal

-- the numbers of the parts passed stand at the buffer's start
abbrev pub invariant-loop-i : goal.invariant-loop-i
invariant-loop-i g l = l.out ≡ over (map g.T.Bytewise.of_bytes (take l.i l.part-items)) l.initial.out
