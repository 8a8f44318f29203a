use Prim.Native.Nat.{◌+◌, ◌*◌, ◌^◌}
use mathlib.Core.Path.{◌≡◌}
use lib.ListN.{get_or}
use Rattle.basics.specs.Limits.{disks_most}
use Rattle.order.specs.Boards.{Sorting}
use Rattle.order.specs.Parts.{LowerCopies}
use Rattle.order.proofs.settle.Given as goal

abbrev pub invariant-loop-lower : goal.invariant-loop-lower
invariant-loop-lower l =
    (l.initial.cut ≡ l.cut) × Sorting l.n l.q l.k l.free l.cut l.caps l.board l.by l.dead
    × LowerCopies l.k l.cut l.board.seats l.dead l.lower

abbrev pub decreases-loop-lower : goal.decreases-loop-lower
decreases-loop-lower l =
    get_or l.board.seats l.k 0 * 2 ^ disks_most + l.lower
