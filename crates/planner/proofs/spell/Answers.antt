-- What the reader of requests said, with the copies in use and the columns of the table: `asks_case`, or its refusal.
use native.Mathlib.Omega.{arith}
use mathlib.Core.Path.{sym}
use Prim.Native.Nat.{ℕ}
use lib.ListN.{length-take}
use Rattle.planner.proofs.Asking.{said_count, asks_case, asks_refused, asked_not}
use Rattle.planner.proofs.spell.Goals as goal

pub returns-in-Err : goal.returns-in-Err
returns-in-Err c = asks_refused (asked_not _ _ c.requires _ _ c.out_of-out.ensures _ c.in-Err.ensures)

pub slice_bounds-copies-end : goal.slice_bounds-copies-end
slice_bounds-copies-end c =
    omega (arith, said_count _ _ c.requires _ _ c.out_of-out.ensures _ c.in-Ok.ensures, length-take {A = ℕ})

pub slice_bounds-keep-end : goal.slice_bounds-keep-end
slice_bounds-keep-end c = sym (said_count _ _ c.requires _ _ c.out_of-out.ensures _ c.in-Ok.ensures)

pub returns : goal.returns
returns c = asks_case _ _ c.requires _ _ c.out_of-out.ensures _ c.in-Ok.ensures c.keep.ensures c.columns.ensures
