-- The lists are cut to Q and N.
use native.Mathlib.Omega.{arith}
use lib.Seq.{length-take-le}
use Rattle.planner.proofs.Found.{spellable}
use Rattle.why.proofs.lend.Goals as goal

pub explain-requires : goal.explain-requires
explain-requires c =
    let said = c.args.said.now in
    let lent = c.requires.0 in
    rw c.copies.ensures (rw c.costs.ensures (rw c.starts.ensures (
      spellable lent.3,
      omega (arith, length-take-le said.blocks said.copies lent.0, c.requires.1),
      omega (arith, length-take-le said.disks said.costs lent.1, c.requires.2),
    )))

pub returns : goal.returns
returns c = rw c.copies.ensures at (rw c.costs.ensures at (rw c.starts.ensures at c.explain.ensures))
