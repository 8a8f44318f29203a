-- Row by row the disks that are out are put into one number: `Gathered`.
use native.Mathlib.Omega.{arith}
use mathlib.Core.Path.{refl}
use Rattle.planner.proofs.Cut.{gathered_start, gathered_out, gathered_in, gathered_done}
use Rattle.planner.proofs.out_of.Goals as goal
use Rattle.planner.proofs.out_of.Goals.{then-row-eq1, else-row-eq1}

pub loop-i-init : goal.loop-i-init
loop-i-init c = gathered_start _

pub loop-i-preserved : goal.loop-i-preserved
loop-i-preserved c =
    let w = c.loop-i.invariant in
    elim c.if-row-eq1.branch [
      | then-row-eq1 u ↦ gathered_out _ c.loop-i-test.true refl w (omega (arith, u.if-row-eq1.true)) u.out-is u.put-out.ensures
      | else-row-eq1 u ↦ gathered_in _ c.loop-i-test.true refl w (λ z. omega (arith, u.if-row-eq1.false)) u.out-is
    ]

pub returns : goal.returns
returns c = gathered_done c.requires c.loop-i-test.false c.loop-i.invariant
