-- `blocks` meets its contract. The invariant is `Filling`: the first i blocks stand in the first i of Q places.
use native.Mathlib.Omega.{arith}
use mathlib.Core.Path.{sym, ◌∙◌}
use lib.ListN.{length-take, length-replicate}
use Prim.Native.Nat.{ℕ}
use Rattle.basics.specs.Limits.{blocks_most}
use Rattle.basics.proofs.Question.{passed_on}
use Rattle.request.proofs.Reading.{filling_start, filling_step, filling_stop, filling_extra, filling_done, told_stopped}
use Rattle.request.proofs.blocks.Goals as goal

pub loop-held-init : goal.loop-held-init
loop-held-init c = filling_start _ _ _ _ _ _ (length-take _ _ ∙ omega (arith, length-replicate {A = ℕ} blocks_most 0, c.requires.0))

pub returns-in_err-m : goal.returns-in_err-m
returns-in_err-m c =
    told_stopped _ _ (passed_on c.from_residual.ensures)
    (filling_stop _ _ _ _ _ _ _ _ c.loop-held.invariant (omega (arith, c.loop-held.invariant.long)) (sym c.in_err-m.ensures))

pub loop-held-preserved : goal.loop-held-preserved
loop-held-preserved c =
    filling_step _ _ _ _ _ _ _ _ c.loop-held.invariant (omega (arith, c.loop-held.invariant.long)) (sym c.in_ok-m.ensures)

pub returns-in_err-end : goal.returns-in_err-end
returns-in_err-end c =
    told_stopped _ _ (passed_on c.from_residual-in_err-end.ensures)
    (filling_extra _ _ _ _ _ _ _ _ c.loop-held.invariant (omega (arith, c.loop-held.invariant.long)) (sym c.in_err-end.ensures))

pub returns : goal.returns
returns c = filling_done _ _ _ _ _ _ _ _ c.loop-held.invariant (omega (arith, c.loop-held.invariant.long)) (sym c.in_ok-end.ensures)
