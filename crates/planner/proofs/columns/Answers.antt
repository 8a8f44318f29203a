-- Row by row, costs and starts: `UpTo`.
use native.Mathlib.Omega.{arith}
use mathlib.Core.Path.{refl, ap, ◌∙◌}
use Prim.Native.Nat.{ℕ}
use lib.ListN.{length-replicate}
use Rattle.basics.specs.Limits.{disks_most}
use Rattle.model.specs.Case.{starting}
use Rattle.planner.specs.Asked.{start_of}
use Rattle.planner.proofs.Rows.{upto_start, upto_step, upto_done, wait_small}
use Rattle.planner.proofs.columns.Goals as goal

pub loop-i-init : goal.loop-i-init
loop-i-init c = let long = length-replicate {A = ℕ} disks_most 0 in upto_start _ _ _ _ _ long long

pub start-requires : goal.start-requires
start-requires c = omega (arith, c.left.ensures, wait_small c.requires c.args.age c.loop-i.i)

pub loop-i-preserved : goal.loop-i-preserved
unfolding start_of
loop-i-preserved c =
    upto_step _ _ c.loop-i-test.true refl (c.start.ensures ∙ ap (starting _ _) c.left.ensures) c.loop-i.invariant

pub returns : goal.returns
returns c = upto_done c.requires c.loop-i-test.false c.loop-i.invariant
