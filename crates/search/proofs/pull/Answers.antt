-- `search::pull` meets its contract.
use mathlib.Core.Path.{sym, ◌∙◌}
use mathlib.Core.Logic.{inr}
use Rattle.search.proofs.Hands.{hand_skip, hand_shifting, hand_move}
use native.Mathlib.Omega.{arith}
use Rattle.search.proofs.pull.Goals as goal

pub shift-d-requires : goal.shift-d-requires
shift-d-requires c =
    hand_shifting c.requires c.loop-d.invariant.1 c.loop-d-test.true c.loop-d.invariant.0
    c.if-board-y.true (sym c.held.ensures ∙ c.if-held.true)

pub loop-d-preserved-then-held : goal.loop-d-preserved-then-held
loop-d-preserved-then-held c = (
  omega (arith, c.loop-d.invariant.0),
  hand_move c.requires c.loop-d.invariant.1 c.loop-d-test.true c.loop-d.invariant.0 c.if-board-y.true
      (sym c.held.ensures ∙ c.if-held.true) c.shift-d.ensures,
)

pub loop-d-preserved-else-held : goal.loop-d-preserved-else-held
loop-d-preserved-else-held c = (
  omega (arith, c.loop-d.invariant.0),
  hand_skip c.requires c.loop-d.invariant.1 c.loop-d-test.true c.loop-d.invariant.0
      (inr (sym c.held.ensures ∙ c.if-held.false)),
)
