-- `order::spread` meets its contract.
use mathlib.Core.Path.{◌≡◌, sym, ◌∙◌}
use Rattle.order.proofs.Spreads.{told_start, told_keep, told_put}
use native.Mathlib.Omega.{arith}
use Rattle.order.proofs.spread.Goals.{then-not-held, else-not-held}
use Rattle.order.proofs.spread.Goals as goal

pub loop-d-init : goal.loop-d-init
loop-d-init c = told_start c.args.x c.args.dead.now

pub loop-d-preserved : goal.loop-d-preserved
loop-d-preserved c =
    let i = c.loop-d.invariant in
    let e = c.held.ensures in
    elim c.if-not-held.branch [
      | then-not-held w ↦
          rw w.dead-is (told_put i (sym e ∙ w.if-not-held.true)
          (omega (arith, i.done.long, c.requires.0, c.requires.1)) w.either.result w.either.ensures)
      | else-not-held w ↦ rw w.dead-is (told_keep i (sym e ∙ w.if-not-held.false))
    ]

pub returns : goal.returns
returns c =
    let l = c.loop-d in
    let e : l.d ≡ c.args.n = omega arith in
    rw e at l.invariant.done
