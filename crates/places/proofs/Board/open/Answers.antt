-- `places::Board::open` meets its contract.
use Prim.Native.Nat.{ℕ, ◌+◌}
use mathlib.Core.Path.{◌≡◌, sym, ap, subst, ◌∙◌}
use mathlib.Core.Bool.{◌&&◌}
use lib.Dec.{ltb}
use borrow.Author.Tests.{lt-ltb, le-ltb}
use Rattle.places.specs.Places.{roomy}
use Rattle.places.proofs.Masks.{Upto, upto_start, upto_put, upto_skip}
use native.Mathlib.Omega.{arith}
use Rattle.places.proofs.Board.open.Goals as goal
use Rattle.places.proofs.Board.open.Goals.{then-self-d, else-self-d}

pub loop-d-init : goal.loop-d-init
loop-d-init c = upto_start _

pub loop-d-preserved : goal.loop-d-preserved
loop-d-preserved c =
    let l = c.loop-d in
    let a = c.args in
    let p = roomy a.caps.now a.self.now.counts in
    elim c.if-self-d.branch [
      | then-self-d w ↦ subst (Upto p (l.d + 1)) (sym w.m-is)
          (upto_put p l.d l.m w.put-m.result l.invariant (lt-ltb _ _ w.if-self-d.true) w.put-m.ensures)
      | else-self-d w ↦ subst (Upto p (l.d + 1)) (sym w.m-is) (upto_skip p l.d l.m l.invariant (le-ltb _ _ w.if-self-d.false))
    ]

pub returns : goal.returns
unfolding Upto
returns c d =
    let a = c.args in
    let e : c.loop-d.d ≡ a.n = omega arith in
    c.loop-d.invariant d ∙ ap (λ (x : ℕ). ltb d x && roomy a.caps.now a.self.now.counts d) e
