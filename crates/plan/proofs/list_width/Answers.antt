-- `list_width`. A value is as wide as the number that it is converted into, which is the number that it is.
use native.Mathlib.Omega.{arith}
use mathlib.Core.Path.{sym, ap, ◌∙◌}
use lib.ListN.{take, length-take}
use Prim.Native.Nat.{ℕ, ◌+◌}
use Rattle.number.specs.Encode.{width_of}
use Rattle.number.proofs.Encode.{width_bounds}
use Rattle.plan.proofs.Writing.{spelt_none, width_more, numbers_bound}
use Rattle.plan.proofs.list_width.Goals as goal

pub loop-x-init : goal.loop-x-init
loop-x-init g c = sym (spelt_none _)

pub overflow_add-n : goal.overflow_add-n
overflow_add-n g c =
    omega (
      arith,
      c.loop-x.invariant,
      numbers_bound (g.T.Numeral.value) (take c.loop-x.x-index c.args.xs.now),
      length-take c.loop-x.x-index c.args.xs.now,
      width_bounds c.into.result,
      c.width-n.ensures,
    )

pub loop-x-preserved : goal.loop-x-preserved
loop-x-preserved g c =
    let e = c.width-n.ensures ∙ ap width_of (g.met.T.Numeral.into_value c.x-item.result c.into.result c.into.ensures) in
    ap (λ (k : ℕ). c.loop-x.n + k) e
    ∙ width_more g.T.Numeral.value c.args.xs.now c.loop-x.x-index c.x-item.result (omega arith) c.x-item.is _ c.loop-x.invariant
