-- The rest is written first, so a refusal has changed nothing: `wrote_rest_none`, and else `wrote_rest`.
use native.Mathlib.Omega.{arith}
use Rattle.number.proofs.Encode.{width_bounds, wrote_none, wrote_one, wrote_rest_none, wrote_rest, wrote_small}
use Rattle.number.proofs.+write_groups.Goals as goal

pub returns-then-out-eq0 : goal.returns-then-out-eq0
returns-then-out-eq0 t c = wrote_none _ _ (omega (arith, width_bounds c.args.v))

pub returns-then-v-lt128 : goal.returns-then-v-lt128
returns-then-v-lt128 t c = wrote_one _ _ c.if-v-lt128.true (omega arith)

pub returns-in_err-n : goal.returns-in_err-n
returns-in_err-n t c = rw c.from_residual.ensures (wrote_rest_none _ _ _ _ (omega arith) (omega (arith, c.ranges.v))
    (omega arith) c.write_groups.ensures c.in_err-n.was)

pub overflow_add-result : goal.overflow_add-result
overflow_add-result t c = omega (arith, wrote_small c.write_groups.ensures c.in_ok-n.was)

pub returns : goal.returns
returns t c = wrote_rest _ _ _ _ (omega arith) (omega (arith, c.ranges.v))
    (omega arith) c.write_groups.ensures c.in_ok-n.was
