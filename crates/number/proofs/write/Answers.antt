-- One byte and two in place are `wrote_one` and `wrote_two`; without room for them nothing has changed.
use native.Mathlib.Omega.{arith}
use lib.ListN.{length-set}
use Rattle.number.proofs.Encode.{width_bounds, wrote_none, wrote_one, wrote_two, wrote_short}
use Rattle.number.proofs.write.Goals as goal

pub returns-then-out-eq0 : goal.returns-then-out-eq0
returns-then-out-eq0 c = wrote_none _ _ (omega (arith, width_bounds c.args.v))

pub returns-then-v-lt128 : goal.returns-then-v-lt128
returns-then-v-lt128 c = wrote_one _ _ c.if-v-lt128.true (omega arith)

pub returns-then-out-eq1 : goal.returns-then-out-eq1
returns-then-out-eq1 c = wrote_short _ _ (omega arith) (omega arith) (omega arith)

pub bounds-out-1 : goal.bounds-out-1
bounds-out-1 c = simp length-set (omega arith)

pub returns : goal.returns
returns c = wrote_two _ _ (omega arith) (omega arith) (omega arith)
