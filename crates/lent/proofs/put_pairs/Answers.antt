-- `put_pairs`. Each number's two bytes are put behind those of the numbers before it.
use native.Mathlib.Omega.{arith}
use lib.ListN.{take, length-take}
use Rattle.basics.proofs.Buffer.{over_none}
use Rattle.field.specs.Put.{spell_all}
use Rattle.lent.specs.Numbers.{bytes_of}
use Rattle.lent.proofs.Filling.{spread_more}
use Rattle.lent.proofs.put_pairs.Goals as goal

pub loop-i-init : goal.loop-i-init
unfolding spell_all
loop-i-init c = over_none _

pub loop-i-preserved : goal.loop-i-preserved
unfolding bytes_of
loop-i-preserved c =
    spread_more (take c.args.m c.args.xs.now) c.args.out.now c.loop-i.i c.loop-i-test.true
    (simp length-take (omega arith)) c.to_le_bytes.ensures c.loop-i.invariant
