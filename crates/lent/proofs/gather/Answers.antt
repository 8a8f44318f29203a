-- `gather`. Each part's number is put behind those of the parts before it.
use native.Mathlib.Omega.{arith}
use Rattle.basics.proofs.Buffer.{over_none}
use Rattle.lent.proofs.Filling.{gathered_more}
use Rattle.lent.proofs.gather.Goals as goal

pub loop-i-init : goal.loop-i-init
loop-i-init g c = over_none _

pub loop-i-preserved : goal.loop-i-preserved
loop-i-preserved g c =
    gathered_more _ c.as_chunks.result.0.now c.args.out.now c.loop-i.i c.part-item.result c.of_bytes.result
    c.loop-i-test.true (omega arith) c.part-item.is c.of_bytes.ensures c.loop-i.invariant
