-- `put_blocks` meets its contract. The invariant: the bytes of the blocks so far were put, and nothing else.
use mathlib.Core.Path.{refl}
use Rattle.field.proofs.Pens.{lays_start, lays_entry}
use Rattle.request.proofs.put_blocks.Goals as goal

pub loop-m-init : goal.loop-m-init
loop-m-init c = lays_start _ _

pub loop-m-preserved : goal.loop-m-preserved
loop-m-preserved c = lays_entry _ c.args.copies.now _ 0 c.loop-m-test.true refl c.loop-m.invariant c.put_block.ensures
