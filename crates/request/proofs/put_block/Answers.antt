-- `put_block` meets its contract: the copy count is put, and the disks behind it.
use Rattle.request.proofs.Writing.{block_put}
use Rattle.request.proofs.put_block.Goals as goal

pub returns : goal.returns
returns c = block_put _ c.count.ensures c.put.ensures c.put_disks.ensures
