-- `pack_written`: a length of 32 bits, moved up by 32, or what `refuse` answers.
use Rattle.lent.specs.Packed.{writer_answer, pack_written}
use Rattle.lent.proofs.pack_written.Goals as goal

pub returns-in-Ok : goal.returns-in-Ok
unfolding writer_answer pack_written
returns-in-Ok c = rw c.in-Ok.is

pub returns-in-Err : goal.returns-in-Err
unfolding writer_answer
returns-in-Err c = rw c.in-Err.is c.refuse.ensures
