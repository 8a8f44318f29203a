-- `pack_plan`: Q and m of 11 bits and R of 31, each moved to its place, or what `refuse` answers.
use Rattle.lent.specs.Packed.{reader_answer, pack_plan}
use Rattle.lent.proofs.pack_plan.Goals as goal

pub returns-in-Ok : goal.returns-in-Ok
unfolding reader_answer pack_plan
returns-in-Ok c n = rw (c.in-Ok.is, c.from.ensures)

pub returns-in-Err : goal.returns-in-Err
unfolding reader_answer
returns-in-Err c n = rw c.in-Err.is c.refuse.ensures
