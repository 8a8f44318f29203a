-- `bench`: the unit that was made ready is asked; the first refusal stands.
use Rattle.console.proofs.Benching.{tells_asked, tells_refused}
use Rattle.console.proofs.bench.Goals as goal

pub ask-requires : goal.ask-requires
ask-requires c = c.in-Ok.ensures.2

pub returns-in-Ok : goal.returns-in-Ok
returns-in-Ok c = tells_asked _ c.in-Ok.ensures (rw c.of.ensures at c.ask.ensures)

pub returns-in-Err : goal.returns-in-Err
returns-in-Err c = tells_refused c.in-Err.e c.in-Err.ensures c.refuse.ensures
