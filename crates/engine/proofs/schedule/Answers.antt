-- `engine::schedule` meets its contract.
use Rattle.engine.proofs.Answers.{blank}
use Rattle.engine.proofs.schedule.Goals as goal

pub clear_all-requires : goal.clear_all-requires
clear_all-requires c = c.requires.empty

pub least-requires : goal.least-requires
least-requires c =
    let e = c.clear_all.ensures in rw e.1 (blank c.requires e.0)

pub returns : goal.returns
returns c = c.least.ensures
