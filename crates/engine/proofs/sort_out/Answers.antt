-- `engine::sort_out` meets its contract.
use Rattle.engine.proofs.Answers.{sorted}
use Rattle.engine.proofs.sort_out.Goals as goal

pub first-requires : goal.first-requires
first-requires c = c.requires.0

pub store-requires : goal.store-requires
store-requires c =
    let p = c.requires in
    (p.0.seated.placed.blocks, p.1)

pub shape_of-disks : goal.shape_of-disks
shape_of-disks c = c.store.ensures.long

pub returns : goal.returns
returns c = sorted c.first.ensures c.store.ensures
