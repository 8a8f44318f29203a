-- `engine::name_short` meets its contract.
use Rattle.engine.proofs.Answers.{named}
use Rattle.engine.proofs.name_short.Goals as goal

pub short_disks-x-requires : goal.short_disks-x-requires
short_disks-x-requires c =
    let p = c.requires in
    (p.table, p.copies, p.timed)

pub list_among-requires : goal.list_among-requires
list_among-requires c =
    let p = c.requires in
    (p.timed.ready.seated.placed.blocks, p.fits)

pub shape_of-short : goal.shape_of-short
shape_of-short c = c.list_among.ensures.set.short_long

pub returns : goal.returns
returns c = named c.short_disks-x.ensures c.list_among.ensures
