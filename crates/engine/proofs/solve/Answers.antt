-- `engine::solve` meets its contract.
use Rattle.engine.proofs.Answers.{solved}
use Rattle.engine.proofs.solve.Goals as goal

pub schedule-time-requires : goal.schedule-time-requires
schedule-time-requires c = c.requires.fresh

pub name_short-size-requires : goal.name_short-size-requires
name_short-size-requires c =
    let p = c.requires in
    record { table = p.fresh.table; copies = p.fresh.copies; timed = c.schedule-time.ensures.timed; fits = p.short_room }

pub sort_out-requires : goal.sort_out-requires
sort_out-requires c =
    let p = c.requires in
    let t = c.name_short-size.ensures.timed in
    let r = t.ready in
    (record { seated = r.seated; within = r.within; small = r.small; whole = t.whole; long = p.long }, p.disks_room)

pub shape_of-disks : goal.shape_of-disks
shape_of-disks c = c.sort_out.ensures.long

pub shape_of-short : goal.shape_of-short
shape_of-short c =
    c.name_short-size.ensures.set.short_long

pub returns : goal.returns
returns c =
    let p = c.requires in
    solved p.fresh.table c.schedule-time.ensures c.name_short-size.ensures c.sort_out.ensures
