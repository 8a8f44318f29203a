-- `engine::store` meets its contract.
use native.Mathlib.Omega.{arith}
use lib.ListN.{take}
use lib.Seq.{length-take-le}
use Rattle.engine.proofs.Lists.{copied_front, copied_stored}
use Rattle.engine.proofs.store.Goals as goal

pub returns : goal.returns
returns c =
    let q = c.args.q in
    let seats = c.args.seats.now in
    rw c.copy_from_slice.ensures.after
    (copied_stored seats
    (copied_front (take q seats) c.args.disks.now (length-take-le q seats (omega (arith, c.requires.0, c.told-seats))) c.requires.1))
