-- `capacity::earliest` meets its contract: there is too little room at low, and enough at high.
use Rattle.capacity.proofs.Rooms.{room_most}
use native.Mathlib.Omega.{arith}
use Rattle.capacity.proofs.earliest.Goals as goal

pub overflow_add-size : goal.overflow_add-size
overflow_add-size c =
    let a = c.args in
    omega (
      arith,
      c.room_at.ensures,
      room_most a.n a.rates.costs.now a.rates.starts.now a.x a.t (omega (arith, c.ranges.t)),
      c.requires.table.few,
      c.requires.few,
    )
