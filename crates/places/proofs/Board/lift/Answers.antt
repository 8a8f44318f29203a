-- `places::Board::lift` meets its contract. The measure: blocks that may still come off.
use Rattle.places.specs.Places.{entry}
use Rattle.places.proofs.Laws.{reads_most}
use Rattle.places.proofs.Clearing.{lifting_shifting, lifting_off, lifting_end}
use native.Mathlib.Omega.{arith}
use Rattle.places.proofs.Board.lift.Goals as goal

pub shift-requires : goal.shift-requires
shift-requires c = lifting_shifting c.loop-self.invariant c.loop-d-test.true c.loop-self-test.true

pub loop-self-smaller : goal.loop-self-smaller
loop-self-smaller c =
    let a = c.args in
    let p = c.loop-self.invariant.seated.placed in
    omega (
      arith,
      c.shift.ensures.moved.more,
      p.tally a.n (omega arith),
      reads_most a.q (entry c.loop-self.self.seats) a.n,
      p.blocks,
    )

pub loop-self-preserved : goal.loop-self-preserved
loop-self-preserved c = lifting_off c.loop-self.invariant c.loop-d-test.true c.loop-self-test.true c.shift.ensures

pub returns : goal.returns
returns c = lifting_end c.loop-d.invariant c.loop-d-test.false
