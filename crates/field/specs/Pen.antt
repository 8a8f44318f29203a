-- What a pen does: fields behind one another in one lent buffer.
--     Room     these bytes have room from a pen's place on
--     Puts     one field was put at a pen's place
--     Lays     these bytes were laid from a pen's place on
use Rattle.std.specs.Prelude.{ℕ, ◌+◌, ◌≡◌, ◌≤◌, List, length}
use Rattle.field.specs.declared.Pen.{Pen}
use Rattle.field.specs.Put.{PutOne, Laid}

abbrev pub Room : List ℕ → Pen → Type 0
Room bs pen = pen.at + length bs ≤ length pen.out.now

-- the field, and the place behind it; without room nothing has changed. The buffer is still the same
pub record Puts (v : ℕ) (pen pen' : Pen) : Type 0 where
  pub same : pen'.out.ghost_name ≡ pen.out.ghost_name
  pub one : PutOne v pen.out.now pen.at pen'.at pen'.out.now

-- where they have room, the bytes, and the place behind them. The buffer is still the same
pub record Lays (bs : List ℕ) (pen pen' : Pen) : Type 0 where
  pub same : pen'.out.ghost_name ≡ pen.out.ghost_name
  pub laid : Room bs pen → Laid pen.out.now pen.at bs pen'.out.now pen'.at
