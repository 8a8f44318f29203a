-- What only the private functions promise.
use Rattle.std.specs.Prelude.{ℕ, ◌≡◌, ◌≤◌, List, ◌++◌, length}
use Rattle.line.specs.declared.Pen.{Pen}
use Rattle.line.specs.Printed.{Printed}

-- a pen put these bytes behind whatever stands at its buffer's start up to its place, if they have room; the buffer is still the same
pub record Writes (bytes : List ℕ) (pen pen' : Pen) : Type 0 where
  pub same : pen'.out.ghost_name ≡ pen.out.ghost_name
  pub add : (out line : List ℕ) → Printed line out pen.at pen.out.now → length (line ++ bytes) ≤ length out
      → Printed (line ++ bytes) out pen'.at pen'.out.now
