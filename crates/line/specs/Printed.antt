-- A line at the start of a lent buffer.
use Rattle.std.specs.Prelude.{ℕ, ◌≡◌, List, length}
use Rattle.basics.specs.Buffer.{over}

-- the line first, all else as it was; its length is answered
pub record Printed (line out : List ℕ) (n : ℕ) (after : List ℕ) : Type 0 where
  pub count : n ≡ length line
  pub held : after ≡ over line out
