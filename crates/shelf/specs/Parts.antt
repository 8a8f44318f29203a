-- What the program's own function promises.
use Rattle.std.specs.Prelude.{ℕ, ◌-◌, ◌≡◌, List, length, take, drop}

-- the bytes that are not used yet stand at the start; their number is answered
pub record Shifts (buf : List ℕ) (used have r : ℕ) (after : List ℕ) : Type 0 where
  pub size : length after ≡ length buf
  pub count : r ≡ have - used
  pub left : take r after ≡ drop used (take have buf)
