-- Bytes read into a buffer.
--     came, Reads     one read behind the bytes that are there
--     count, Fills    all of an input, or all that has room
use Rattle.std.specs.Prelude.{ℕ, ◌+◌, ◌≤◌, ◌≡◌, List, Result, Ok, Err, length, take}
use Rattle.wire.specs.declared.Failed.{Failed}
use Rattle.wire.specs.declared.Input.{Input}
use Rattle.wire.specs.declared.Input.TheVariants.{Bytes, Later, End}

-- how many bytes came
abbrev pub came : Result Input Failed → ℕ
came (Ok (Bytes n)) = n
came (Ok Later) = 0
came (Ok End) = 0
came (Err e) = 0

-- those that were there are as they were, and those that came lie behind them within the buffer
pub record Reads (buf : List ℕ) (have : ℕ) (r : Result Input Failed) (after : List ℕ) : Type 0 where
  pub size : length after ≡ length buf
  pub kept : take have after ≡ take have buf
  pub within : have + came r ≤ length buf

abbrev pub count : Result ℕ Failed → ℕ
count (Ok n) = n
count (Err e) = 0

-- what was read lies within the buffer
pub record Fills (buf : List ℕ) (r : Result ℕ Failed) (after : List ℕ) : Type 0 where
  pub size : length after ≡ length buf
  pub within : count r ≤ length buf
