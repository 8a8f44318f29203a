-- What the program's own function promises.
use Rattle.std.specs.Prelude.{ℕ, ◌<◌, ◌≡◌, List, [], ◌++◌, length, take}
use Rattle.console.specs.Bench.{bench_input, Tells}

-- the line of all of the input: of what stands in the buffer and of whatever follows it, nothing if the buffer is not full
pub record Answers (input : List ℕ) (n : ℕ) (out : List ℕ) (r : ℕ) (after : List ℕ) : Type 0 where
  pub tells : (rest : List ℕ) → (n < length input → rest ≡ []) → Tells (bench_input (take n input ++ rest) 0) out r after
