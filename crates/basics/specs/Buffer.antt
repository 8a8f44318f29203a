-- Entries laid into a lent buffer.
use Rattle.std.specs.Prelude.{ℕ, List, ◌++◌, length, take, drop}

module _ {A : Type 0} where
  -- these entries at the start, the rest as it was
  unfoldable pub over : List A → List A → List A
  over xs out = xs ++ drop (length xs) out

  -- the buffer with these entries from a place on, all else as it was
  unfoldable pub paste : List A → ℕ → List A → List A
  paste out at xs = take at out ++ over xs (drop at out)
