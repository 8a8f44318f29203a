-- A list in an array of a fixed length.
use Rattle.std.specs.Prelude.{ℕ, ◌-◌, List, ◌++◌, length, replicate}

-- so many entries: those given, and one value behind them
unfoldable pub pad_to : {A : Type 0} → A → ℕ → List A → List A
pad_to z n xs = xs ++ replicate (n - length xs) z
