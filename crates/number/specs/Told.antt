-- What each answer says, in the paper's numbers.
use Rattle.std.specs.Prelude.{ℕ, Result, Ok, Err}
use Rattle.number.specs.declared.Broken.{Broken}
use Rattle.number.specs.declared.Broken.TheVariants.{Ends, Malformed}
use Rattle.number.specs.Decode.{Decoded, value, refused}

-- the refusal's number: 1 where the bytes end, 2 where they are no number
abbrev pub number_of : Broken → ℕ
number_of Ends = 1
number_of Malformed = 2

-- a value with the bytes it used, or the refusal
abbrev pub told : Result (ℕ × ℕ) Broken → Decoded
told (Ok (v, n)) = value v n
told (Err e) = refused (number_of e)
