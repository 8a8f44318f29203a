-- Words and numbers as text, in ASCII.
--     ascii       a byte for each character
--     decimal     a number's decimal digits
--     spaced      the same after one space
--     hex         bytes as pairs of digits, in lower case
use Rattle.std.specs.Prelude.{ℕ, zero, suc, ◌+◌, ◌/◌, ◌%◌, List, [], ◌∷◌, ◌++◌, ltb}
use Prim.Native.Char.{code}
use Prim.Native.String.{String}
use Prim.Native.String.{[] as none, ◌∷◌ as ◌then◌}
use Rattle.basics.specs.Choice.{pick}
use Rattle.field.specs.Put.{spell_all}

abbrev pub ascii : String → List ℕ
ascii none = []
ascii (c then rest) = code c ∷ ascii rest

-- 0 to 9, then a to f
unfoldable pub digit : ℕ → ℕ
digit d = pick (ltb d 10) (48 + d) (87 + d)

-- the digits of v, at most so many before the last one
unfoldable pub digits_by : ℕ → ℕ → List ℕ
digits_by zero v = digit v ∷ []
digits_by (suc k) v = pick (ltb v 10) (digit v ∷ []) (digits_by k (v / 10) ++ (digit (v % 10) ∷ []))

-- twenty digits at the most
unfoldable pub decimal : ℕ → List ℕ
decimal v = digits_by 19 v

-- a number behind a single space
unfoldable pub spaced : ℕ → List ℕ
spaced v = 32 ∷ decimal v

-- the two digits of a byte
unfoldable pub pair : ℕ → List ℕ
pair b = digit (b / 16) ∷ digit (b % 16) ∷ []

unfoldable pub hex : List ℕ → List ℕ
hex bytes = spell_all pair bytes
