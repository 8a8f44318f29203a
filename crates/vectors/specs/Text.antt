-- Bytes as document 01 prints them.
--     bytes     "07 AC 02": two digits for each byte, parted by single spaces
use Rattle.std.specs.Prelude.{ℕ, ◌+◌, ◌-◌, ◌*◌, List, [], ◌∷◌, ltb}
use Prim.Native.Char.{Char, code}
use Prim.Native.String.{String, [] as none, ◌∷◌ as ◌then◌}
use Rattle.basics.specs.Choice.{pick}

-- 0 to 9, A to F
unfoldable pub digit : Char → ℕ
digit c = pick (ltb (code c) 65) (code c - 48) (code c - 55)

unfoldable pub bytes : String → List ℕ
bytes none = []
bytes (a then none) = []
bytes (a then (b then none)) = (16 * digit a + digit b) ∷ []
bytes (a then (b then (space then rest))) = (16 * digit a + digit b) ∷ bytes rest
