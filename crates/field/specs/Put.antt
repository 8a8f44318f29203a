-- Fields put into a lent buffer.
use Rattle.std.specs.Prelude.{ℕ, ◌+◌, ◌≤◌, Bool, ◌≡◌, List, [], ◌∷◌, ◌++◌, length, leb}
use Rattle.basics.specs.Choice.{pick}
use Rattle.basics.specs.Buffer.{paste}
use Rattle.number.specs.Encode.{encode, width_of}

-- the bytes of a list, value by value
unfoldable pub spell_all : {A : Type 0} → (A → List ℕ) → List A → List ℕ
spell_all spell [] = []
spell_all spell (a ∷ rest) = spell a ++ spell_all spell rest

-- the bytes of kind, unit and tenancy, with which every sheet opens
unfoldable pub opening_bytes : ℕ → ℕ → ℕ → List ℕ
opening_bytes kind unit t = encode kind ++ (encode unit ++ encode t)

-- the bytes of a field that a sheet has or has not
abbrev pub field_if : Bool → ℕ → List ℕ
field_if held v = pick held (encode v) []

-- whether v has room at a place
unfoldable pub has_room : ℕ → List ℕ → ℕ → Bool
has_room v out at = leb (at + width_of v) (length out)

-- v was put at a place: where the next field goes and what the buffer then holds; without room nothing has changed
pub record PutOne (v : ℕ) (out : List ℕ) (at next : ℕ) (after : List ℕ) : Type 0 where
  pub place : next ≡ pick (has_room v out at) (at + width_of v) at
  pub held : after ≡ pick (has_room v out at) (paste out at (encode v)) out

-- these bytes were laid from a place on, and all else is as it was
pub record Laid (out : List ℕ) (at : ℕ) (bs : List ℕ) (after : List ℕ) (next : ℕ) : Type 0 where
  pub fit : at + length bs ≤ length out
  pub held : after ≡ paste out at bs
  pub place : next ≡ at + length bs
