-- A number in its shortest form, and a lent buffer after it was written there.
use Rattle.std.specs.Prelude.{ℕ, zero, suc, Option, Some, None, ◌+◌, ◌/◌, ◌%◌, Bool, ◌≡◌, List, [], ◌∷◌, length, ltb, leb}
use Rattle.basics.specs.Choice.{pick}
use Rattle.basics.specs.Buffer.{over}

-- the groups of v, at most so many after the first
unfoldable pub encode_by : ℕ → ℕ → List ℕ
encode_by zero v = v ∷ []
encode_by (suc k) v = pick (ltb v 128) (v ∷ []) ((v % 128 + 128) ∷ encode_by k (v / 128))

-- the shortest form of v: five bytes at the most
unfoldable pub encode : ℕ → List ℕ
encode v = encode_by 4 v

-- the bytes of its shortest form
unfoldable pub width_of : ℕ → ℕ
width_of v = length (encode v)

-- whether v has room at the start of a buffer
unfoldable pub fits : ℕ → List ℕ → Bool
fits v out = leb (width_of v) (length out)

-- how many bytes are written, if v has room
unfoldable pub written : ℕ → List ℕ → Option ℕ
written v out = pick (fits v out) (Some (width_of v)) None

-- the buffer with v at its start, or as it was where v has no room
unfoldable pub put_first : ℕ → List ℕ → List ℕ
put_first v out = pick (fits v out) (over (encode v) out) out

-- v was written at the start of a buffer: so many bytes, or none; and what the buffer then holds
pub record WroteNumber (v : ℕ) (out : List ℕ) (n : Option ℕ) (after : List ℕ) : Type 0 where
  pub count : n ≡ written v out
  pub left : after ≡ put_first v out
