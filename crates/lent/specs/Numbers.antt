-- Numbers as bytes, lowest byte first.
--     value_of, bytes_of     the number of some bytes; the bytes of a number
--     number_at             the number of so many bytes at a place
--     numbers              the numbers of a list of bytes, so many bytes each
--     broken, usable       a list that ends inside a number; one that does not, and is not too long
--     Room                 the lesser of a count and 1,024
use Rattle.std.specs.Prelude.{ℕ, zero, suc, ◌+◌, ◌*◌, ◌/◌, ◌%◌, ◌≤◌, Bool, not, ◌&&◌, List, [], ◌∷◌, length, take, drop, leb, ltb}
use Rattle.basics.specs.Limits.{blocks_most}

-- the number of some bytes
unfoldable pub value_of : List ℕ → ℕ
value_of [] = 0
value_of (b ∷ bs) = b + 256 * value_of bs

-- the first w bytes of v
unfoldable pub bytes_of : ℕ → ℕ → List ℕ
bytes_of zero v = []
bytes_of (suc w) v = v % 256 ∷ bytes_of w (v / 256)

-- the number of w bytes at a place
unfoldable pub number_at : ℕ → List ℕ → ℕ → ℕ
number_at w bytes at = value_of (take w (drop at bytes))

-- the first n numbers of w bytes each
unfoldable pub first_numbers : ℕ → ℕ → List ℕ → List ℕ
first_numbers w zero bytes = []
first_numbers w (suc n) bytes = value_of (take w bytes) ∷ first_numbers w n (drop w bytes)

-- all numbers of w bytes each; bytes behind the last whole number are not used
unfoldable pub numbers : ℕ → List ℕ → List ℕ
numbers w bytes = first_numbers w (length bytes / w) bytes

-- whether a list ends inside a number of w bytes
unfoldable pub broken : ℕ → List ℕ → Bool
broken w bytes = ltb 0 (length bytes % w)

-- whether a list is whole numbers of w bytes, and at most so many
unfoldable pub usable : ℕ → ℕ → List ℕ → Bool
usable w most bytes = not (broken w bytes) && leb (length bytes / w) most

-- r is the lesser of n and 1,024
pub record Room (n r : ℕ) : Type 0 where
  pub within : r ≤ blocks_most
  pub below : r ≤ n
  pub enough : (m : ℕ) → m ≤ blocks_most → m ≤ n → m ≤ r
