-- Laws of lists of bytes.
use mathlib.Core.List.{List}
use Prim.Native.Nat.{ℕ, ◌+◌}
use lib.ListN.{drop}
use lib.Seq.{get_or-drop}
use Rattle.number.specs.Bytes.{Bytes}

-- what is left of a list of bytes is one
pub drop_bytes : (s : List ℕ) (at : ℕ) → Bytes s → Bytes (drop at s)
unfolding Bytes
drop_bytes s at h i = rw (get_or-drop at s i 0) (h (at + i))
