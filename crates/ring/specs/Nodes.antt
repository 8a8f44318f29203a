-- The words of Rings, of the two lists of a struct.
use Rattle.std.specs.Prelude.{ℕ}
use Rattle.ring.specs.Rings as lists
use Rattle.ring.specs.declared.Nodes.{Nodes}

-- b is out of its ring
abbrev pub Unlinked : ℕ → Nodes → Nodes → Type 0
Unlinked b s s' = lists.Unlinked b s.next s.prev s'.next s'.prev

-- b is the last of the ring of c
abbrev pub Linked : ℕ → ℕ → Nodes → Nodes → Type 0
Linked b c s s' = lists.Linked b c s.next s.prev s'.next s'.prev
