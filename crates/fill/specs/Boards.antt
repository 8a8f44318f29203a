-- The words of Packed and Parts, of a board.
use Rattle.std.specs.Prelude.{ℕ, List}
use Rattle.places.specs.declared.Board.{Board}
use Rattle.fill.specs.Packed as lists
use Rattle.fill.specs.Parts as parts
use Rattle.fill.specs.declared.Known.{Known}

-- blocks are placed within the capacities, and copies lie on disks below n
abbrev pub Packing : ℕ → ℕ → List ℕ → List ℕ → Board → Type 0
Packing n q masks caps s = lists.Packing n q masks caps s.seats s.counts s.nodes.next s.nodes.prev s.out

-- as many blocks as there is room for are on disks, and x is what the rest reach
abbrev pub Packed : ℕ → ℕ → List ℕ → List ℕ → Board → ℕ → Type 0
Packed n q masks caps s x = lists.Packed n q masks caps s.seats s.counts s.nodes.next s.nodes.prev s.out x

-- the blocks before b have been tried: those left over have all copies on closed disks, which are full and own the blocks there
abbrev pub Ground : ℕ → ℕ → ℕ → List ℕ → List ℕ → Board → List ℕ → Known → Type 0
Ground n q b masks caps s by k =
    parts.Ground n q b masks caps s.seats s.counts s.nodes.next s.nodes.prev s.out by k.room k.closed
