-- The words of Ordered and Parts, of a board.
use Rattle.std.specs.Prelude.{ℕ, List}
use Rattle.places.specs.declared.Board.{Board}
use Rattle.search.specs.declared.Hit.{Hit}
use Rattle.order.specs.Ordered as ordered
use Rattle.order.specs.Parts as parts

-- every block is on a disk that holds a copy of it, within the capacities, and in the ring of that disk
abbrev pub Scheduled : ℕ → ℕ → List ℕ → List ℕ → Board → Type 0
Scheduled n q masks caps s = ordered.Scheduled n q masks caps s.seats s.counts s.nodes.next s.nodes.prev s.out

-- the first k blocks are done; room has the disks that have room, and dead those that are dead for each
abbrev pub Sorting : ℕ → ℕ → ℕ → ℕ → List ℕ → List ℕ → Board → List ℕ → List ℕ → Type 0
Sorting n q k room cut caps s by dead =
    parts.Sorting n q k room cut caps s.seats s.counts s.nodes.next s.nodes.prev s.out by dead

-- block k is asked for one of the disks of lower, which are copies of it; room has the disks that have room once it is off its disk,
-- and base disks that are dead for that
abbrev pub Trying : ℕ → ℕ → ℕ → ℕ → ℕ → ℕ → List ℕ → List ℕ → Board → List ℕ → Type 0
Trying n q k lower base room cut caps s by =
    parts.Trying n q k lower base room cut caps s.seats s.counts s.nodes.next s.nodes.prev s.out by

-- it went there, or it stayed and those disks are dead for its disk, by the answer
abbrev pub Tried : ℕ → ℕ → ℕ → ℕ → ℕ → List ℕ → List ℕ → Board → List ℕ → Board → List ℕ → Hit → Type 0
Tried n q k lower room cut caps s cut' s' by' hit =
    parts.Tried n q k lower room cut caps s.seats s.counts
    cut' s'.seats s'.counts s'.nodes.next s'.nodes.prev s'.out by' hit

-- block k is on a lower disk than before, or stayed and no lower copy is left to ask for; r has the disks that have room
abbrev pub Asked : ℕ → ℕ → ℕ → List ℕ → List ℕ → Board → List ℕ → Board → List ℕ → List ℕ → ℕ → Type 0
Asked n q k cut caps s cut' s' by' dead' r =
    parts.Asked n q k cut caps s.seats cut' s'.seats s'.counts s'.nodes.next s'.nodes.prev s'.out by' dead' r

-- block k is done: on the lowest disk that any schedule of the copies left has for it, and bound there
abbrev pub Done : ℕ → ℕ → ℕ → List ℕ → List ℕ → List ℕ → Board → List ℕ → List ℕ → ℕ → Type 0
Done n q k cut caps cut' s' by' dead' r =
    parts.Done n q k cut caps cut' s'.seats s'.counts s'.nodes.next s'.nodes.prev s'.out by' dead' r
