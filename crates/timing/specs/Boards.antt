-- The words of Times and Parts, of a demand and a board.
use Rattle.std.specs.Prelude.{ℕ, List}
use Rattle.places.specs.declared.Board.{Board}
use Rattle.timing.specs.Times as times
use Rattle.timing.specs.Parts as parts
use Rattle.timing.specs.declared.Demand.{Demand}
use Rattle.timing.specs.declared.Moment.{Moment}

-- a case, and no block on any disk
abbrev pub Blank : Demand → List ℕ → List ℕ → Board → Type 0
Blank c masks caps s =
    times.Blank c.n c.q masks c.rates.costs.now c.rates.starts.now caps s.seats s.counts s.nodes.next s.nodes.prev s.out

-- every block is on a disk, within the capacities at time t
abbrev pub Timed : Demand → List ℕ → ℕ → List ℕ → Board → Type 0
Timed c masks t caps s =
    times.Timed c.n c.q masks c.rates.costs.now c.rates.starts.now t caps s.seats s.counts s.nodes.next s.nodes.prev s.out

-- a schedule in time t, and a set that is short just before t
abbrev pub Least : Demand → List ℕ → List ℕ → Board → ℕ → Type 0
Least c masks caps s t =
    times.Least c.n c.q masks c.rates.costs.now c.rates.starts.now caps s.seats s.counts s.nodes.next s.nodes.prev s.out t

-- x has the disks of the short set just before t, and there is a schedule in time t, perhaps another one
abbrev pub Restored : Demand → List ℕ → ℕ → List ℕ → Board → ℕ → Type 0
Restored c masks t caps s x =
    times.Restored c.n c.q masks c.rates.costs.now c.rates.starts.now t caps s.seats s.counts s.nodes.next s.nodes.prev s.out x

-- the blocks below b are on disks within the capacities, those from b on are on none, and a set is short just before the time
abbrev pub SoFar : Demand → ℕ → List ℕ → List ℕ → Board → List ℕ → Moment → Type 0
SoFar c b masks caps s by m =
    parts.SoFar c.n c.q b masks c.rates.costs.now c.rates.starts.now caps s.seats s.counts s.nodes.next s.nodes.prev s.out by m.time m.room

-- the disks of x are awaited by the blocks from b on that have all copies there
abbrev pub Raising : Demand → ℕ → List ℕ → ℕ → ℕ → List ℕ → Type 0
Raising c b masks t x caps = parts.Raising c.n c.q b masks c.rates.costs.now c.rates.starts.now t x caps

-- the first time at which there is room for all these blocks, the capacities then, and the disks that have room
abbrev pub Raised : Demand → ℕ → List ℕ → ℕ → ℕ → List ℕ → List ℕ → Moment → Type 0
Raised c b masks t x caps' counts m = parts.Raised c.n c.q b masks c.rates.costs.now c.rates.starts.now t x caps' counts m

-- block b is on a disk, or on none and the time is later
abbrev pub Turned : Demand → ℕ → List ℕ → ℕ → List ℕ → Board → List ℕ → Moment → Type 0
Turned c b masks t caps' s' by' m =
    parts.Turned c.n c.q b masks c.rates.costs.now c.rates.starts.now t caps'
    s'.seats s'.counts s'.nodes.next s'.nodes.prev s'.out by' m

-- a case, its blocks anywhere
abbrev pub Filling : Demand → List ℕ → List ℕ → Board → Type 0
Filling c masks caps s =
    parts.Filling c.n c.q masks c.rates.costs.now c.rates.starts.now caps s.seats s.counts s.nodes.next s.nodes.prev s.out

-- as many blocks as there is room for at time t are on disks, and x is what the rest reach
abbrev pub FilledAt : Demand → List ℕ → ℕ → List ℕ → Board → ℕ → Type 0
FilledAt c masks t caps s x =
    parts.FilledAt c.n c.q masks c.rates.costs.now c.rates.starts.now t caps s.seats s.counts s.nodes.next s.nodes.prev s.out x
