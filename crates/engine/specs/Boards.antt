-- The words of Parts, of a demand and a board.
use Rattle.std.specs.Prelude.{ℕ, List}
use Rattle.places.specs.declared.Board.{Board}
use Rattle.timing.specs.declared.Demand.{Demand}
use Rattle.engine.specs.Parts as parts
use Rattle.engine.specs.declared.Found.{Found}

-- a case, and lists with no block placed
abbrev pub Fresh : Demand → List ℕ → List ℕ → Board → Type 0
Fresh c masks caps s =
    parts.Fresh c.n c.q masks c.rates.costs.now c.rates.starts.now caps s.seats s.counts s.nodes.next s.nodes.prev s.out

-- a schedule in time t, and a buffer with room for every block
abbrev pub Naming : Demand → List ℕ → ℕ → List ℕ → Board → List ℕ → Type 0
Naming c masks t caps s short =
    parts.Naming c.n c.q masks c.rates.costs.now c.rates.starts.now t caps s.seats s.counts s.nodes.next s.nodes.prev s.out short

-- the short set just before t, rising, and a schedule in time t
abbrev pub Named : Demand → List ℕ → ℕ → List ℕ → Board → List ℕ → List ℕ → ℕ → Type 0
Named c masks t caps s short short' m =
    parts.Named c.n c.q masks c.rates.costs.now c.rates.starts.now t caps s.seats s.counts s.nodes.next s.nodes.prev s.out short short' m

-- a case, nothing in the other lists, and buffers with room for every block
abbrev pub Solving : Demand → List ℕ → List ℕ → Board → List ℕ → List ℕ → Type 0
Solving c masks caps s disks short =
    parts.Solving c.n c.q masks c.rates.costs.now c.rates.starts.now caps s.seats s.counts s.nodes.next s.nodes.prev s.out disks short

-- the plan of whatever copies the masks were loaded from
abbrev pub Solved : Demand → List ℕ → List ℕ → List ℕ → List ℕ → List ℕ → Found → Type 0
Solved c masks disks short disks' short' f = parts.Solved c.q masks c.rates.costs.now c.rates.starts.now disks short disks' short' f
