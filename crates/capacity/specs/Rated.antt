-- The words of Table, Capacities and Parts, of disks' rates.
use Rattle.std.specs.Prelude.{ℕ, List}
use Rattle.places.specs.Table.{Table}
use Rattle.capacity.specs.Capacities as lists
use Rattle.capacity.specs.Parts as parts
use Rattle.capacity.specs.declared.Rates.{Rates}

-- n disks, each cost at least 1, costs and starts within their limits
abbrev pub Priced : ℕ → Rates → Type 0
Priced n r = Table n r.costs.now r.starts.now

-- caps has each disk's capacity at time t
abbrev pub Capacities : ℕ → Rates → ℕ → List ℕ → Type 0
Capacities n r t caps = lists.Capacities n r.costs.now r.starts.now t caps

-- the capacities at time t of the disks of x, summed
abbrev pub room_of : ℕ → Rates → ℕ → ℕ → ℕ
room_of n r x t = lists.room_of n r.costs.now r.starts.now x t

-- at the end of all times, if not sooner, the disks of x have room for so many blocks more than at t
abbrev pub Awaited : ℕ → Rates → ℕ → ℕ → ℕ → Type 0
Awaited n r t x more = lists.Awaited n r.costs.now r.starts.now t x more

-- the first time at which they have that room
abbrev pub FirstRoom : ℕ → Rates → ℕ → ℕ → ℕ → ℕ → Type 0
FirstRoom n r t x more time = lists.FirstRoom n r.costs.now r.starts.now t x more time

-- at high, after t, the disks of x have room for so many blocks more than at t
abbrev pub Enough : ℕ → Rates → ℕ → ℕ → ℕ → ℕ → Type 0
Enough n r t x more high = parts.Enough n r.costs.now r.starts.now t x more high
