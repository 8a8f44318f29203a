-- One request on one table of disks, its schedules and their times: the generalized retrieval problem of 001, which is
-- N. Altiparmak and A. S. Tosun, Generalized Optimal Response Time Retrieval of Replicated Data from Storage Arrays,
-- ACM Transactions on Storage 9, 2, Article 5 (2013).
--     Case             disks, blocks, each disk's start and cost, and which disk holds a copy of which block
--     left             what is left of a load after some time
--     starting         when a disk starts, by the start rule
--     end_by, capacity_by     when it ends, and how many blocks it can read by a time, by the rule
--     base             disks by their costs, loads and delays
--     in_use            a case of copies in use alone
--     Priced, Held     every cost is at least 1; every block has a copy on some disk
--     Schedule         each block on one disk that holds a copy of it
--     response         a schedule's time
--     HasTime          the schedules of time t
--     capacity_at       each disk's capacity at a time
use Rattle.std.specs.Prelude.{ℕ, ◌+◌, ◌-◌, ◌<◌, max, ◌≡◌, Bool, true, not, ◌&&◌, ltb}
use Rattle.basics.specs.Choice.{pick}
use Rattle.basics.specs.Count.{latest}
use Rattle.model.specs.declared.Rule.{Rule}
use Rattle.model.specs.declared.Rule.TheVariants.{Sum, Larger}
use Rattle.model.specs.Assignment.{reads, Valid}
use Rattle.model.specs.Capacity.{end_time, capacity}

-- the number of disks and of blocks; each disk's start and cost; whether disk d holds a copy of block b
pub record Case : Type 0 where
  pub disks : ℕ
  pub blocks : ℕ
  pub start : ℕ → ℕ
  pub cost : ℕ → ℕ
  pub copy : ℕ → ℕ → Bool

-- the load less the age, and 0 if the age is larger; both cases are written out, since a machine's subtraction does not stop at 0
unfoldable pub left : ℕ → ℕ → ℕ
left age load = pick (ltb load age) 0 (load - age)

-- a disk starts at delay plus load (001, equation 5), or, where the wait overlaps the queue, at the larger of the two
unfoldable pub starting : Rule → ℕ → ℕ → ℕ
starting Sum delay load = delay + load
starting Larger delay load = max delay load

-- when a disk has read b blocks, and how many it can read by time t
unfoldable pub end_by : Rule → ℕ → ℕ → ℕ → ℕ → ℕ
end_by r delay load cost b = end_time (starting r delay load) cost b

unfoldable pub capacity_by : Rule → ℕ → ℕ → ℕ → ℕ → ℕ
capacity_by r delay load cost t = capacity (starting r delay load) cost t

-- n disks with their costs, loads and delays, under a start rule, and q blocks with their copies
unfoldable pub base : Rule → ℕ → ℕ → (ℕ → ℕ) → (ℕ → ℕ) → (ℕ → ℕ) → (ℕ → ℕ → Bool) → Case
base r n q cost load delay copy =
    record { disks = n; blocks = q; start = λ d. starting r (delay d) (load d); cost = cost; copy = copy }

-- a case of copies in use alone, where some disks are out
unfoldable pub in_use : (ℕ → Bool) → Case → Case
in_use out m =
    record { disks = m.disks; blocks = m.blocks; start = m.start; cost = m.cost; copy = λ b d. m.copy b d && not (out d) }

-- every disk's cost is at least 1
unfoldable pub Priced : Case → Type 0
Priced m = (d : ℕ) → d < m.disks → 0 < m.cost d

-- every block has a copy on some disk
unfoldable pub Held : Case → Type 0
Held m = (b : ℕ) → b < m.blocks → (d : ℕ) × (d < m.disks) × (m.copy b d ≡ true)

-- a schedule gives each block one disk that holds a copy of it
unfoldable pub Schedule : Case → (ℕ → ℕ) → Type 0
Schedule m a = Valid m.disks m.blocks m.copy a

-- when disk d ends under the schedule a
unfoldable pub end_of : Case → (ℕ → ℕ) → ℕ → ℕ
end_of m a d = end_time (m.start d) (m.cost d) (reads m.blocks a d)

-- a schedule's response time: the latest end over all disks (001, Corollary 5.6)
unfoldable pub response : Case → (ℕ → ℕ) → ℕ
response m a = latest m.disks (end_of m a)

-- the schedules whose time is t
unfoldable pub HasTime : Case → ℕ → (ℕ → ℕ) → Type 0
HasTime m t a = Schedule m a × (response m a ≡ t)

-- each disk's capacity at time t
unfoldable pub capacity_at : Case → ℕ → ℕ → ℕ
capacity_at m t d = capacity (m.start d) (m.cost d) t
