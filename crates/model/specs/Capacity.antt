-- One disk: when it ends, and how many blocks it can read by a time. Its start is what the start rule makes of delay and load; its cost is
-- for one block.
use Rattle.std.specs.Prelude.{ℕ, zero, suc, ◌+◌, ◌-◌, ◌*◌, ◌/◌, ltb}
use Rattle.basics.specs.Choice.{pick}

-- when a disk has read b blocks (001, equation 5): an idle disk ends at 0, whatever its start
unfoldable pub end_time : ℕ → ℕ → ℕ → ℕ
end_time start cost zero = 0
end_time start cost (suc b) = start + suc b * cost

-- how many blocks a disk can read by time t: none before its start (001's Observation 3 omits that case)
unfoldable pub capacity : ℕ → ℕ → ℕ → ℕ
capacity start cost t = pick (ltb t start) 0 ((t - start) / cost)
