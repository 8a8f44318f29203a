-- How many disks a mask holds.
use Rattle.std.specs.Prelude.{ℕ}
use Rattle.basics.specs.Count.{count}
use Rattle.mask.specs.Has.{has}

-- how many disks below n are in m
abbrev pub members : ℕ → ℕ → ℕ
members n m = count n (has m)
