-- What the private functions promise: lists of costs, loads and delays of which none is broken or too long.
use Rattle.std.specs.Prelude.{Bool, ◌&&◌, List, ℕ}
use Rattle.basics.specs.Limits.{disks_most}
use Rattle.lent.specs.Numbers.{usable}

abbrev pub usable_rows : List ℕ → List ℕ → List ℕ → Bool
usable_rows costs loads delays = usable 4 disks_most costs && (usable 4 disks_most loads && usable 4 disks_most delays)
