-- What the private functions promise: lists that spell a case, cut to Q and N, with a block and a disk below them.
use Rattle.std.specs.Prelude.{ℕ, ◌<◌}
use Rattle.planner.specs.declared.Spelling.{Spelling}
use Rattle.planner.specs.Parts.{Lent}

abbrev pub Asked : Spelling → ℕ → ℕ → Type 0
Asked s b d = Lent s × (b < s.blocks) × (d < s.disks)
