-- The disks that an iterator over a mask still gives.
use Rattle.std.specs.Prelude.{ℕ, List}
use Rattle.mask.specs.Disks.{disks_of}
use Rattle.mask.specs.declared.Rising.{Rising}

-- those of the rest of the mask, rising
abbrev pub disks_left : Rising → List ℕ
disks_left s = disks_of s.rest
