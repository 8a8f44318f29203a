-- The copies of a block as one number: bit d stands for disk d. The disks of a number are `disks_of` of the crate mask.
--     mask_of         the number of some disks
use Rattle.std.specs.Prelude.{ℕ, ◌+◌, ◌^◌, List, [], ◌∷◌}

-- the sum of a power of two for each disk
unfoldable pub mask_of : List ℕ → ℕ
mask_of [] = 0
mask_of (d ∷ ds) = 2 ^ d + mask_of ds
