-- The disks of a mask as a list.
--     disks_below    those below a number, rising
--     disks_of       all, rising
use Rattle.std.specs.Prelude.{ℕ, zero, suc, List, [], ◌∷◌, ◌++◌}
use Rattle.basics.specs.Limits.{disks_most}
use Rattle.basics.specs.Choice.{pick}
use Rattle.mask.specs.Has.{has}

-- disk by disk: it is in the list where it is in the mask
unfoldable pub disks_below : ℕ → ℕ → List ℕ
disks_below zero m = []
disks_below (suc d) m = disks_below d m ++ pick (has m d) (d ∷ []) []

-- a mask has a bit for each of 64 disks
unfoldable pub disks_of : ℕ → List ℕ
disks_of m = disks_below disks_most m
