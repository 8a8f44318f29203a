-- The blocks whose copies all lie on some disks.
--     Inside, inside     every disk of one mask is in another; the same as a test
--     among              all copies of a block are in a mask
use Rattle.std.specs.Prelude.{ℕ, ◌≡◌, Bool, true, not, ◌&&◌, List, get_or}
use Rattle.basics.specs.Limits.{disks_most}
use Rattle.mask.specs.Has.{has}
use Rattle.basics.specs.Count.{any}

-- every disk of m is in x
abbrev pub Inside : ℕ → ℕ → Type 0
Inside m x = (d : ℕ) → has m d ≡ true → has x d ≡ true

-- whether every disk of m is in x
unfoldable pub inside : ℕ → ℕ → Bool
inside m x = not (any disks_most (λ d. has m d && not (has x d)))

-- whether all copies of block b are in x
abbrev pub among : List ℕ → ℕ → ℕ → Bool
among masks x b = inside (get_or masks b 0) x
