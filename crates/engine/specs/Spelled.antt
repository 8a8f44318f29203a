-- The case that lent slices spell: a mask of copies for each block, a cost and a start for each disk.
use Rattle.std.specs.Prelude.{ℕ, ◌≤◌, ◌≡◌, List, get_or, length}
use Rattle.basics.specs.Limits.{blocks_most}
use Rattle.model.specs.Case.{Case}
use Rattle.places.specs.Table.{masked_case, Table, Copies}

-- as many blocks as masks, as many disks as costs
abbrev pub spelled : List ℕ → List ℕ → List ℕ → Case
spelled copies costs starts = masked_case (length costs) (length copies) copies costs starts

-- document 01's ranges
pub record Spellable (copies costs starts : List ℕ) : Type 0 where
  pub blocks : length copies ≤ blocks_most
  pub table : Table (length costs) costs starts
  pub copied : Copies (length costs) (length copies) copies

-- an array holds the copies, and 0 beyond
pub record Loaded (copies masks : List ℕ) : Type 0 where
  pub long : length masks ≡ blocks_most
  pub same : (b : ℕ) → get_or masks b 0 ≡ get_or copies b 0

-- the same ranges, and buffers with room for every block
pub record Ready (copies costs starts disks short : List ℕ) : Type 0 where
  pub spellable : Spellable copies costs starts
  pub disks_room : length copies ≤ length disks
  pub short_room : length copies ≤ length short
