-- What the private functions promise.
--     masked             the copies of a list of disks, with some others
--     Counted, Sized     the blocks' bytes are counted, or one is refused
use Rattle.std.specs.Prelude.{ℕ, ◌+◌, ◌*◌, ◌≤◌, ◌≡◌, List, Result, Ok, Err, length}
use Rattle.basics.specs.Limits.{blocks_most, copies_most}
use Rattle.field.specs.declared.Fault.{Fault}
use Rattle.field.specs.Put.{spell_all}
use Rattle.field.specs.Refusal.{note_of}
use Rattle.field.specs.Send.{Draft, none}
use Rattle.field.specs.Sheet.{Out, got, refused}
use Rattle.request.specs.Disks.{mask_of}
use Rattle.request.specs.Draft.{block_bytes, checked}

-- the disks that were read, put in among those of m
unfoldable pub masked : ℕ → Out (List ℕ) → Out ℕ
masked m (got ds at) = got (m + mask_of ds) at
masked m (refused e) = refused e

-- n is the number of bytes of at most 1,024 blocks, nine bytes each at the most
pub record Counted (ms : List ℕ) (n : ℕ) : Type 0 where
  pub count : length ms ≤ blocks_most
  pub bytes : n ≡ length (spell_all block_bytes ms)
  pub small : n ≤ (1 + copies_most) * length ms

-- the bytes of all blocks, where every block can be sent; else the refusal of the first that cannot
abbrev pub Sized : ℕ → List ℕ → Result ℕ Fault → Type 0
Sized n ms (Ok k) = Counted ms k × ((d : Draft) → checked n ms d ≡ d)
Sized n ms (Err e) = (d : Draft) → checked n ms d ≡ none (note_of e)
