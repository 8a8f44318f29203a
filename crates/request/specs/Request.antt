-- A read request: kind 2 or 4, unit, tenancy, with kind 4 the age of the settings, block count Q, then for each block the copy count k and
-- k disk numbers, rising.
--     kinds            the kinds of sheets that are read requests
--     Said             what a request says: its kind, the age, the numbers of copies of its blocks
--     last_disk         the last disk of a unit that has N disks
--     used             whether some disk of a list is in use
--     block            one block, as the number of its copies
--     opening          kind, unit, tenancy, and that there are settings: the kind
--     age              the age, of kind 4 alone
--     heading          the fields before the blocks: kind, age and Q
--     body             Q blocks
--     request_sheet     a whole read request
use Rattle.std.specs.Prelude.{ℕ, ◌-◌, Bool, false, not, ◌||◌, List, [], ◌∷◌, eqb, ltb}
use Rattle.basics.specs.Limits.{disks_most, blocks_most, copies_most}
use Rattle.basics.specs.Choice.{pick}
use Rattle.field.specs.Sheet.{Parser, note, ◌>>=◌, ◌>>◌, pure, here, require, times}
use Rattle.field.specs.Field.{number, between, opening as opened, inside, ascending, whole}
use Rattle.request.specs.declared.Head.{Head}
use Rattle.request.specs.Disks.{mask_of}

abbrev pub kinds : List ℕ
kinds = 2 ∷ 4 ∷ []

pub record Said : Type 0 where
  pub kind : ℕ
  pub age : ℕ
  pub copies : List ℕ

-- disks are 0 to N - 1; of an N above 64 no more than 64 count, since a number of copies has a bit for each
unfoldable pub last_disk : ℕ → ℕ
last_disk n = pick (ltb n disks_most) (n - 1) (disks_most - 1)

-- where some disks are out
unfoldable pub used : (ℕ → Bool) → List ℕ → Bool
used out [] = false
used out (d ∷ ds) = not (out d) || used out ds

-- k from 1 to 8, then k disks up to the last one, rising; k = 0 is 7. Where all of them are out, 20 at the last of them: a disk's number is
-- one byte
unfoldable pub block : ℕ → (ℕ → Bool) → Parser ℕ
block high out = do
  k ← between 1 copies_most 7 6
  ds ← ascending k 0 high
  next ← here
  require (used out ds) (note 20 (next - 1))
  pure (mask_of ds)

-- the kind, the unit, its tenancy (no tenancy is 0), settings (N = 0 means none yet: 10 at the byte after the tenancy)
unfoldable pub opening : ℕ → ℕ → ℕ → Parser ℕ
opening unit t n = do
  k ← opened kinds unit t
  at ← here
  require (ltb 0 n) (note 10 at)
  pure k

-- the microseconds since the settings were measured, any number: a field of kind 4 alone, kind 2 means 0
unfoldable pub age : ℕ → Parser ℕ
age k = pick (eqb k 4) number (pure 0)

-- that, the age, Q
unfoldable pub heading : ℕ → ℕ → ℕ → Parser Head
heading unit t n = do
  k ← opening unit t n
  a ← age k
  q ← inside 0 blocks_most 6
  pure (record { kind = k; age = a; blocks = q })

-- the blocks of a heading, on disks up to the last one, of which some are out
unfoldable pub body : Head → ℕ → (ℕ → Bool) → Parser Said
body h high out = do
  ms ← times h.blocks (block high out)
  pure (record { kind = h.kind; age = h.age; copies = ms })

-- the heading, Q blocks, and the end of the sheet; the copies are given as they are named, disks that are out among them
unfoldable pub request_sheet : ℕ → ℕ → ℕ → (ℕ → Bool) → Parser Said
request_sheet unit t n out = whole do
  h ← heading unit t n
  body h (last_disk n) out
