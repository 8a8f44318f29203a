-- The bytes of a read request, and when there are none.
--     block_bytes, heading_bytes, request_bytes     a block, the fields before the blocks, the whole request
--     aged              a request of kind 2 has no age, one of kind 4 any
--     headed            the fields before the blocks can be sent, or the first that can't is refused
--     checked           every block has copies that can be sent, or the first that has not is refused
--     request_draft      what the writer is to write
use Rattle.std.specs.Prelude.{ℕ, ◌^◌, Bool, not, ◌&&◌, List, [], ◌∷◌, ◌++◌, length, eqb, leb, ltb}
use Rattle.basics.specs.Limits.{disks_most, blocks_most, copies_most}
use Rattle.basics.specs.Choice.{pick}
use Rattle.basics.specs.Lists.{listed}
use Rattle.number.specs.Encode.{encode}
use Rattle.mask.specs.Count.{members}
use Rattle.field.specs.Put.{spell_all, opening_bytes, field_if}
use Rattle.field.specs.Send.{Draft, sheet, none}
use Rattle.field.specs.Sheet.{unplaced}
use Rattle.mask.specs.Disks.{disks_of}
use Rattle.request.specs.Request.{kinds}

-- the copy count and the disks, rising
unfoldable pub block_bytes : ℕ → List ℕ
block_bytes m = encode (length (disks_of m)) ++ spell_all encode (disks_of m)

-- the age, a field of kind 4 alone
unfoldable pub age_bytes : ℕ → ℕ → List ℕ
age_bytes k a = field_if (eqb k 4) a

-- kind, unit, tenancy, age, Q
unfoldable pub heading_bytes : ℕ → ℕ → ℕ → ℕ → ℕ → List ℕ
heading_bytes k unit t a q = opening_bytes k unit t ++ (age_bytes k a ++ encode q)

-- the heading, then block after block
unfoldable pub request_bytes : ℕ → ℕ → ℕ → ℕ → List ℕ → List ℕ
request_bytes k unit t a ms = heading_bytes k unit t a (length ms) ++ spell_all block_bytes ms

-- whether a request of this kind can have this age
unfoldable pub aged : ℕ → ℕ → Bool
aged k a = not (eqb k 2 && ltb 0 a)

-- another kind than 2 and 4: 3; tenancy 0: 6; kind 2 with an age: 15; N, then Q out of range: 6
unfoldable pub headed : ℕ → ℕ → ℕ → ℕ → ℕ → Draft → Draft
headed k t a n q d =
    pick (listed kinds k)
    (pick (eqb t 0) (none (unplaced 6))
    (pick (aged k a)
    (pick (eqb n 0) (none (unplaced 6))
    (pick (ltb disks_most n) (none (unplaced 6))
    (pick (ltb blocks_most q) (none (unplaced 6)) d)))
    (none (unplaced 15))))
    (none (unplaced 3))

-- no bits: 7; more than 8 bits: 6; then a bit at N or above: 16
unfoldable pub checked : ℕ → List ℕ → Draft → Draft
checked n [] d = d
checked n (m ∷ ms) d =
    pick (eqb m 0) (none (unplaced 7))
    (pick (ltb copies_most (members disks_most m)) (none (unplaced 6))
    (pick (leb (2 ^ n) m) (none (unplaced 16))
    (checked n ms d)))

-- first the heading, then block by block
unfoldable pub request_draft : ℕ → ℕ → ℕ → ℕ → ℕ → List ℕ → Draft
request_draft k unit t a n ms = headed k t a n (length ms) (checked n ms (sheet (request_bytes k unit t a ms)))
