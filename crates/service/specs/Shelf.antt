-- One turn of the shelf: what stands next in the bytes that have been read, its line, and the shelf afterwards.
--     Due, due            what stands next: the unit's number, and then its calls
--     opened, unit_of     whether the unit's number was read; the unit, a new one until then
--     call_of, line_of      the call to the unit; the line of its reply
--     Serves              what is due is done: its line, and the shelf afterwards
--     last_line            the line where nothing whole stands there and nothing follows
--     Comes, Turned       what a turn comes to; the promise: its line stands in the buffer
use Rattle.std.specs.Prelude.{ℕ, Bool, true, false, ◌&&◌, not, ◌≡◌, List, [], Option, None, Some, eqb, length, take, replicate}
use Rattle.basics.specs.Choice.{pick}
use Rattle.field.specs.Field.{number}
use Rattle.field.specs.Sheet.{Note, Out, got, refused, Parser, ◌>>=◌, pure}
use Rattle.unit.specs.declared.Unit.{Unit}
use Rattle.hire.specs.Calls.{Call, renting, setting, asking, returning, explaining, Reply, said, planned, explained, Does}
use Rattle.unit.specs.Life.{accepted, refused as denied}
use Rattle.unit.specs.Unit.{new_unit}
use Rattle.line.specs.declared.Word.TheVariants.{Rented, Set, Returned, Reason}
use Rattle.line.specs.Line.{spoken, refused_at_text, stopped_text, sheet_line}
use Rattle.line.specs.Printed.{Printed}
use Rattle.stream.specs.Call.{Asked, rents, sets, requests, returns, whys, asked}
use Rattle.reason.specs.Reason.{numbered, timed}
use Rattle.service.specs.declared.Next.{Next}
use Rattle.service.specs.declared.Next.TheVariants.{Served, Wants, Done}
use Rattle.service.specs.declared.Shelf.{Shelf}
use Rattle.service.specs.declared.Turn.{Turn}

pub data Due : Type 0 where
  opens : ℕ → Due
  asks : Asked → Due

-- a call once the unit's number was read
unfoldable pub due : Bool → Parser Due
due true = do
  a ← asked
  pure (asks a)
due false = do
  n ← number
  pure (opens n)

-- a shelf of which nothing was read, and one whose unit has its number
abbrev pub closed : Shelf
closed = record { unit = None }

abbrev pub shelf_of : Unit → Shelf
shelf_of u = record { unit = Some u }

-- whether the unit's number was read
abbrev pub is_there : Option Unit → Bool
is_there None = false
is_there (Some u) = true

abbrev pub opened : Shelf → Bool
opened sh = is_there sh.unit

-- the unit; before its number was read, a new one
abbrev pub or_new : Option Unit → Unit
or_new None = new_unit 0
or_new (Some u) = u

abbrev pub unit_of : Shelf → Unit
unit_of sh = or_new sh.unit

-- for a plan so many bytes are lent
unfoldable pub call_of : Asked → Call
call_of (rents t) = renting t
call_of (sets s) = setting s
call_of (requests room s) = asking s (replicate room 0)
call_of (returns t) = returning t
call_of (whys b d s) = explaining s b d

-- the line of a call that was accepted; a request's is its plan, a question's its reason
unfoldable pub accepted_line : Asked → List ℕ
accepted_line (rents t) = spoken Rented
accepted_line (sets s) = spoken Set
accepted_line (requests room s) = []
accepted_line (returns t) = spoken Returned
accepted_line (whys b d s) = []

-- a word, the plan sheet in hex, the reason with its time, or the refusal with its place
unfoldable pub line_of : Asked → Reply → List ℕ
line_of a (said accepted) = accepted_line a
line_of a (said (denied n)) = refused_at_text n.number n.place
line_of a (planned (got x n) bytes) = sheet_line (take n bytes)
line_of a (planned (refused n) bytes) = refused_at_text n.number n.place
line_of a (explained (got r e)) = spoken (Reason (numbered r) (timed r))
line_of a (explained (refused n)) = refused_at_text n.number n.place

-- the unit's number has no line
unfoldable pub Serves : Shelf → Due → List ℕ → Shelf → Type 0
Serves sh (opens n) line after = (line ≡ []) × (after ≡ shelf_of (new_unit n))
Serves sh (asks a) line after = (r : Reply) × (u : Unit) × Does (unit_of sh) (call_of a) r u × (line ≡ line_of a r) × (after ≡ shelf_of u)

-- none where the input ends between two calls; else the stream is damaged, by 1 where it is not whole
unfoldable pub last_line : Bool → List ℕ → Note → List ℕ
last_line is_open s n = pick (is_open && eqb (length s) 0) [] (stopped_text n.number)

-- what was refused with 1 waits for more bytes, unless the input has ended
unfoldable pub waits : Bool → Note → Bool
waits ended n = eqb n.number 1 && not ended

unfoldable pub Comes : Shelf → List ℕ → Bool → Out Due → Next → ℕ → List ℕ → Shelf → Type 0
Comes sh s ended (got d e) next used line after = (next ≡ Served) × (used ≡ e) × Serves sh d line after
Comes sh s ended (refused n) next used line after =
    (next ≡ pick (waits ended n) Wants Done) × (used ≡ 0) × (line ≡ pick (waits ended n) [] (last_line (opened sh) s n)) × (after ≡ sh)

-- the line stands at the start of the buffer, all else as it was
pub record Turned (sh : Shelf) (s : List ℕ) (ended : Bool) (o : Out Due) (out : List ℕ) (r : Turn) (after : List ℕ) : Type 0 where
  pub line : List ℕ
  pub comes : Comes sh s ended o r.next r.used line r.shelf
  pub printed : Printed line out r.length after
