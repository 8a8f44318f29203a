-- One call in the shelf's stream: 1 tenancy (rent); 2 length, sheet (settings); 3 room, length, sheet (request); 4 tenancy (return);
-- 5 block, disk, length, sheet (why).
--     Asked        what a call asks
--     asked        one call from the start of what has been read
--     asked_by     what each call asks
--     Framed       the promise: the answer, and that its sheet lies within what has been read and ends with the call
use Rattle.std.specs.Prelude.{ℕ, ◌+◌, ◌≤◌, ◌≡◌, List, Result, Ok, Err, eqb}
use Rattle.basics.specs.Limits.{request_most}
use Rattle.basics.specs.Choice.{pick}
use Rattle.field.specs.declared.Fault.{Fault}
use Rattle.field.specs.Field.{number, inside}
use Rattle.field.specs.Told.{told_by}
use Rattle.field.specs.Sheet.{Out, got, refused, unplaced, Parser, ◌>>=◌, pure}
use Rattle.stream.specs.declared.Call.{Call}
use Rattle.stream.specs.declared.Call.TheVariants.{Rent, Settings, Request, Return, Why}
use Rattle.stream.specs.declared.Span.{Span}
use Rattle.stream.specs.Frame.{sheet, at_span, Within}

-- the buffer that a call may lend for a plan
abbrev pub room_most : ℕ
room_most = 4096

-- the longest call: its number, a block and a disk of five bytes, a length of two, and the longest sheet
abbrev pub call_most : ℕ
call_most = 1 + 5 + 5 + 2 + request_most

pub data Asked : Type 0 where
  rents : ℕ → Asked
  sets : List ℕ → Asked
  requests : ℕ → List ℕ → Asked
  returns : ℕ → Asked
  whys : ℕ → ℕ → List ℕ → Asked

-- 1 and 4: a tenancy
unfoldable pub of_tenancy : (ℕ → Asked) → Parser Asked
of_tenancy ask = do
  t ← number
  pure (ask t)

-- 2: a length and a sheet
unfoldable pub of_settings : Parser Asked
of_settings = do
  s ← sheet
  pure (sets s)

-- 3: the length of the lent buffer, 6 above 4,096; a length and a sheet
unfoldable pub of_request : Parser Asked
of_request = do
  room ← inside 0 room_most 6
  s ← sheet
  pure (requests room s)

-- 5: a block and a disk, any numbers; a length and a sheet
unfoldable pub of_why : Parser Asked
of_why = do
  b ← number
  d ← number
  s ← sheet
  pure (whys b d s)

-- 3 where the call is none of the five, at its own number: a call stands at the start of what has been read
unfoldable pub none : Parser Asked
none s at = refused (unplaced 3)

-- what follows the call's number
unfoldable pub behind : ℕ → Parser Asked
behind c =
    pick (eqb c 1) (of_tenancy rents) (pick (eqb c 2) of_settings (pick (eqb c 3) of_request
    (pick (eqb c 4) (of_tenancy returns) (pick (eqb c 5) of_why none))))

-- one call; 1 where the bytes end before it or inside it, so that more bytes may complete it
unfoldable pub asked : Parser Asked
asked = do
  c ← number
  behind c

-- what a call asks
abbrev pub asked_by : List ℕ → Call → Asked
asked_by s (Rent t) = rents t
asked_by s (Settings w) = sets (at_span s w)
asked_by s (Request room w) = requests room (at_span s w)
asked_by s (Return t) = returns t
asked_by s (Why b d w) = whys b d (at_span s w)

-- what is asked and the place after the call, or a refusal
abbrev pub told_call : List ℕ → Result (Call × ℕ) Fault → Out Asked
told_call s = told_by (λ r. got (asked_by s r.0) r.1)

-- a sheet lies within what has been read, and the call ends with it
abbrev pub EndsAt : List ℕ → Span → ℕ → Type 0
EndsAt s w e = Within s w.from w.to × (w.to ≡ e)

-- so does the sheet of a call, and a room is at most 4,096
abbrev pub Holds : List ℕ → Call → ℕ → Type 0
Holds s (Rent t) e = Unit
Holds s (Settings w) e = EndsAt s w e
Holds s (Request room w) e = EndsAt s w e × (room ≤ room_most)
Holds s (Return t) e = Unit
Holds s (Why b d w) e = EndsAt s w e

abbrev pub Held : List ℕ → Result (Call × ℕ) Fault → Type 0
Held s (Ok r) = Holds s r.0 r.1
Held s (Err f) = Unit

pub record Framed (s : List ℕ) (o : Out Asked) (r : Result (Call × ℕ) Fault) : Type 0 where
  pub answer : told_call s r ≡ o
  pub held : Held s r
