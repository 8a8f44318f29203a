-- Sheets framed in a stream of bytes, all numbers in sheet form.
use Rattle.std.specs.Prelude.{ℕ, ◌+◌, ◌-◌, ◌≤◌, ◌≡◌, List, Result, Ok, Err, leb, length, take, drop}
use Rattle.basics.specs.Limits.{request_most}
use Rattle.basics.specs.Choice.{pick}
use Rattle.field.specs.declared.Fault.{Fault}
use Rattle.field.specs.Field.{inside}
use Rattle.field.specs.Refusal.{note_of}
use Rattle.field.specs.Sheet.{Out, got, refused, note, Parser, ◌>>=◌}
use Rattle.stream.specs.declared.Span.{Span}

-- so many bytes, or 1 where they run past the input
unfoldable pub bytes : ℕ → Parser (List ℕ)
bytes n s at = pick (leb (at + n) (length s)) (got (take n (drop at s)) (at + n)) (refused (note 1 (length s)))

-- the length of a sheet, 6 above 9,234, and that sheet
unfoldable pub sheet : Parser (List ℕ)
sheet = do
  n ← inside 0 request_most 6
  bytes n

-- the bytes from one place to another
abbrev pub part : List ℕ → ℕ → ℕ → List ℕ
part s from to = take (to - from) (drop from s)

-- a part that lies within the input
pub record Within (s : List ℕ) (from to : ℕ) : Type 0 where
  pub order : from ≤ to
  pub end : to ≤ length s

-- the bytes of a sheet that stands there
abbrev pub at_span : List ℕ → Span → List ℕ
at_span s w = part s w.from w.to

-- where a sheet stands, or why there is none
abbrev pub Spans : List ℕ → Out (List ℕ) → Result Span Fault → Type 0
Spans s o (Ok w) = (o ≡ got (at_span s w) w.to) × Within s w.from w.to
Spans s o (Err f) = o ≡ refused (note_of f)
