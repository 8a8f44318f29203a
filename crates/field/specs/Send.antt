-- What a writer of sheets leaves in a lent buffer.
--     Draft       a sheet's bytes, or why there is none
--     Sent        what is answered, and the buffer afterwards
use Rattle.std.specs.Prelude.{ℕ, ◌≡◌, List, Result, length, leb}
use Rattle.basics.specs.Choice.{pick}
use Rattle.field.specs.declared.Fault.{Fault}
use Rattle.basics.specs.Buffer.{over}
use Rattle.field.specs.Sheet.{Note, Out, got, refused, note}
use Rattle.field.specs.Told.{told_by}

pub data Draft : Type 0 where
  sheet : List ℕ → Draft
  none : Note → Draft

-- the length written, or a refusal
abbrev pub told_written : Result ℕ Fault → Out Unit
told_written = told_by (got tt)

-- a sheet that is longer than the buffer is refused with 11, last of all; that tells its length
unfoldable pub answer_to : Draft → List ℕ → Out Unit
answer_to (sheet bs) out = pick (leb (length bs) (length out)) (got tt (length bs)) (refused (note 11 (length bs)))
answer_to (none e) out = refused e

-- the sheet stands at the start of the buffer; on refusal nothing has changed
unfoldable pub left_by : Draft → List ℕ → List ℕ
left_by (sheet bs) out = pick (leb (length bs) (length out)) (over bs out) out
left_by (none e) out = out

pub record Sent (d : Draft) (out : List ℕ) (r : Result ℕ Fault) (after : List ℕ) : Type 0 where
  pub answer : told_written r ≡ answer_to d out
  pub held : after ≡ left_by d out
