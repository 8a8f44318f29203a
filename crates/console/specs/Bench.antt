-- The bench's input and its line.
--     accept                 the unit that a call hands back, or its refusal; nothing is read
--     bench_input             all of the input: unit and tenancy, and then
--     hire, apply, close    the rent; the settings sheet; the request sheet and the end of the input
--     answer_line, Asks, Line the line of an answer; of a request; of an input
--     Tells                  the promise: that line stands in the buffer
use Rattle.std.specs.Prelude.{ℕ, ◌+◌, ◌≡◌, List}
use Rattle.basics.specs.Limits.{request_most}
use Rattle.field.specs.Field.{number, end}
use Rattle.field.specs.Sheet.{Out, got, refused, Parser, ◌>>=◌, ◌>>◌, pure}
use Rattle.plan.specs.Plan.{Plan}
use Rattle.planner.specs.Asked.{Plans}
use Rattle.unit.specs.declared.Unit.{Unit}
use Rattle.unit.specs.Life.{Verdict, accepted, Outcome, rent, set}
use Rattle.unit.specs.Life.{refused as denied}
use Rattle.unit.specs.Request.{asked_of}
use Rattle.unit.specs.Unit.{new_unit, tenancy_of}
use Rattle.stream.specs.Frame.{sheet}
use Rattle.line.specs.Line.{refused_text, plan_line}
use Rattle.line.specs.Printed.{Printed}

-- the longest input: unit and tenancy, and twice a length and a sheet
abbrev pub input_most : ℕ
input_most = 5 + 5 + (2 + request_most) + (2 + request_most)

-- a unit with its settings, and the request's sheet
pub record Ready : Type 0 where
  pub unit : Unit
  pub request : List ℕ

unfoldable pub judge : Verdict → Unit → ℕ → Out Unit
judge accepted u at = got u at
judge (denied n) u at = refused n

unfoldable pub accept : Outcome → Parser Unit
accept o s at = judge o.verdict o.unit at

-- the request's sheet; input after it is 9, before that sheet is applied
unfoldable pub close : Unit → Parser Ready
close u = do
  s ← sheet
  end
  pure (record { unit = u; request = s })

-- the settings are applied before the second length is read
unfoldable pub apply : Unit → Parser Ready
apply u = do
  s ← sheet
  v ← accept (set u s)
  close v

-- a new unit is rented as soon as the tenancy is read
unfoldable pub hire : ℕ → ℕ → Parser Ready
hire n t = do
  u ← accept (rent (new_unit n) t)
  apply u

-- unit, tenancy, settings sheet, request sheet: the first refusal met stands
unfoldable pub bench_input : Parser Ready
bench_input = do
  n ← number
  t ← number
  hire n t

-- the refusal, or the plan
unfoldable pub answer_line : ℕ → ℕ → Out Plan → List ℕ
answer_line number tenancy (refused n) = refused_text n.number
answer_line number tenancy (got p e) = plan_line number tenancy p

-- the line of a unit's answer to a request
pub record Asks (u : Unit) (s line : List ℕ) : Type 0 where
  pub plan : Out Plan
  pub plans : Plans (asked_of u s) plan
  pub says : line ≡ answer_line u.number (tenancy_of u) plan

-- the line of an input: of its first refusal, or of the answer to its request
unfoldable pub Line : Out Ready → List ℕ → Type 0
Line (refused n) line = line ≡ refused_text n.number
Line (got r e) line = Asks r.unit r.request line

-- the line stands at the start of the buffer, all else as it was; its length is answered
pub record Tells (o : Out Ready) (out : List ℕ) (n : ℕ) (after : List ℕ) : Type 0 where
  pub text : List ℕ
  pub says : Line o text
  pub printed : Printed text out n after
