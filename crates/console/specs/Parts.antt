-- What only the private functions promise.
--     Rented      a rented unit, of those that come from New and the calls
--     Shows       the line of whatever plan the sheet is of
--     Replies     the line of a unit's answer to a request
--     Readied     what was read of an input
use Rattle.std.specs.Prelude.{ℕ, ◌<◌, ◌≡◌, List, Result, Ok, Err}
use Rattle.field.specs.declared.Fault.{Fault}
use Rattle.field.specs.Refusal.{note_of}
use Rattle.field.specs.Sheet.{Out, got, refused}
use Rattle.plan.specs.Draft.{plan_bytes}
use Rattle.plan.specs.Plan.{Plan}
use Rattle.plan.specs.Range.{InRange}
use Rattle.unit.specs.declared.Unit.{Unit}
use Rattle.unit.specs.Sound.{Sound}
use Rattle.unit.specs.Unit.{tenancy_of}
use Rattle.stream.specs.declared.Span.{Span}
use Rattle.stream.specs.Frame.{at_span, Within}
use Rattle.line.specs.Line.{plan_line}
use Rattle.line.specs.Printed.{Printed}
use Rattle.console.specs.Bench.{Ready, Asks}

pub record Rented (u : Unit) : Type 0 where
  pub sound : Sound u
  pub tenancy : 0 < tenancy_of u

abbrev pub Shows : ℕ → ℕ → List ℕ → List ℕ → ℕ → List ℕ → Type 0
Shows unit tenancy sheet out n after =
    (p : Plan) → InRange p → 0 < tenancy → sheet ≡ plan_bytes unit tenancy p → Printed (plan_line unit tenancy p) out n after

abbrev pub Replies : Unit → List ℕ → List ℕ → ℕ → List ℕ → Type 0
Replies u request out n after = (text : List ℕ) × Asks u request text × Printed text out n after

-- a rented unit and where the request to it stands, or the refusal
abbrev pub Readied : List ℕ → Out Ready → Result (Unit × Span) Fault → Type 0
Readied s o (Ok r) = (e : ℕ) × (o ≡ got (record { unit = r.0; request = at_span s r.1 }) e) × Rented r.0 × Within s r.1.from r.1.to
Readied s o (Err f) = o ≡ refused (note_of f)
