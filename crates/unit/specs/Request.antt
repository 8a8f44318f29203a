-- A read request to a unit.
--     asked_of     the case that a unit and a request sheet spell, or the refusal
--     Replied     what is answered, and the buffer and the unit afterwards
use Rattle.std.specs.Prelude.{◌≡◌, List, ℕ}
use Rattle.model.specs.Case.{Case}
use Rattle.field.specs.Sheet.{Out}
use Rattle.planner.specs.Asked.{asked}
use Rattle.planner.specs.Answered.{Answered}
use Rattle.unit.specs.declared.Requested.{Requested}
use Rattle.unit.specs.declared.Unit.{Unit}
use Rattle.unit.specs.Unit.{tenancy_of}

-- the request is read for this unit, its tenancy and its table
abbrev pub asked_of : Unit → List ℕ → Out Case
asked_of u s = asked u.number (tenancy_of u) u.table s

-- the unit does not change
pub record Replied (u : Unit) (s out : List ℕ) (r : Requested) (after : List ℕ) : Type 0 where
  pub same : r.unit ≡ u
  pub reply : Answered u.number (tenancy_of u) (asked_of u s) out r.answer after
