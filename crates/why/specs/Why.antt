-- Why a plan of a unit reads a block from a disk, or doesn't: a call of the unit, which does not change.
--     within       the request's refusal first; then 16 for a block at Q or above, or a disk at N or above
--     Explains     what is answered: a refusal, or the reason that is true of the plan of the case
--     told_why      what the answer says
--     Explained    the promise: the answer, and the unit as it was
use Rattle.std.specs.Prelude.{ℕ, ◌&&◌, ◌≡◌, List, Result, ltb}
use Rattle.basics.specs.Choice.{pick}
use Rattle.field.specs.declared.Fault.{Fault}
use Rattle.field.specs.Sheet.{unplaced, Out, got, refused}
use Rattle.field.specs.Told.{told_by}
use Rattle.model.specs.Case.{Case}
use Rattle.reason.specs.Reason.{Reasons}
use Rattle.reason.specs.declared.Reason.{Reason}
use Rattle.unit.specs.declared.Unit.{Unit}
use Rattle.unit.specs.Request.{asked_of}
use Rattle.why.specs.declared.Reasoned.{Reasoned}

unfoldable pub within : Out Case → ℕ → ℕ → Out Case
within (got m e) b d = pick (ltb b m.blocks && ltb d m.disks) (got m e) (refused (unplaced 16))
within (refused n) b d = refused n

unfoldable pub Explains : Out Case → ℕ → ℕ → Out Reason → Type 0
Explains (refused n) b d x = x ≡ refused n
Explains (got m e) b d x = (r : Reason) × Reasons m b d r × (x ≡ got r 0)

abbrev pub told_why : Result Reason Fault → Out Reason
told_why = told_by (λ r. got r 0)

-- the unit does not change
pub record Explained (u : Unit) (s : List ℕ) (b d : ℕ) (r : Reasoned) : Type 0 where
  pub same : r.unit ≡ u
  pub says : Explains (within (asked_of u s) b d) b d (told_why r.answer)
