-- What each answer of the plan reader says, in the paper's numbers.
use Rattle.std.specs.Prelude.{ℕ, Result}
use Rattle.field.specs.declared.Fault.{Fault}
use Rattle.field.specs.Sheet.{Out, got}
use Rattle.field.specs.Told.{told_by}
use Rattle.plan.specs.declared.Head.{Head}

-- Q, R and m of a sheet of so many bytes, or a refusal
abbrev pub told_plan : ℕ → Result Head Fault → Out Head
told_plan bytes = told_by (λ h. got h bytes)
