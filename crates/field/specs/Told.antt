-- What each answer says, in the paper's numbers.
use Rattle.std.specs.Prelude.{ℕ, Result, Ok, Err}
use Rattle.field.specs.declared.Fault.{Fault}
use Rattle.field.specs.Refusal.{note_of}
use Rattle.field.specs.Sheet.{Out, got, refused}

-- what was read or done, said in the definition's words; or the refusal
abbrev pub told_by : {A B : Type 0} → (A → Out B) → Result A Fault → Out B
told_by say (Ok a) = say a
told_by say (Err f) = refused (note_of f)

-- a value and the place after it, or the refusal
abbrev pub told : {A : Type 0} → Result (A × ℕ) Fault → Out A
told = told_by (λ r. got r.0 r.1)
