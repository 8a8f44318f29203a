-- What each answer says, in the paper's numbers.
use Rattle.std.specs.Prelude.{Result, Ok, Err}
use Rattle.field.specs.Refusal.{note_of}
use Rattle.field.specs.declared.Fault.{Fault}
use Rattle.unit.specs.declared.Done.{Done}
use Rattle.unit.specs.Life.{Verdict, accepted, refused, Outcome}

-- accepted, or a refusal
abbrev pub told_verdict : Result Unit Fault → Verdict
told_verdict (Ok a) = accepted
told_verdict (Err f) = refused (note_of f)

-- the verdict, and the unit afterwards
abbrev pub told : Done → Outcome
told d = record { verdict = told_verdict d.answer; unit = d.unit }
