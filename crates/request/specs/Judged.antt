-- What is promised of the fields before the blocks: they can be sent, or the first that can't is refused.
use Rattle.std.specs.Prelude.{ℕ, ◌≡◌, Result, Ok, Err}
use Rattle.field.specs.declared.Fault.{Fault}
use Rattle.field.specs.Refusal.{note_of}
use Rattle.field.specs.Send.{Draft, none}
use Rattle.request.specs.Draft.{headed}

-- whatever follows them
abbrev pub Judged : ℕ → ℕ → ℕ → ℕ → ℕ → Result Unit Fault → Type 0
Judged k t a n q (Ok _) = (d : Draft) → headed k t a n q d ≡ d
Judged k t a n q (Err e) = (d : Draft) → headed k t a n q d ≡ none (note_of e)
