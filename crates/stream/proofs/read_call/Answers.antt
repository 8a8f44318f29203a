-- `read_call`: the call's number, and what follows it.
use mathlib.Core.Path.{sym, ◌∙◌}
use Rattle.basics.proofs.Question.{passed_on}
use Rattle.field.proofs.Sheet.{next, stops}
use Rattle.stream.specs.Call.{asked}
use Rattle.stream.proofs.Framing.{framed_refused}
use Rattle.stream.proofs.read_call.Goals as goal

pub returns-in_err-call : goal.returns-in_err-call
unfolding asked
returns-in_err-call c = framed_refused (passed_on c.from_residual.ensures) (stops _ _ _ _ (sym c.in_err-call.ensures))

pub returns : goal.returns
unfolding asked
returns c = record { answer = c.follow.ensures.answer ∙ sym (next _ _ _ _ (sym c.in_ok-call.ensures)); held = c.follow.ensures.held }
