-- `sheet`: the length is judged before its bytes are due; the part lies within the input.
use native.Mathlib.Omega.{arith}
use mathlib.Core.Path.{sym, ◌∙◌}
use Rattle.basics.proofs.Question.{passed_on}
use Rattle.field.proofs.Readers.{refused_as}
use Rattle.stream.proofs.Framing.{length_within, sheet_past, sheet_spans, sheet_stops, spans_refused}
use Rattle.stream.proofs.sheet.Goals as goal

pub returns-in_err-size : goal.returns-in_err-size
returns-in_err-size c = spans_refused _ (passed_on c.from_residual.ensures) (sheet_stops _ _ (sym c.in_err-size.ensures))

pub overflow_sub-s : goal.overflow_sub-s
overflow_sub-s c = length_within _ _ _ _ (sym c.in_ok-size.ensures)

pub returns-then-s-from : goal.returns-then-s-from
returns-then-s-from c = sheet_past _ _ _ _ (sym c.in_ok-size.ensures) c.if-s-from.true ∙ sym (refused_as c.at.ensures)

pub overflow_add-result : goal.overflow_add-result
overflow_add-result c = omega (arith, length_within _ _ _ _ (sym c.in_ok-size.ensures))

pub returns : goal.returns
returns c = sheet_spans _ _ _ _ (sym c.in_ok-size.ensures) c.if-s-from.false
