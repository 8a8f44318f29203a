-- `digit`: the two rows of the definition.
use mathlib.Core.Path.{sym}
use Rattle.line.proofs.Digits.{digit_low, digit_high}
use Rattle.line.proofs.digit.Goals as goal

pub returns-then-d-lt10 : goal.returns-then-d-lt10
returns-then-d-lt10 c = sym (digit_low _ c.if-d-lt10.true)

pub returns-else-d-lt10 : goal.returns-else-d-lt10
returns-else-d-lt10 c = sym (digit_high _ c.if-d-lt10.false)
