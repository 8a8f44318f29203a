-- Each return is one law of `end`.
use mathlib.Core.Path.{sym, ◌∙◌}
use Rattle.field.proofs.Readers.{refused_as, end_here, end_extra}
use Rattle.field.proofs.end.Goals as goal

pub returns-then-at-s : goal.returns-then-at-s
returns-then-at-s c = refused_as c.at.ensures ∙ sym (end_extra _ _ c.if-at-s.true)

pub returns : goal.returns
returns c = sym (end_here _ _ c.if-at-s.false)
