-- `word`: each word is its own line.
use Rattle.line.specs.Line.{spoken, word_rented, word_set, word_returned, word_refused, word_stopped, word_reason}
use Rattle.line.specs.Line.{refused_text, refused_at_text, stopped_text}
use mathlib.Core.Path.{ap, sym}
use Rattle.line.proofs.Adding.{writes_same}
use Rattle.line.proofs.Pen.word.Goals as goal

pub returns-in-Rented : goal.returns-in-Rented
unfolding word_rented
returns-in-Rented c = writes_same (sym (ap spoken c.in-Rented.is)) c.plain.ensures

pub returns-in-Set : goal.returns-in-Set
unfolding word_set
returns-in-Set c = writes_same (sym (ap spoken c.in-Set.is)) c.plain-in-Set.ensures

pub returns-in-Returned : goal.returns-in-Returned
unfolding word_returned
returns-in-Returned c = writes_same (sym (ap spoken c.in-Returned.is)) c.plain-in-Returned.ensures

pub returns-in-Refused : goal.returns-in-Refused
unfolding refused_text word_refused
returns-in-Refused c = writes_same (sym (ap spoken c.in-Refused.is)) c.numbered.ensures

pub returns-in-RefusedAt : goal.returns-in-RefusedAt
unfolding refused_at_text word_refused
returns-in-RefusedAt c =
    writes_same (sym (ap spoken c.in-RefusedAt.is)) c.placed.ensures

pub returns-in-Stopped : goal.returns-in-Stopped
unfolding stopped_text word_stopped
returns-in-Stopped c =
    writes_same (sym (ap spoken c.in-Stopped.is)) c.numbered-in-Stopped.ensures

pub returns-in-Reason : goal.returns-in-Reason
unfolding word_reason
returns-in-Reason c = writes_same (sym (ap spoken c.in-Reason.is)) (rw c.from.ensures at c.placed-in-Reason.ensures)
