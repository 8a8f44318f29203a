-- `serve`: a call, once the unit's number was read; before that, the number; else nothing whole is there.
use mathlib.Core.Path.{sym, ◌∙◌}
use Rattle.field.specs.Sheet.{pure}
use Rattle.field.proofs.Sheet.{next, stops}
use Rattle.service.specs.Shelf.{due}
use Rattle.service.proofs.Serving.{due_as, turned_same, turned_opened, turned_answered}
use Rattle.service.proofs.serve.Goals as goal

pub returns-in-Ok : goal.returns-in-Ok
unfolding due pure
returns-in-Ok c =
    turned_answered _ _ _ (due_as _ _ c.in-Some.is ∙ next _ _ _ _ (sym c.in-Ok.ensures.answer)) c.in-Some.is c.answer.ensures

pub returns-in-Err : goal.returns-in-Err
unfolding due
returns-in-Err c = turned_same (due_as _ _ c.in-Some.is ∙ stops _ _ _ _ (sym c.in-Err.ensures.answer)) c.unserved.ensures

pub returns-in-Ok-number : goal.returns-in-Ok-number
unfolding due pure
returns-in-Ok-number c =
    turned_opened _ _ _ _ (due_as _ _ c.in-None.is ∙ next _ _ _ _ (sym c.in-Ok-number.ensures)) c.new.ensures

pub returns-in-Err-number : goal.returns-in-Err-number
unfolding due
returns-in-Err-number c =
    turned_same (due_as _ _ c.in-None.is ∙ stops _ _ _ _ (sym c.in-Err-number.ensures)) c.unserved-in-Err-number.ensures
