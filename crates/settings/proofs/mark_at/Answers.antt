-- Of kind 6 the field, of any other kind 0.
use mathlib.Core.Logic.{⊎_elim}
use mathlib.Core.Path.{refl}
use Rattle.basics.specs.Choice.{pick}
use Rattle.field.specs.Sheet.{pure}
use Rattle.settings.specs.Row.{mark}
use Rattle.settings.proofs.mark_at.Goals as goal

pub returns-in-Sum : goal.returns-in-Sum
unfolding mark pick pure
returns-in-Sum c = ⊎_elim (λ e. rw e refl) (λ e. rw e refl) c.in-Sum.is

pub returns-in-Marked : goal.returns-in-Marked
unfolding mark pick
returns-in-Marked c = rw c.in-Marked.is c.inside.ensures
