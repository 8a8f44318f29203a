-- What the reader of settings said is what `settled` takes.
use mathlib.Core.Path.{sym, ◌∙◌}
use Rattle.unit.proofs.Lives.{set_found, settled_accepted, settled_refused}
use Rattle.unit.proofs.Unit.settings.Goals as goal

pub returns-in-Ok : goal.returns-in-Ok
returns-in-Ok c =
    sym (set_found _ _ _ c.tenancy.ensures ∙ settled_accepted _ _ _ _ c.read.ensures c.in-Ok.is)

pub returns-in-Err : goal.returns-in-Err
returns-in-Err c =
    sym (set_found _ _ _ c.tenancy.ensures ∙ settled_refused _ _ _ _ c.read.ensures _ c.in-Err.is)
