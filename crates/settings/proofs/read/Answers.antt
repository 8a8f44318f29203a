-- A sheet is its heading, then its rows and its end.
use mathlib.Core.Path.{sym, ap, ◌∙◌}
use Rattle.basics.proofs.Question.{passed_on}
use Rattle.field.specs.Sheet.{got}
use Rattle.field.specs.Told.{told_by}
use Rattle.settings.proofs.Accepted.{heading_disks}
use Rattle.settings.proofs.Reading.{read_told, read_stops}
use Rattle.settings.proofs.read.Goals as goal

pub returns-in_err-head : goal.returns-in_err-head
returns-in_err-head c =
    ap (told_by (λ t. got t _)) (passed_on c.from_residual.ensures) ∙ sym (read_stops _ _ _ (sym c.in_err-head.ensures))

pub body-requires : goal.body-requires
body-requires c = (heading_disks _ _ _ _ _ _ (sym c.in_ok-head.ensures)).1

pub returns : goal.returns
returns c = read_told _ _ _ (sym c.in_ok-head.ensures) c.body.ensures
