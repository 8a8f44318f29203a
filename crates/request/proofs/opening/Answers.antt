-- `opening` meets its contract, by the laws of the opening: one for each part that can stop it.
use mathlib.Core.Path.{sym, ap, ◌∙◌}
use Rattle.basics.proofs.Question.{passed_on}
use Rattle.field.specs.Told.{told}
use Rattle.field.proofs.Readers.{refused_as}
use Rattle.request.proofs.Reading.{opening_stops, opening_unset, opening_known}
use Rattle.request.proofs.opening.Goals as goal

pub returns-in_err-kind : goal.returns-in_err-kind
returns-in_err-kind c = ap told (passed_on c.from_residual.ensures) ∙ sym (opening_stops _ _ _ _ (sym c.in_err-kind.ensures))

pub returns-then-disks-eq0 : goal.returns-then-disks-eq0
returns-then-disks-eq0 c = refused_as c.at.ensures ∙ sym (opening_unset _ _ _ _ (sym c.in_ok-kind.ensures) c.if-disks-eq0.true)

pub returns : goal.returns
returns c = sym (opening_known _ _ _ _ (sym c.in_ok-kind.ensures) c.if-disks-eq0.false)
