-- One law of the reader for each field at which it may stop, and one for all that is before the rows.
use mathlib.Core.Path.{sym, ap, ◌∙◌}
use Rattle.basics.proofs.Question.{passed_on}
use Rattle.field.specs.Told.{told}
use Rattle.settings.proofs.Reading.{heading_got, heading_stops, heading_out, heading_rule}
use Rattle.field.proofs.Opened.{opening_kind}
use Rattle.settings.proofs.Rules.{kinded_ok, kinded_is}
use Rattle.settings.proofs.heading.Goals as goal

pub returns-in_err-number : goal.returns-in_err-number
returns-in_err-number c = ap told (passed_on c.from_residual.ensures) ∙ sym (heading_stops _ _ _ _ (sym c.in_err-number.ensures))

pub unwrap-kind-requires : goal.unwrap-kind-requires
unwrap-kind-requires c = kinded_ok _ _ (opening_kind _ _ _ _ _ (sym c.in_ok-number.ensures)) c.try_from.ensures

pub returns-in_err-disks : goal.returns-in_err-disks
returns-in_err-disks c =
    let number = kinded_is _ _ _ c.try_from.ensures c.unwrap-kind.ensures in
    ap told (passed_on c.from_residual-in_err-disks.ensures)
    ∙ sym (heading_out _ _ _ _ _ number (sym c.in_ok-number.ensures) (sym c.in_err-disks.ensures))

pub returns-in_err-rule : goal.returns-in_err-rule
returns-in_err-rule c =
    let number = kinded_is _ _ _ c.try_from.ensures c.unwrap-kind.ensures in
    ap told (passed_on c.from_residual-in_err-rule.ensures)
    ∙ sym (heading_rule _ _ _ _ _ number (sym c.in_ok-number.ensures) (sym c.in_ok-disks.ensures) (sym c.in_err-rule.ensures))

pub returns : goal.returns
returns c =
    let number = kinded_is _ _ _ c.try_from.ensures c.unwrap-kind.ensures in
    sym (heading_got _ _ _ _ _ number (sym c.in_ok-number.ensures) (sym c.in_ok-disks.ensures) (sym c.in_ok-rule.ensures))
