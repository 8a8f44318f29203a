-- `follow`: what each number of a call is followed by; the first refusal stands.
use native.Mathlib.Omega.{arith}
use mathlib.Core.Path.{refl, sym, ◌∙◌}
use Rattle.basics.proofs.Question.{passed_on}
use Rattle.basics.specs.Choice.{pick}
use Rattle.field.specs.Sheet.{pure}
use Rattle.field.proofs.Readers.{refused_as}
use Rattle.field.proofs.Sheet.{next, stops}
use Rattle.stream.specs.Call.{of_tenancy, of_settings, of_request, of_why, behind}
use Rattle.stream.proofs.Framing.{framed_refused, behind_got, behind_refused, room_within, unknown_call}
use Rattle.stream.proofs.follow.Goals as goal

pub returns-in_err-tenancy-in-1 : goal.returns-in_err-tenancy-in-1
unfolding behind pick of_tenancy
returns-in_err-tenancy-in-1 c =
    behind_refused _ _ c.in-1.is (passed_on c.from_residual.ensures) (stops _ _ _ _ (sym c.in_err-tenancy-in-1.ensures))

pub returns-in_ok-tenancy-in-1 : goal.returns-in_ok-tenancy-in-1
unfolding behind pick pure of_tenancy
returns-in_ok-tenancy-in-1 c = behind_got _ _ c.in-1.is (next _ _ _ _ (sym c.in_ok-tenancy-in-1.ensures)) tt

pub returns-in_err-span-in-2 : goal.returns-in_err-span-in-2
unfolding behind pick of_settings
returns-in_err-span-in-2 c =
    behind_refused _ _ c.in-2.is (passed_on c.from_residual-in_err-span-in-2.ensures) (stops _ _ _ _ c.in_err-span-in-2.ensures)

pub returns-in_ok-span-in-2 : goal.returns-in_ok-span-in-2
unfolding behind pick pure of_settings
returns-in_ok-span-in-2 c = behind_got _ _ c.in-2.is (next _ _ _ _ c.in_ok-span-in-2.ensures.0) (c.in_ok-span-in-2.ensures.1, refl)

pub returns-in_err-room-in-3 : goal.returns-in_err-room-in-3
unfolding behind pick of_request
returns-in_err-room-in-3 c =
    behind_refused _ _ c.in-3.is (passed_on c.from_residual-in_err-room-in-3.ensures) (stops _ _ _ _ (sym c.in_err-room-in-3.ensures))

pub returns-in_err-span-in-3 : goal.returns-in_err-span-in-3
unfolding behind pick of_request
returns-in_err-span-in-3 c =
    behind_refused _ _ c.in-3.is (passed_on c.from_residual-in_err-span-in-3.ensures)
    (next _ _ _ _ (sym c.in_ok-room-in-3.ensures)
    ∙ stops _ _ _ _ c.in_err-span-in-3.ensures)

pub returns-in_ok-span-in-3 : goal.returns-in_ok-span-in-3
unfolding behind pick pure of_request
returns-in_ok-span-in-3 c =
    behind_got _ _ c.in-3.is
    (next _ _ _ _ (sym c.in_ok-room-in-3.ensures)
    ∙ next _ _ _ _ c.in_ok-span-in-3.ensures.0)
    ((c.in_ok-span-in-3.ensures.1, refl), room_within _ _ (sym c.in_ok-room-in-3.ensures))

pub returns-in_err-tenancy-in-4 : goal.returns-in_err-tenancy-in-4
unfolding behind pick of_tenancy
returns-in_err-tenancy-in-4 c =
    behind_refused _ _ c.in-4.is (passed_on c.from_residual-in_err-tenancy-in-4.ensures) (stops _ _ _ _ (sym c.in_err-tenancy-in-4.ensures))

pub returns-in_ok-tenancy-in-4 : goal.returns-in_ok-tenancy-in-4
unfolding behind pick pure of_tenancy
returns-in_ok-tenancy-in-4 c = behind_got _ _ c.in-4.is (next _ _ _ _ (sym c.in_ok-tenancy-in-4.ensures)) tt

pub returns-in_err-block-in-5 : goal.returns-in_err-block-in-5
unfolding behind pick of_why
returns-in_err-block-in-5 c =
    behind_refused _ _ c.in-5.is (passed_on c.from_residual-in_err-block-in-5.ensures) (stops _ _ _ _ (sym c.in_err-block-in-5.ensures))

pub returns-in_err-disk-in-5 : goal.returns-in_err-disk-in-5
unfolding behind pick of_why
returns-in_err-disk-in-5 c =
    behind_refused _ _ c.in-5.is (passed_on c.from_residual-in_err-disk-in-5.ensures)
    (next _ _ _ _ (sym c.in_ok-block-in-5.ensures)
    ∙ stops _ _ _ _ (sym c.in_err-disk-in-5.ensures))

pub returns-in_err-span-in-5 : goal.returns-in_err-span-in-5
unfolding behind pick of_why
returns-in_err-span-in-5 c =
    behind_refused _ _ c.in-5.is (passed_on c.from_residual-in_err-span-in-5.ensures)
    (next _ _ _ _ (sym c.in_ok-block-in-5.ensures)
    ∙ next _ _ _ _ (sym c.in_ok-disk-in-5.ensures)
    ∙ stops _ _ _ _ c.in_err-span-in-5.ensures)

pub returns-in_ok-span-in-5 : goal.returns-in_ok-span-in-5
unfolding behind pick pure of_why
returns-in_ok-span-in-5 c =
    behind_got _ _ c.in-5.is
    (next _ _ _ _ (sym c.in_ok-block-in-5.ensures)
    ∙ next _ _ _ _ (sym c.in_ok-disk-in-5.ensures)
    ∙ next _ _ _ _ c.in_ok-span-in-5.ensures.0)
    (c.in_ok-span-in-5.ensures.1, refl)

pub returns-in_default : goal.returns-in_default
returns-in_default c =
    framed_refused refl (unknown_call _ _ (omega arith) (omega arith) (omega arith) (omega arith) (omega arith)
    ∙ sym (refused_as c.at.ensures))
