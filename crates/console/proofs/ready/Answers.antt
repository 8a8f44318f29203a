-- `ready`: unit and tenancy, the rent, the settings' sheet and the settings, the request's sheet, the end of the input.
use mathlib.Core.Path.{refl, sym, ap, ◌∙◌}
use Rattle.basics.proofs.Question.{passed_on}
use Rattle.field.proofs.Readers.{refused_as, end_here, end_extra}
use Rattle.unit.specs.declared.Unit.{Unit}
use Rattle.unit.specs.Life.{rent}
use Rattle.console.proofs.Benching.{readied_refused, input_hires, input_no_tenancy, input_no_unit, hire_taken, hire_denied}
use Rattle.console.proofs.Benching.{apply_taken, apply_denied, apply_stops, close_got, close_extra, close_stops, rented_new, rented_set}
use Rattle.console.proofs.ready.Goals as goal

pub returns-in_err-number : goal.returns-in_err-number
returns-in_err-number c =
    readied_refused _ (passed_on c.from_residual.ensures)
    (input_no_unit _ (sym c.in_err-number.ensures))

pub returns-in_err-tenancy : goal.returns-in_err-tenancy
returns-in_err-tenancy c =
    readied_refused _ (passed_on c.from_residual-in_err-tenancy.ensures)
    (input_no_tenancy _ (sym c.in_ok-number.ensures) (sym c.in_err-tenancy.ensures))

pub returns-in_err-rented : goal.returns-in_err-rented
returns-in_err-rented c =
    readied_refused _ (passed_on c.from_residual-in_err-rented.ensures)
    (input_hires _ (sym c.in_ok-number.ensures) (sym c.in_ok-tenancy.ensures)
    ∙ hire_denied _ _ _ _ (c.rent-rented.ensures ∙ ap (λ (u : Unit). rent u c.in_ok-tenancy.tenancy) c.new.ensures) c.in_err-rented.was)

pub returns-in_err-settings : goal.returns-in_err-settings
returns-in_err-settings c =
    readied_refused _ (passed_on c.from_residual-in_err-settings.ensures)
    (input_hires _ (sym c.in_ok-number.ensures) (sym c.in_ok-tenancy.ensures)
    ∙ hire_taken _ _ _ _ (c.rent-rented.ensures ∙ ap (λ (u : Unit). rent u c.in_ok-tenancy.tenancy) c.new.ensures) c.in_ok-rented.was
    ∙ apply_stops _ _ _ c.in_err-settings.ensures)

pub returns-in_err-set : goal.returns-in_err-set
returns-in_err-set c =
    readied_refused _ (passed_on c.from_residual-in_err-set.ensures)
    (input_hires _ (sym c.in_ok-number.ensures) (sym c.in_ok-tenancy.ensures)
    ∙ hire_taken _ _ _ _ (c.rent-rented.ensures ∙ ap (λ (u : Unit). rent u c.in_ok-tenancy.tenancy) c.new.ensures) c.in_ok-rented.was
    ∙ apply_denied _ _ _ c.in_ok-settings.settings c.in_ok-settings.ensures.0 (rw c.of.ensures at c.settings-set.ensures) c.in_err-set.was)

pub returns-in_err-request : goal.returns-in_err-request
returns-in_err-request c =
    readied_refused _ (passed_on c.from_residual-in_err-request.ensures)
    (input_hires _ (sym c.in_ok-number.ensures) (sym c.in_ok-tenancy.ensures)
    ∙ hire_taken _ _ _ _ (c.rent-rented.ensures ∙ ap (λ (u : Unit). rent u c.in_ok-tenancy.tenancy) c.new.ensures) c.in_ok-rented.was
    ∙ apply_taken _ _ _ c.in_ok-settings.settings c.in_ok-settings.ensures.0 (rw c.of.ensures at c.settings-set.ensures) c.in_ok-set.was
    ∙ close_stops _ _ _ c.in_err-request.ensures)

pub returns-then-request-input : goal.returns-then-request-input
returns-then-request-input c =
    readied_refused c.args.input.now refl
    (input_hires _ (sym c.in_ok-number.ensures) (sym c.in_ok-tenancy.ensures)
    ∙ hire_taken _ _ _ _ (c.rent-rented.ensures ∙ ap (λ (u : Unit). rent u c.in_ok-tenancy.tenancy) c.new.ensures) c.in_ok-rented.was
    ∙ apply_taken _ _ _ c.in_ok-settings.settings c.in_ok-settings.ensures.0 (rw c.of.ensures at c.settings-set.ensures) c.in_ok-set.was
    ∙ close_extra _ _ _ c.in_ok-request.request c.in_ok-request.ensures.0
    (end_extra _ _ c.if-request-input.true ∙ sym (refused_as c.at.ensures)))

pub returns : goal.returns
returns c = (
  _,
  input_hires _ (sym c.in_ok-number.ensures) (sym c.in_ok-tenancy.ensures)
      ∙ hire_taken _ _ _ _ (c.rent-rented.ensures ∙ ap (λ (u : Unit). rent u c.in_ok-tenancy.tenancy) c.new.ensures) c.in_ok-rented.was
      ∙ apply_taken _ _ _ c.in_ok-settings.settings c.in_ok-settings.ensures.0 (rw c.of.ensures at c.settings-set.ensures) c.in_ok-set.was
      ∙ close_got _ _ _ c.in_ok-request.request c.in_ok-request.ensures.0 (end_here _ _ c.if-request-input.false),
  rented_set _ _
      (rented_new _ _ _ (c.rent-rented.ensures ∙ ap (λ (u : Unit). rent u c.in_ok-tenancy.tenancy) c.new.ensures) c.in_ok-rented.was)
      c.settings-set.ensures,
  c.in_ok-request.ensures.1,
)
