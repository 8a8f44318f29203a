-- Each return is one law of `give_back`.
use mathlib.Core.Path.{sym, ap, ◌∙◌}
use Rattle.field.specs.Refusal.{note_of}
use Rattle.unit.specs.Life.{refuses}
use Rattle.unit.proofs.Lives.{not_rented, is_rented, back_anew, back_other, back_free}
use Rattle.unit.proofs.Unit.give_back.Goals as goal
use Rattle.unit.proofs.Unit.give_back.Goals.{then-not-self-via-then-not-self, then-not-self-via-else-not-self+then-tenancy-self}

pub returns-then-not-self : goal.returns-then-not-self
returns-then-not-self c =
    ap (λ f. refuses c.args.self (note_of f)) c.at.ensures
    ∙ sym (elim c.then-not-self.branch [
      | then-not-self-via-then-not-self w ↦ back_free _ _ (not_rented _ w.if-not-self.true)
      | then-not-self-via-else-not-self+then-tenancy-self w ↦ back_other _ _ (is_rented _ w.if-not-self.false) w.if-tenancy-self.true
    ])

pub returns : goal.returns
returns c = sym (back_anew _ _ (is_rented _ c.if-not-self.false) c.if-tenancy-self.false _ c.empty-self.ensures)
