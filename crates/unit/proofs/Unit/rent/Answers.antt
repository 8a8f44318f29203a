-- Each return is one law of `rent`.
use mathlib.Core.Path.{sym, ap, ◌∙◌}
use Rattle.field.specs.Refusal.{note_of}
use Rattle.unit.specs.Life.{refuses}
use Rattle.unit.proofs.Lives.{rent_anew, rent_rented, rent_low}
use Rattle.unit.proofs.Unit.rent.Goals as goal

pub returns-then-self : goal.returns-then-self
returns-then-self c = ap (λ f. refuses c.args.self (note_of f)) c.at.ensures ∙ sym (rent_rented _ _ c.if-self.true)

pub returns-then-tenancy-self : goal.returns-then-tenancy-self
returns-then-tenancy-self c =
    ap (λ f. refuses c.args.self (note_of f)) c.at-then-tenancy-self.ensures
    ∙ sym (rent_low _ _ c.if-self.false c.if-tenancy-self.true)

pub returns : goal.returns
returns c = sym (rent_anew _ _ c.if-self.false c.if-tenancy-self.false _ c.empty-self.ensures)
