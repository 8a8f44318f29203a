-- What was asked is lent for its reason, or a refusal stands: `no_block`, `no_disk_law`, `told`, `not_asked`.
use native.Mathlib.Omega.{arith}
use mathlib.Core.Path.{refl, sym, ◌∙◌}
use Rattle.field.proofs.Readers.{refused_as}
use Rattle.planner.proofs.Asking.{lent, lent_case, refused_of}
use Rattle.unit.specs.Unit.{tenancy_of}
use Rattle.why.proofs.Answers.{explains_refused, not_asked, no_block, no_disk_law, told}
use Rattle.why.proofs.answer.Goals as goal
use Rattle.why.proofs.answer.Goals.{then-said-block-via-then-said-block, then-said-block-via-else-said-block+then-said-disk}

pub returns-in-Err : goal.returns-in-Err
returns-in-Err c = not_asked _ _ _ refl (refused_of (rw c.in-Err.is at c.ask-asked.ensures))

pub returns-then-said-block : goal.returns-then-said-block
returns-then-said-block c =
    let w = lent c.args.u.number (tenancy_of c.args.u) c.args.sheet.now c.requires.proper (rw c.in-Ok.is at c.ask-asked.ensures) in
    let h = lent_case (rw c.in-Ok.is at c.ask-asked.ensures) in
    explains_refused _ _ _ refl
    (elim c.then-said-block.branch [
      | then-said-block-via-then-said-block w' ↦ no_block c.in-Ok.said h w _ _ w'.if-said-block.true
      | then-said-block-via-else-said-block+then-said-disk w' ↦ no_disk_law c.in-Ok.said h w _ _ w'.if-said-disk.true
    ] ∙ sym (refused_as c.at.ensures))

pub lend-requires : goal.lend-requires
lend-requires c = (
  lent c.args.u.number (tenancy_of c.args.u) c.args.sheet.now c.requires.proper (rw c.in-Ok.is at c.ask-asked.ensures),
  omega (arith, c.if-said-block.false),
  omega (arith, c.if-said-disk.false),
)

pub returns : goal.returns
returns c =
    told c.in-Ok.said (lent_case (rw c.in-Ok.is at c.ask-asked.ensures))
    (lent c.args.u.number (tenancy_of c.args.u) c.args.sheet.now c.requires.proper (rw c.in-Ok.is at c.ask-asked.ensures)) _ _
    (omega (arith, c.if-said-block.false)) (omega (arith, c.if-said-disk.false)) c.lend.ensures
