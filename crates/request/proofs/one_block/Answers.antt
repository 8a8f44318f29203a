-- `one_block` meets its contract, by the laws of a block: its copy count, its disks, and whether some of them are in use.
use borrow.Author.Rules.{rules}
use native.Mathlib.Omega.{arith}
use mathlib.Core.Path.{sym, ap, ◌∙◌}
use Rattle.basics.proofs.Choice.{pick_true, pick_false}
use Rattle.basics.proofs.Question.{passed_on}
use Rattle.mask.specs.Has.{has}
use Rattle.field.specs.Told.{told}
use Rattle.field.proofs.Readers.{refused_as}
use Rattle.request.proofs.Reading.{block_stops, block_breaks, block_tested, behind}
use Rattle.request.proofs.Used.{nothing_left, some_left}
use Rattle.request.proofs.one_block.Goals as goal

pub returns-in_err-k : goal.returns-in_err-k
returns-in_err-k c = ap told (passed_on c.from_residual.ensures) ∙ sym (block_stops _ _ _ _ (sym c.in_err-k.ensures))

pub returns-in_err-m : goal.returns-in_err-m
returns-in_err-m c =
    ap told (passed_on c.from_residual-in_err-m.ensures)
    ∙ sym (block_breaks _ _ _ _ (sym c.in_ok-k.ensures) c.in_err-m.ensures)

pub overflow_sub-next : goal.overflow_sub-next
overflow_sub-next c = omega (arith, behind _ (has c.args.out) _ _ (sym c.in_ok-k.ensures) c.requires c.in_ok-m.ensures)

pub returns-then-without-eq0 : goal.returns-then-without-eq0
returns-then-without-eq0 c =
    refused_as c.at.ensures
    ∙ sym (block_tested _ _ _ _ (sym c.in_ok-k.ensures) c.requires c.in_ok-m.ensures
    ∙ pick_false _ _ (nothing_left _ _ _ c.without.ensures c.if-without-eq0.true))

pub returns : goal.returns
returns c =
    sym (block_tested _ _ _ _ (sym c.in_ok-k.ensures) c.requires c.in_ok-m.ensures
    ∙ pick_true _ _ (some_left _ _ _ c.without.ensures (search rules) c.without.type_inv c.if-without-eq0.false))
