-- `put_disks` meets its contract. The invariant is `Left`: what the iterator still gives is left to be put.
use borrow.Author.Rules.{rules}
use mathlib.Core.Path.{ap, ◌∙◌}
use Rattle.mask.specs.Rising.{disks_left}
use Rattle.request.proofs.Writing.{left_all, left_small, left_next, left_none}
use Rattle.request.proofs.put_disks.Goals as goal

pub loop-d-init : goal.loop-d-init
loop-d-init c =
    let e = ap disks_left c.into_iter-d-iterator.ensures.into_iter_gives ∙ c.disks-d-items.ensures in
    rw e (left_all _ _)

pub overflow_cast-d : goal.overflow_cast-d
overflow_cast-d c = let l = left_small c.loop-d.invariant c.in-Some.ensures.steps in search (rules, l)

pub loop-d-preserved : goal.loop-d-preserved
loop-d-preserved c = left_next c.loop-d.invariant c.in-Some.ensures.steps c.put.ensures

pub returns : goal.returns
returns c = left_none c.loop-d.invariant c.in-None.ensures.steps.0
