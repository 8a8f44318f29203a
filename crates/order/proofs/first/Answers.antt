-- `order::first` meets its contract.
use mathlib.Core.Path.{◌≡◌}
use native.Mathlib.Omega.{arith}
use Rattle.order.proofs.Lowering.{sorting_start, sorted_start, sorted_more, sorted_end}
use Rattle.order.proofs.first.Goals as goal

pub loop-k-init : goal.loop-k-init
loop-k-init c = (sorting_start c.requires c.open-free.result c.open-free.ensures, sorted_start c.requires)

pub settle-free-requires : goal.settle-free-requires
settle-free-requires c = (c.loop-k.invariant.0, c.loop-k-test.true)

pub loop-k-preserved : goal.loop-k-preserved
loop-k-preserved c =
    let i = c.loop-k.invariant in
    (c.settle-free.ensures.sorting, sorted_more c.loop-k-test.true i.0.bound c.settle-free.ensures i.1)

pub returns : goal.returns
returns c =
    let l = c.loop-k in
    let e : l.k ≡ c.args.q = omega arith in
    sorted_end (rw e at l.invariant.1)
