-- A row that fails one of the tests is out of range; else its width is the sum of four.
use native.Mathlib.Omega.{arith}
use Rattle.number.proofs.Encode.{width_bounds}
use Rattle.settings.specs.Kind.{kind_number}
use Rattle.settings.proofs.Rows.{marked_width, mark_small, row_unfit, row_fit}
use Rattle.settings.proofs.Row.width.Goals as goal

pub returns-then-self-lt1 : goal.returns-then-self-lt1
returns-then-self-lt1 c =
    row_unfit _ _
    (λ w. omega (arith, c.then-self-lt1.either, w.cost_low, w.cost_high, w.load_high, w.delay_high, w.mark_high))

pub overflow_add-result : goal.overflow_add-result
overflow_add-result c = let r = c.args.self in omega (arith, width_bounds r.cost, width_bounds r.load)

pub overflow_add-result-2 : goal.overflow_add-result-2
overflow_add-result-2 c = let r = c.args.self in omega (arith, width_bounds r.cost, width_bounds r.load, width_bounds r.delay)

pub overflow_add-result-3 : goal.overflow_add-result-3
overflow_add-result-3 c =
    let r = c.args.self in
    omega (
      arith,
      width_bounds r.cost,
      width_bounds r.load,
      width_bounds r.delay,
      marked_width _ _ c.marked.ensures c.width_if.ensures,
      mark_small (kind_number c.args.kind) r.mark c.if-self-gt1.false,
    )

pub returns : goal.returns
returns c =
    row_fit _ _
    (record {
      cost_low = c.if-self-lt1.false;
      cost_high = c.if-self-gt-COST_MOST.false;
      load_high = c.if-self-gt-LOAD_MOST.false;
      delay_high = c.if-self-gt-DELAY_MOST.false;
      mark_high = c.if-self-gt1.false;
    })
    c.width.ensures c.width-2.ensures c.width-3.ensures (marked_width _ _ c.marked.ensures c.width_if.ensures)
