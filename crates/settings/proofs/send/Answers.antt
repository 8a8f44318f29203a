-- Lists that don't fit, a rule or rows out of range, a sheet that is too long, and one that is written.
use Rattle.basics.proofs.Question.{passed_on}
use native.Mathlib.Omega.{arith}
use borrow.Author.Rules.{rules}
use mathlib.Core.Path.{refl, sym, ◌∙◌}
use Rattle.number.proofs.Encode.{width_bounds}
use Rattle.settings.specs.Kind.{kind_number}
use Rattle.settings.proofs.Rows.{marked_width, rows_small}
use Rattle.settings.proofs.Rules.{number_taken, kind_small, numbered_range, numbered_none}
use Rattle.settings.proofs.Writing.{lists_fit_law, rule_small, send_unfit, send_rule, send_out, send_long}
use Rattle.settings.proofs.Writing.{send_done}
use Rattle.settings.proofs.send.Goals as goal

pub returns-in_err-check : goal.returns-in_err-check
returns-in_err-check c =
    let e = c.in_err-check.ensures in
    rw (passed_on c.from_residual.ensures, e.1) (send_unfit _ _ _ _ _ _ _ _ _ e.0)

pub returns-then-is_err : goal.returns-then-is_err
returns-then-is_err c =
    let fit = lists_fit_law c.in_ok-check.ensures in
    rw c.at.ensures
    (send_rule _ _ _ _ _ _ _ _ _ fit (numbered_none _ _ c.try_from.ensures c.if-is_err.ensures.value))

pub rows_width-requires-clause-level : goal.rows_width-requires-clause-level
rows_width-requires-clause-level c = (lists_fit_law c.in_ok-check.ensures).level

pub rows_width-requires-clause-few : goal.rows_width-requires-clause-few
rows_width-requires-clause-few c = (lists_fit_law c.in_ok-check.ensures).few

pub returns-in_err-rows : goal.returns-in_err-rows
returns-in_err-rows c =
    let fit = lists_fit_law c.in_ok-check.ensures in
    let e = c.in_err-rows.ensures in
    rw (passed_on c.from_residual-in_err-rows.ensures, e.value, e.ok_part, c.at-2.ensures)
    (send_out _ _ _ _ _ _ _ _ _ fit (sym e.ok_part ∙ c.rows_width.ensures))

pub overflow_add-length : goal.overflow_add-length
overflow_add-length c = omega (arith, width_bounds c.args.unit)

pub overflow_add-length-2 : goal.overflow_add-length-2
overflow_add-length-2 c = let a = c.args in omega (arith, width_bounds a.unit, width_bounds a.tenancy)

pub overflow_add-length-3 : goal.overflow_add-length-3
overflow_add-length-3 c =
    let a = c.args in
    let range = numbered_range _ _ c.try_from.ensures c.if-is_err.ensures.value in
    omega (
      arith,
      width_bounds a.unit,
      width_bounds a.tenancy,
      marked_width _ _ c.marked.ensures c.width_if.ensures,
      rule_small (kind_number a.kind) a.rule range.1,
    )

pub overflow_add-length-4 : goal.overflow_add-length-4
overflow_add-length-4 c =
    let a = c.args in
    let fit = lists_fit_law c.in_ok-check.ensures in
    let rows = sym c.in_ok-rows.ensures.ok_part ∙ c.rows_width.ensures in
    let range = numbered_range _ _ c.try_from.ensures c.if-is_err.ensures.value in
    omega (
      arith,
      width_bounds a.unit,
      width_bounds a.tenancy,
      marked_width _ _ c.marked.ensures c.width_if.ensures,
      rule_small (kind_number a.kind) a.rule range.1,
      rows_small fit.level (kind_number a.kind) fit.few rows,
    )

pub returns-then-out-length : goal.returns-then-out-length
returns-then-out-length c =
    let fit = lists_fit_law c.in_ok-check.ensures in
    let rows = sym c.in_ok-rows.ensures.ok_part ∙ c.rows_width.ensures in
    let range = numbered_range _ _ c.try_from.ensures c.if-is_err.ensures.value in
    rw c.at-then-out-length.ensures
    (send_long _ _ _ _ _ _ _ _ _ fit rows range.0 range.1 (kind_small _ (number_taken c.args.kind))
    c.width.ensures c.width-2.ensures (marked_width _ _ c.marked.ensures c.width_if.ensures) c.if-out-length.true)

pub overflow_cast-disks : goal.overflow_cast-disks
overflow_cast-disks c = omega (arith, (lists_fit_law c.in_ok-check.ensures).few)

pub put_rows-requires : goal.put_rows-requires
put_rows-requires c = (lists_fit_law c.in_ok-check.ensures).level

pub returns : goal.returns
returns c =
    let fit = lists_fit_law c.in_ok-check.ensures in
    let rows = sym c.in_ok-rows.ensures.ok_part ∙ c.rows_width.ensures in
    let range = numbered_range _ _ c.try_from.ensures c.if-is_err.ensures.value in
    send_done _ _ _ _ _ _ _ _ _ fit rows range.0 range.1 (kind_small _ (number_taken c.args.kind))
    c.width.ensures c.width-2.ensures (marked_width _ _ c.marked.ensures c.width_if.ensures) c.if-out-length.false
    c.put_heading.ensures c.put_rows.ensures refl refl (search rules)
