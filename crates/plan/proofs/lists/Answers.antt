-- `lists`: the disks, the size and the short set with the end, each at the place where the one before ended.
use mathlib.Core.Path.{sym}
use Rattle.basics.proofs.Question.{passed_on}
use Rattle.number.specs.Bytes.{Bytes}
use Rattle.field.proofs.Values.{between_range}
use Rattle.plan.proofs.Reading.{bounds_size, checked_refused, lists_disks, lists_size, lists_short, lists_end, lists_done}
use Rattle.plan.proofs.lists.Goals as goal

pub returns-in_err-p : goal.returns-in_err-p
returns-in_err-p c = checked_refused _ _ (passed_on c.from_residual.ensures) (lists_disks _ _ _ _ c.in_err-p.ensures)

pub returns-in_err-size : goal.returns-in_err-size
returns-in_err-size c =
    checked_refused _ _ (passed_on c.from_residual-in_err-size.ensures)
    (lists_size _ _ _ _ c.in_ok-p.ensures (bounds_size _ _ _ _ c.if_any.ensures c.in_err-size.ensures))

pub past_short-requires : goal.past_short-requires
unfolding Bytes
past_short-requires c = ((between_range _ _ 6 6 _ _ (sym c.in_ok-size.ensures)).1, c.requires)

pub returns-in_err-end : goal.returns-in_err-end
returns-in_err-end c =
    checked_refused _ _ (passed_on c.from_residual-in_err-end.ensures)
    (lists_short _ _ _ _ c.in_ok-p.ensures (bounds_size _ _ _ _ c.if_any.ensures c.in_ok-size.ensures) c.in_err-end.ensures)

pub returns-in_err-end-2 : goal.returns-in_err-end-2
returns-in_err-end-2 c =
    checked_refused _ _ (passed_on c.from_residual-in_err-end-2.ensures)
    (lists_end _ _ _ _ c.in_ok-p.ensures (bounds_size _ _ _ _ c.if_any.ensures c.in_ok-size.ensures) c.in_ok-end.ensures
    c.in_err-end-2.ensures)

pub returns : goal.returns
returns c =
    lists_done _ _ _ _ c.in_ok-p.ensures (bounds_size _ _ _ _ c.if_any.ensures c.in_ok-size.ensures) c.in_ok-end.ensures
    c.requires c.in_ok-end-2.ensures
