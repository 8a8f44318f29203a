-- `check`: the opening, Q and R, each at the place where the one before ended, and then the lists.
use mathlib.Core.Path.{sym}
use Rattle.basics.specs.Limits.{blocks_most}
use Rattle.basics.proofs.Question.{passed_on}
use Rattle.number.specs.Bytes.{Bytes}
use Rattle.field.proofs.Values.{between_range}
use Rattle.plan.proofs.Reading.{bounds_time, checked_refused, check_opening, check_blocks, check_time, check_lists}
use Rattle.plan.proofs.check.Goals as goal

pub returns-in_err-at : goal.returns-in_err-at
returns-in_err-at c = checked_refused _ _ (passed_on c.from_residual.ensures) (check_opening _ _ _ c.in_err-at.ensures)

pub returns-in_err-q : goal.returns-in_err-q
returns-in_err-q c =
    checked_refused _ _ (passed_on c.from_residual-in_err-q.ensures) (check_blocks _ _ _ c.in_ok-at.ensures c.in_err-q.ensures)

pub returns-in_err-time : goal.returns-in_err-time
returns-in_err-time c =
    checked_refused _ _ (passed_on c.from_residual-in_err-time.ensures)
    (check_time _ _ _ c.in_ok-at.ensures c.in_ok-q.ensures
    (bounds_time _ _ _ _ _ c.if_any.ensures c.if_any-2.ensures c.in_err-time.ensures))

pub lists-requires : goal.lists-requires
unfolding Bytes
lists-requires c = (between_range 0 blocks_most 6 6 _ _ (sym c.in_ok-q.ensures)).1

pub returns : goal.returns
returns c =
    check_lists _ _ _ c.in_ok-at.ensures c.in_ok-q.ensures _
    (bounds_time _ _ _ _ _ c.if_any.ensures c.if_any-2.ensures c.in_ok-time.ensures) c.lists.ensures
