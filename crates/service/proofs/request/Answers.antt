-- `request`: the plan sheet stands in the lent part of the buffer, or is longer than it.
use native.Mathlib.Omega.{arith}
use Rattle.unit.proofs.Replies.{replied_within}
use Rattle.service.proofs.Serving.{part_within, lent, request_sent, request_kept}
use lib.Seq.{length-take-le}
use mathlib.Core.Path.{sym}
use Rattle.service.proofs.request.Goals as goal

pub slice_bounds-out-end-in-Ok : goal.slice_bounds-out-end-in-Ok
slice_bounds-out-end-in-Ok c = part_within c.request.new.out _ (omega (arith, replied_within c.request.ensures c.in-Ok.is))

pub slice_bounds-sheet_line-end : goal.slice_bounds-sheet_line-end
slice_bounds-sheet_line-end c =
    sym (length-take-le _ _ (part_within c.request.new.out _ (omega (arith, replied_within c.request.ensures c.in-Ok.is))))

pub returns-in-Ok : goal.returns-in-Ok
returns-in-Ok c = request_sent _ _ _ _ (lent _ _ c.requires.1) _
    c.request.new.out c.request.ensures _ c.in-Ok.is _
    (omega arith) c.sheet_line.ensures

pub returns-in-Err : goal.returns-in-Err
returns-in-Err c = request_kept _ _ _ _ (lent _ _ c.requires.1) _ _
    c.request.ensures _
    c.in-Err.is c.refuse_at.ensures
