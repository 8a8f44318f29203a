-- `write_request`: the fields before the blocks are judged before the list is read; a list that ends inside a number is judged as
-- tenancy 0.
use Rattle.basics.proofs.Question.{passed_on}
use Rattle.lent.proofs.Over.{part_within, part_count}
use Rattle.desk.proofs.Writing.{sent_as, request_few, request_whole, request_refused}
use Rattle.desk.proofs.write_request.Goals as goal

pub returns-in_err-judge : goal.returns-in_err-judge
returns-in_err-judge c = request_refused _ _ _ _ _ c.tenancy_of.ensures _ _ (passed_on c.from_residual.ensures) c.in_err-judge.ensures

pub eights-blocks-requires : goal.eights-blocks-requires
eights-blocks-requires c = request_few _ _ _ _ _ c.tenancy_of.ensures c.in_ok-judge.ensures

pub slice_bounds-blocks-end : goal.slice_bounds-blocks-end
slice_bounds-blocks-end c = part_within 8 _ _ _ c.eights-blocks.ensures

pub slice_bounds-write-end : goal.slice_bounds-write-end
slice_bounds-write-end c = part_count 8 _ _ _ c.eights-blocks.ensures

pub returns : goal.returns
returns c =
    sent_as (request_whole _ _ _ _ _ c.tenancy_of.ensures c.in_ok-judge.ensures _ _ c.eights-blocks.ensures) c.write.ensures
