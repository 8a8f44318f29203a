-- `read`: a refused sheet leaves all as it was; of a whole one the frame says what the lists get.
use Rattle.basics.proofs.Question.{passed_on}
use Rattle.plan.proofs.Reading.{received_refused, found_whole}
use Rattle.plan.proofs.read.Goals as goal

pub returns-in_err-frame : goal.returns-in_err-frame
returns-in_err-frame c = received_refused _ _ _ _ (passed_on c.from_residual.ensures) c.in_err-frame.ensures

pub returns : goal.returns
returns c = found_whole _ _ _ _ _ _ _ _ _ c.in_ok-frame.ensures c.fill.ensures
