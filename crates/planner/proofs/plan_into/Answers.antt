-- What was asked is lent and its plan sent, or the refusal stands: `lent`, `answered_plan`, `answered_not`.
use Rattle.basics.proofs.Question.{passed_on}
use Rattle.planner.proofs.Asking.{lent, answered_plan, answered_not}
use Rattle.planner.proofs.plan_into.Goals as goal

pub returns-in_err-spell : goal.returns-in_err-spell
returns-in_err-spell c = answered_not _ (passed_on c.from_residual.ensures) c.in_err-spell.ensures

pub solve-requires : goal.solve-requires
solve-requires c = lent _ _ _ c.requires c.in_ok-spell.ensures

pub returns : goal.returns
returns c = answered_plan c.in_ok-spell.ensures c.solve.ensures
