-- What the planner answered is the reply.
use Rattle.unit.proofs.Replies.{replied}
use Rattle.unit.proofs.Unit.request.Goals as goal

pub plan_into-requires : goal.plan_into-requires
plan_into-requires c = c.requires.proper

pub returns : goal.returns
returns c = replied c.tenancy.ensures c.plan_into.ensures
