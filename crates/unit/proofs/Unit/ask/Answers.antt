-- What the planner spelled for the tenancy that was found.
use Rattle.unit.proofs.Replies.{spelled_for}
use Rattle.unit.proofs.Unit.ask.Goals as goal

pub ask-requires : goal.ask-requires
ask-requires c = c.requires.proper

pub returns : goal.returns
returns c = spelled_for _ _ c.tenancy.ensures c.ask.ensures
