-- `explain`: the reason's number and time, or the refusal with its place.
use Rattle.service.proofs.Serving.{why_told, why_refused}
use Rattle.service.proofs.explain.Goals as goal

pub returns-in-Ok : goal.returns-in-Ok
returns-in-Ok c =
    why_told _ _ _ _ _ c.explain.ensures.says _ c.in-Ok.is c.from.ensures
    c.time.ensures c.say.ensures

pub returns-in-Err : goal.returns-in-Err
returns-in-Err c = why_refused _ _ _ _ _ c.explain.ensures.says _ c.in-Err.is c.refuse_at.ensures
