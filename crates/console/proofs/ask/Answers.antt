-- `ask`: the request's promise says whose sheet stands in the buffer, with room for the longest plan.
use native.Mathlib.Omega.{arith}
use lib.Seq.{length-take-le}
use mathlib.Core.Path.{sym}
use Rattle.unit.proofs.Replies.{replied_within}
use Rattle.console.proofs.Benching.{asks_shown, asks_refused}
use Rattle.console.proofs.ask.Goals as goal

pub request-requires : goal.request-requires
request-requires c = c.requires.sound

pub slice_bounds-sheet-end : goal.slice_bounds-sheet-end
slice_bounds-sheet-end c = omega (arith, replied_within c.request.ensures c.in-Ok.is)

pub slice_bounds-show-end : goal.slice_bounds-show-end
slice_bounds-show-end c = sym (length-take-le _ _ (omega (arith, replied_within c.request.ensures c.in-Ok.is)))

pub returns-in-Ok : goal.returns-in-Ok
returns-in-Ok c =
    asks_shown c.request.ensures c.in-Ok.is c.requires.tenancy c.number.ensures c.tenancy.ensures c.show.ensures

pub returns-in-Err : goal.returns-in-Err
returns-in-Err c = asks_refused c.request.ensures c.in-Err.is (omega arith) c.refuse.ensures
