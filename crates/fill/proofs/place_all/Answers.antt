-- `fill::place_all` meets its contract.
use Rattle.fill.proofs.Grounds.{ground_start}
use borrow.Author.Rules.{rules}
use Rattle.fill.proofs.place_all.Goals as goal

pub loop-b-init : goal.loop-b-init
loop-b-init c = ground_start _ c.«open».result c.requires (search rules) c.«open».ensures
