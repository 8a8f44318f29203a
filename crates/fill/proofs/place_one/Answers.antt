-- `fill::place_one` meets its contract.
use Rattle.search.specs.Outcome.{Improved}
use Rattle.search.proofs.Steps.{gained_more, open_but}
use Rattle.fill.proofs.Grounds.{ground_free, ground_stuck}
use Rattle.fill.proofs.place_one.Goals as goal

pub reopen-requires : goal.reopen-requires
unfolding Improved
reopen-requires c =
    let g = c.requires.0 in
    let room = c.args.known.room in
    let w = rw c.in-Free.is at c.improve.ensures in
    (g.seated.placed.disks, open_but room g.opened (gained_more room c.args.caps.now g.seated.placed g.within g.opened w))

pub returns-in-Free : goal.returns-in-Free
unfolding Improved
returns-in-Free c =
    let p = c.requires in
    ground_free p.0 p.1 p.2 c.reopen.result (rw c.in-Free.is at c.improve.ensures) c.reopen.ensures

pub returns-in-Stuck : goal.returns-in-Stuck
unfolding Improved
returns-in-Stuck c = let p = c.requires in ground_stuck p.0 p.1 p.2 (rw c.in-Stuck.is at c.improve.ensures)
