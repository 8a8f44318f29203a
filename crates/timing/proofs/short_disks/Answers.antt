-- `timing::short_disks` meets its contract.
use Rattle.timing.proofs.Stuck.{restored}
use Rattle.timing.proofs.short_disks.Goals as goal

pub returns : goal.returns
returns c =
    let p = c.requires in
    restored p.0 p.1 p.2 c.saturating_sub.ensures c.fill_at-x.ensures c.fill_at.ensures
