-- The sheet of the kind that says the rule, with as many marks 0 as there are disks.
use Rattle.basics.proofs.Lists.{take_replicate}
use Rattle.settings.proofs.Writing.{write_long, write_sent}
use Rattle.settings.proofs.write.Goals as goal

pub returns-then-costs-gt-DISKS : goal.returns-then-costs-gt-DISKS
returns-then-costs-gt-DISKS c = rw c.at.ensures (write_long _ _ _ _ _ _ _ c.if-costs-gt-DISKS.true)

pub returns : goal.returns
returns c =
    write_sent _ _ _ _ _ _ _ c.into.ensures c.into-2.ensures
    (take_replicate 0 _ 64 c.if-costs-gt-DISKS.false) c.send.ensures
