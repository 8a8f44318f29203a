-- `count` answers the ones.
use borrow.Author.Rules.{rules}
use Rattle.basics.specs.Limits.{disks_most}
use Rattle.mask.proofs.Members.{ones_members}
use Rattle.mask.proofs.count.Goals as goal

pub returns : goal.returns
returns c = ones_members disks_most c.args.m (search rules)
