-- `take` takes one disk out.
use borrow.Author.Rules.{rules}
use Rattle.basics.specs.Limits.{disks_most}
use Rattle.mask.proofs.Bits.{has_clear}
use Rattle.mask.proofs.take.Goals as goal

pub returns : goal.returns
returns c e = has_clear disks_most c.args.m c.args.d e (search rules) c.requires
