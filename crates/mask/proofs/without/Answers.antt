-- `without` has the disks of the one mask and not of the other.
use borrow.Author.Rules.{rules}
use Rattle.basics.specs.Limits.{disks_most}
use Rattle.mask.proofs.Bits.{has_without}
use Rattle.mask.proofs.without.Goals as goal

pub returns : goal.returns
returns c = λ e. has_without disks_most c.args.a c.args.b e (search rules) (search rules)
