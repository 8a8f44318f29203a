-- `both` has the disks of the two masks' `&`.
use Rattle.mask.proofs.Bits.{has_and}
use Rattle.mask.proofs.both.Goals as goal

pub returns : goal.returns
returns c = has_and c.args.a c.args.b
