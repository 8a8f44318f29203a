-- `either` has the disks of the two masks' `|`.
use Rattle.mask.proofs.Bits.{has_or}
use Rattle.mask.proofs.either.Goals as goal

pub returns : goal.returns
returns c = has_or c.args.a c.args.b
