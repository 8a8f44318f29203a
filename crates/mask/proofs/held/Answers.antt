-- `held` answers `has m d`: a shift and a mask.
use Rattle.mask.proofs.Bits.{has_shr}
use Rattle.mask.proofs.held.Goals as goal

pub returns : goal.returns
returns c = has_shr c.args.m c.args.d
