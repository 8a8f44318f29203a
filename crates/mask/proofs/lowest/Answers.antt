-- `lowest` answers the trailing zeros, fewer than disks_most.
use native.Mathlib.Omega.{arith}
use Rattle.mask.proofs.Zeros.{zeros_first}
use Rattle.mask.proofs.lowest.Goals as goal

pub returns-else-m-eq0 : goal.returns-else-m-eq0
returns-else-m-eq0 c = zeros_first c.args.m (omega (arith, c.ranges)) (omega arith)
