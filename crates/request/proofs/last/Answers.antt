-- `last` meets its contract, by the two cases of `last_disk`.
use native.Mathlib.Omega.{arith}
use Rattle.basics.specs.Limits.{disks_most}
use Rattle.basics.proofs.Tests.{below_or}
use Rattle.request.proofs.Reading.{last_few, last_all}
use Rattle.request.proofs.last.Goals as goal

pub returns : goal.returns
returns c =
    below_or c.args.disks disks_most
    (λ m. omega (arith, last_few c.args.disks (omega arith)))
    (λ m. omega (arith, last_all c.args.disks (omega arith)))
