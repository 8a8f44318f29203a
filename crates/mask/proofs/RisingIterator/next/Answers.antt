-- `next` gives the lowest disk of the rest, and takes it out.
use Rattle.std.proofs.Common.{rules, ap, length, ◌∙◌}
use Rattle.mask.specs.Disks.{disks_of}
use Rattle.mask.proofs.Listed.{disks_zero, disks_lowest}
use Rattle.mask.proofs.RisingIterator.next.Goals as goal

pub returns-in_err-d-clause-steps : goal.returns-in_err-d-clause-steps
returns-in_err-d-clause-steps c =
    let z = ap disks_of c.in_err-d.ensures ∙ disks_zero in rw c.from_residual.ensures (z, z)

pub returns-clause-steps : goal.returns-clause-steps
returns-clause-steps c = disks_lowest _ _ _ c.in_ok-d.ensures c.take-self.ensures

pub returns-clause-goes : goal.returns-clause-goes
returns-clause-goes c =
    let e = ap length (disks_lowest _ _ _ c.in_ok-d.ensures c.take-self.ensures) in search (rules, e)
