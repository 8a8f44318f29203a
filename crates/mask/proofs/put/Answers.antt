-- `put` puts one disk in.
use Rattle.basics.specs.Limits.{disks_most}
use Rattle.mask.proofs.Bits.{has_set}
use Rattle.mask.proofs.put.Goals as goal

pub returns : goal.returns
returns c e = has_set disks_most c.args.m c.args.d e c.requires
