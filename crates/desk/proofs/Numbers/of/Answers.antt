-- `Numbers::of`: a list that is usable has no more numbers than places.
use Rattle.basics.specs.Limits.{disks_most}
use Rattle.lent.proofs.Over.{part_numbers}
use Rattle.lent.proofs.Tests.{is_usable}
use Rattle.desk.proofs.Numbers.of.Goals as goal

pub fours-requires : goal.fours-requires
fours-requires c = (is_usable 4 disks_most _ c.requires).1

pub invariant_of-result : goal.invariant_of-result
invariant_of-result c = record { within = (is_usable 4 disks_most _ c.requires).1 }

pub returns : goal.returns
returns c = part_numbers 4 _ _ _ c.fours.ensures
