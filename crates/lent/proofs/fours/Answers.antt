-- `fours`: the numbers of 4 bytes each.
use mathlib.Core.Path.{sym}
use Rattle.lent.proofs.Filling.{parts_numbers}
use Rattle.lent.proofs.fours.Goals as goal

pub returns : goal.returns
returns c = rw (sym (parts_numbers 4 c.args.bytes.now)) c.gather.ensures
