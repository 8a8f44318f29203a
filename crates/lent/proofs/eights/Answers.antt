-- `eights`: the numbers of 8 bytes each.
use mathlib.Core.Path.{sym}
use Rattle.lent.proofs.Filling.{parts_numbers}
use Rattle.lent.proofs.eights.Goals as goal

pub returns : goal.returns
returns c = rw (sym (parts_numbers 8 c.args.bytes.now)) c.gather.ensures
