-- The library's reading of eight bytes is their number.
use mathlib.Core.Path.{◌∙◌}
use Rattle.lent.proofs.Numbers.{value_eight}
use Rattle.lent.proofs.U64Bytewise8.of_bytes.Goals as goal

pub returns : goal.returns
returns c = c.from_le_bytes.ensures ∙ value_eight _ c.told-bytes
