-- The library's reading of four bytes is their number.
use mathlib.Core.Path.{◌∙◌}
use Rattle.lent.proofs.Numbers.{value_four}
use Rattle.lent.proofs.U32Bytewise4.of_bytes.Goals as goal

pub returns : goal.returns
returns c = c.from_le_bytes.ensures ∙ value_four _ c.told-bytes
