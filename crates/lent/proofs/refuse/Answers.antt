-- `refuse`: a number of the table and a place of 32 bits, moved up by 32, fit side by side.
use mathlib.Core.Path.{◌∙◌}
use Rattle.lent.proofs.Packed.{refused_packs}
use Rattle.lent.proofs.refuse.Goals as goal

pub returns : goal.returns
returns c = refused_packs c.args.f (c.from-2.ensures ∙ c.from.ensures)
