-- The row of four lists, by its law.
use Rattle.settings.proofs.Rows.{row_of}
use Rattle.settings.proofs.Lists.row.Goals as goal

pub returns : goal.returns
returns c = row_of _ _ _ _ _ c.requires.level c.requires.below
