-- `settings::empty` is the table with no settings, by definition.
use mathlib.Core.Path.{refl}
use Rattle.basics.specs.Padded.{pad_to}
use Rattle.settings.specs.Table.{table, no_table}
use Rattle.settings.proofs.empty.Goals as goal

pub returns : goal.returns
unfolding no_table table pad_to
returns c = refl
