-- `order::lower_copies` meets its contract.
use mathlib.Core.Path.{refl}
use Rattle.order.proofs.lower_copies.Goals as goal

pub returns : goal.returns
returns c = record { each = λ e. rw (c.without.ensures e, c.both.ensures e, c.before-2.ensures e) refl }
