-- `usable`: the two tests are the definition's.
use native.Mathlib.Omega.{arith}
use mathlib.Core.Path.{◌∙◌}
use Rattle.std.proofs.lemmas.Bool.{ne_eqb}
use Rattle.lent.proofs.Tests.{usable_broken, usable_whole}
use Rattle.lent.proofs.usable.Goals as goal

pub returns-then-bytes-width-eq0 : goal.returns-then-bytes-width-eq0
returns-then-bytes-width-eq0 c = usable_whole _ _ _ (omega (arith, c.if-bytes-width-eq0.true))

pub returns-else-bytes-width-eq0 : goal.returns-else-bytes-width-eq0
returns-else-bytes-width-eq0 c =
    ne_eqb _ _ c.if-bytes-width-eq0.false ∙ usable_broken _ _ _ (omega (arith, c.if-bytes-width-eq0.false))
