use mathlib.Core.Path.{◌≡◌}
use lib.ListN.{length, take}
use Rattle.number.specs.Encode.{encode}
use Rattle.field.specs.Put.{spell_all}
use Rattle.plan.proofs.list_width.Given as goal

-- the sum is the length of the numbers passed
abbrev pub invariant-loop-x : goal.invariant-loop-x
invariant-loop-x g l = l.n ≡ length (spell_all (λ x. encode (g.T.Numeral.value x)) (take l.x-index l.xs))
