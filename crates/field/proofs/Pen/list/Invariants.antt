use lib.ListN.{take}
use Rattle.number.specs.Encode.{encode}
use Rattle.field.specs.Put.{spell_all}
use Rattle.field.specs.Pen.{Lays}
use Rattle.field.proofs.Pen.list.Given as goal

-- the numbers passed were put, and nothing else
abbrev pub invariant-loop-x : goal.invariant-loop-x
invariant-loop-x g l = Lays (spell_all (λ x. encode (g.T.Numeral.value x)) (take l.x-index l.xs)) l.initial.self l.self
