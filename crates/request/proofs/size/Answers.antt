-- `size` meets its contract. The invariant is `Counting`: the blocks so far can be sent, and their bytes are counted.
use native.Mathlib.Omega.{arith}
use mathlib.Core.Path.{refl, ◌∙◌}
use Rattle.request.proofs.Writing.{known_in, known_out, none_as, counting_step, counting_done, counting_none}
use Rattle.request.proofs.Writing.{counting_many, counting_high}
use Rattle.request.proofs.size.Goals as goal

pub returns-then-m-eq0 : goal.returns-then-m-eq0
returns-then-m-eq0 c =
    λ d. counting_none _ _ _ _ c.loop-m.invariant c.loop-m-test.true _ refl c.if-m-eq0.true d ∙ none_as c.at.ensures

pub returns-then-bits-gt-COPIES : goal.returns-then-bits-gt-COPIES
returns-then-bits-gt-COPIES c =
    λ d. counting_many _ _ _ _ c.loop-m.invariant c.loop-m-test.true _ refl c.if-m-eq0.false
    (omega (arith, c.count-bits.ensures, c.if-bits-gt-COPIES.true)) d ∙ none_as c.at-then-bits-gt-COPIES.ensures

pub returns-then-without-ne0 : goal.returns-then-without-ne0
returns-then-without-ne0 c =
    let high = known_out _ _ _ _ c.requires.0 c.below-known.ensures (c.type_inv.copies c.loop-m.m-index).fits
    c.without.ensures c.without.type_inv c.if-without-ne0.true in
    λ d. counting_high _ _ _ _ c.loop-m.invariant c.loop-m-test.true _ refl c.if-m-eq0.false
    (omega (arith, c.count-bits.ensures, c.if-bits-gt-COPIES.false)) high d ∙ none_as c.at-then-without-ne0.ensures

pub loop-m-preserved : goal.loop-m-preserved
loop-m-preserved c =
    let under = known_in _ _ _ _ c.requires.0 c.below-known.ensures (c.type_inv.copies c.loop-m.m-index).fits
    c.without.ensures c.if-without-ne0.false in
    counting_step _ _ _ _ c.loop-m.invariant c.loop-m-test.true _ refl c.if-m-eq0.false
    (omega (arith, c.count-bits.ensures, c.if-bits-gt-COPIES.false)) _ c.count-bits.ensures under

pub returns : goal.returns
returns c = counting_done _ _ _ _ c.loop-m.invariant c.requires.1 c.loop-m-test.false
