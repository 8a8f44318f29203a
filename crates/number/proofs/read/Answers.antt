-- Each return is one law of `decode`, or what `longer` promises.
use native.Mathlib.Omega.{arith}
use mathlib.Core.Path.{sym, ap, ◌∙◌}
use Rattle.number.specs.Decode.{value}
use Rattle.number.proofs.Decode.{decode_none, decode_one, first_byte, no_byte}
use Rattle.number.proofs.read.Goals as goal

pub returns-in_default : goal.returns-in_default
returns-in_default c = sym (decode_none _ (no_byte _ c.in_default.ensures.value))

pub returns-then-b-lt128 : goal.returns-then-b-lt128
returns-then-b-lt128 c =
    let s = first_byte _ c.in-Some.ensures.value in
    sym (decode_one _ s.0 (omega arith) ∙ ap (λ b. value b 1) (s.1 ∙ sym c.from-b.ensures))

pub longer-requires : goal.longer-requires
longer-requires c =
    let s = first_byte _ c.in-Some.ensures.value in
    (s.0, s.1 ∙ sym c.from-b.ensures, omega arith)
