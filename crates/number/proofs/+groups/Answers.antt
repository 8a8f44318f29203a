-- Each return is one law of `more`; the value is small enough for one group more by `more_small`.
use native.Mathlib.Omega.{arith}
use mathlib.Core.Path.{sym, ap, ◌∙◌}
use Rattle.basics.proofs.Question.{passed_on}
use Prim.Native.Nat.{◌+◌, ◌*◌, ◌%◌}
use Rattle.number.specs.Decode.{value}
use Rattle.number.specs.Told.{told}
use Rattle.number.proofs.Decode.{first_byte, no_byte}
use Rattle.number.proofs.Decode.{more_none, more_zero, more_fifth, more_large, more_one, more_value, more_bad, more_small}
use Rattle.number.proofs.+groups.Goals as goal

pub returns-in_default : goal.returns-in_default
returns-in_default t c = sym (more_none _ _ (no_byte _ c.in_default.ensures.value))

pub returns-then-b-eq0 : goal.returns-then-b-eq0
returns-then-b-eq0 t c =
    let s = first_byte _ c.in-Some.ensures.value in
    sym (more_zero _ _ s.0 (s.1 ∙ sym c.from-b.ensures ∙ c.if-b-eq0.true))

pub returns-in_err-v : goal.returns-in_err-v
returns-in_err-v t c =
    let s = first_byte _ c.in-Some.ensures.value in
    ap told (passed_on c.from_residual.ensures) ∙ sym (more_bad _ _ (λ z. omega arith) (omega arith) (omega arith) (sym c.in_err-v.ensures))

pub overflow_mul-result : goal.overflow_mul-result
overflow_mul-result t c = omega (arith, more_small _ _ _ _ (omega arith) (sym c.in_ok-v.ensures))

pub overflow_add-result : goal.overflow_add-result
overflow_add-result t c = omega (arith, more_small _ _ _ _ (omega arith) (sym c.in_ok-v.ensures))

pub overflow_add-result-2 : goal.overflow_add-result-2
overflow_add-result-2 t c = omega (arith, more_small _ _ _ _ (omega arith) (sym c.in_ok-v.ensures))

pub returns-then-b-lt16 : goal.returns-then-b-lt16
returns-then-b-lt16 t c =
    let s = first_byte _ c.in-Some.ensures.value in
    sym (more_fifth _ _ c.if-left-eq0.true s.0 (λ z. omega arith) (omega arith) ∙ ap (λ b. value b 1) (s.1 ∙ sym c.from-b.ensures))

pub returns-else-b-lt16 : goal.returns-else-b-lt16
returns-else-b-lt16 t c =
    let s = first_byte _ c.in-Some.ensures.value in sym (more_large _ _ c.if-left-eq0.true s.0 (λ z. omega arith) (omega arith))

pub returns-then-b-lt128 : goal.returns-then-b-lt128
returns-then-b-lt128 t c =
    let s = first_byte _ c.in-Some.ensures.value in
    sym (more_one _ _ c.if-left-eq0.false s.0 (λ z. omega arith) (omega arith) ∙ ap (λ b. value b 1) (s.1 ∙ sym c.from-b.ensures))

pub returns : goal.returns
returns t c =
    let s = first_byte _ c.in-Some.ensures.value in
    sym (more_value _ _ (λ z. omega arith) (omega arith) (omega arith) (sym c.in_ok-v.ensures)
    ∙ ap (λ b. value (b % 128 + 128 * c.in_ok-v.v) (c.in_ok-v.n + 1)) (s.1 ∙ sym c.from-b.ensures))
