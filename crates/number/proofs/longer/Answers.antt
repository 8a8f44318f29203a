-- `longer`: the groups behind the first byte, after what `groups` promises.
use native.Mathlib.Omega.{arith}
use mathlib.Core.Path.{sym, ap, ◌∙◌}
use Prim.Native.Nat.{◌+◌, ◌*◌, ◌%◌}
use Rattle.basics.proofs.Question.{passed_on}
use Rattle.number.specs.Decode.{value}
use Rattle.number.specs.Told.{told}
use Rattle.number.proofs.Decode.{decode_value, decode_bad, more_small}
use Rattle.number.proofs.longer.Goals as goal

pub returns-in_err-v : goal.returns-in_err-v
returns-in_err-v c =
    ap told (passed_on c.from_residual.ensures)
    ∙ sym (decode_bad _ c.requires.0 (omega (arith, c.requires.1, c.requires.2)) (sym c.in_err-v.ensures))

pub overflow_mul-result : goal.overflow_mul-result
overflow_mul-result c = omega (arith, more_small _ _ _ _ (omega arith) (sym c.in_ok-v.ensures))

pub overflow_add-result : goal.overflow_add-result
overflow_add-result c = omega (arith, more_small _ _ _ _ (omega arith) (sym c.in_ok-v.ensures))

pub overflow_add-result-2 : goal.overflow_add-result-2
overflow_add-result-2 c = omega (arith, more_small _ _ _ _ (omega arith) (sym c.in_ok-v.ensures))

pub returns : goal.returns
returns c =
    sym (decode_value _ c.requires.0 (omega (arith, c.requires.1, c.requires.2)) (sym c.in_ok-v.ensures)
    ∙ ap (λ b. value (b % 128 + 128 * c.in_ok-v.v) (c.in_ok-v.n + 1)) c.requires.1)
