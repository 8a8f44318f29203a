-- `left` meets its contract, by the two cases of what is left.
use native.Mathlib.Omega.{arith}
use Rattle.basics.proofs.Tests.{below_or}
use Rattle.model.proofs.Left.{left_some, left_none}
use Rattle.planner.proofs.left.Goals as goal

pub returns : goal.returns
returns c =
    let a = c.args in
    below_or a.load a.age
    (λ l. omega (arith, left_none a.age a.load (omega arith)))
    (λ l. omega (arith, left_some a.age a.load l))
