-- `start` meets its contract, rule by rule: the sum, or the larger of the two.
use native.Mathlib.Omega.{arith}
use mathlib.Core.Path.{sym, ap}
use Rattle.model.specs.declared.Rule.{Rule}
use Rattle.model.specs.Case.{starting}
use Rattle.planner.proofs.start.Goals as goal

pub returns-in-Sum : goal.returns-in-Sum
unfolding starting
returns-in-Sum c = sym (ap (λ (r : Rule). starting r c.args.delay c.args.load) c.in-Sum.is)

pub returns-in-Larger : goal.returns-in-Larger
unfolding starting
returns-in-Larger c = omega (arith, ap (λ (r : Rule). starting r c.args.delay c.args.load) c.in-Larger.is)
