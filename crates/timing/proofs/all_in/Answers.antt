-- `timing::all_in` meets its contract.
use mathlib.Core.Path.{sym, ◌∙◌}
use native.Mathlib.Omega.{arith}
use borrow.Author.Tests.{eqb-true, eqb-false}
use Rattle.basics.proofs.Tests.{by_cases}
use Rattle.places.proofs.Among.{inside_true, inside_false}
use lib.Dec.{eqb}
use Rattle.timing.proofs.all_in.Goals as goal

pub returns : goal.returns
returns c =
    let m = c.args.copies in
    let x = c.args.x in
    let w = c.without in
    by_cases (eqb w.result 0)
    (λ e. e ∙ sym (inside_true m x w.result w.ensures (eqb-true w.result 0 e)))
    (λ e. e ∙ sym (inside_false m x w.result w.ensures (omega (arith, w.type_inv)) (eqb-false w.result 0 e)))
