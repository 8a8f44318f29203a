-- `rows`: the first list that is not usable decides.
use mathlib.Core.Path.{refl}
use Rattle.basics.proofs.Question.{passed_on}
use Rattle.basics.proofs.Tests.{first_false}
use Rattle.desk.proofs.rows.Goals as goal

pub returns-in_err-whole : goal.returns-in_err-whole
returns-in_err-whole c =
    rw (passed_on c.from_residual.ensures) (first_false _ c.in_err-whole.ensures.0, c.in_err-whole.ensures.1)

pub returns-in_err-whole-2 : goal.returns-in_err-whole-2
returns-in_err-whole-2 c =
    rw (passed_on c.from_residual-in_err-whole-2.ensures)
    (rw (c.in_ok-whole.ensures, c.in_err-whole-2.ensures.0) refl, c.in_err-whole-2.ensures.1)

pub returns-in_err-whole-3 : goal.returns-in_err-whole-3
returns-in_err-whole-3 c =
    rw (passed_on c.from_residual-in_err-whole-3.ensures)
    (rw (c.in_ok-whole.ensures, c.in_ok-whole-2.ensures) c.in_err-whole-3.ensures.0, c.in_err-whole-3.ensures.1)

pub returns : goal.returns
returns c = rw (c.in_ok-whole.ensures, c.in_ok-whole-2.ensures) c.in_ok-whole-3.ensures
