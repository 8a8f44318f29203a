-- What a `?` hands on: the error that it met.
use mathlib.Core.Path.{◌≡◌, ap, ◌∙◌}
use Rattle.std.specs.Prelude.{Result, Err}
use Rattle.std.specs.Result.{IsErr, IsErrAnd}
use Rattle.std.proofs.lemmas.Result.{err_from_is_err_and}

pub passed_on : {T E : Type 0} {r : Result T E} {e : E} → IsErr r × IsErrAnd r (λ x. x ≡ e) → r ≡ Err e
passed_on h = let p = err_from_is_err_and _ h.1 in p.1 ∙ ap Err p.2
