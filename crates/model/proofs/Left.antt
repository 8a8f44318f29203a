-- What an age has left of a load.
--     left_some, left_none     the two cases: the load less the age; nothing
--     left_zero                at age 0 the whole load
--     left_most                never more than the load
use Prim.Native.Nat.{ℕ, ◌-◌, ◌≤◌}
use mathlib.Core.Path.{◌≡◌, ◌∙◌}
use native.Mathlib.Omega.{arith}
use lib.Dec.{ltb}
use borrow.Author.Tests.{ltb-true, ltb-false, le-ltb}
use Rattle.basics.specs.Choice.{pick}
use Rattle.basics.proofs.Tests.{by_cases}
use Rattle.model.specs.Case.{left}

pub left_some : (age load : ℕ) → age ≤ load → left age load ≡ load - age
unfolding left pick
left_some age load h = rw (le-ltb load age h)

pub left_none : (age load : ℕ) → load ≤ age → left age load ≡ 0
unfolding left pick
left_none age load h =
    by_cases (ltb load age) (λ t. rw t) (λ f. left_some age load (ltb-false load age f) ∙ omega arith)

pub left_zero : (load : ℕ) → left 0 load ≡ load
left_zero load = left_some 0 load (omega arith) ∙ omega arith

pub left_most : (age load : ℕ) → left age load ≤ load
left_most age load =
    by_cases (ltb load age)
    (λ t. omega (arith, left_none age load (omega (arith, ltb-true load age t))))
    (λ f. omega (arith, left_some age load (ltb-false load age f)))
