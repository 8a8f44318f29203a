-- `width` meets its contract: the parts are added up, five bytes each at the most.
use native.Mathlib.Omega.{arith}
use Rattle.number.proofs.Encode.{width_bounds}
use Rattle.request.specs.Draft.{age_bytes}
use Rattle.request.proofs.Aged.{age_bound}
use Rattle.request.proofs.Writing.{heading_length}
use Rattle.request.proofs.Head.width.Goals as goal

pub overflow_add-result : goal.overflow_add-result
overflow_add-result c = omega (arith, width_bounds c.args.unit)

pub overflow_add-result-2 : goal.overflow_add-result-2
overflow_add-result-2 c = omega (arith, width_bounds c.args.unit, width_bounds c.args.tenancy)

pub overflow_add-result-3 : goal.overflow_add-result-3
unfolding age_bytes
overflow_add-result-3 c =
    let h = c.args.self in omega (arith, width_bounds c.args.unit, width_bounds c.args.tenancy, age_bound h.kind h.age)

pub overflow_add-result-4 : goal.overflow_add-result-4
unfolding age_bytes
overflow_add-result-4 c =
    let h = c.args.self in
    omega (arith, width_bounds c.args.unit, width_bounds c.args.tenancy, age_bound h.kind h.age, width_bounds h.blocks)

pub returns : goal.returns
unfolding age_bytes
returns c =
    let h = c.args.self in omega (arith, heading_length h.kind c.args.unit c.args.tenancy h.age h.blocks c.requires)
