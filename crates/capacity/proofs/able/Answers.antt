-- `capacity::able` meets its contract.
use Prim.Native.Nat.{ℕ, ◌/◌}
use mathlib.Core.Path.{ap}
use native.Mathlib.Omega.{arith}
use Rattle.capacity.proofs.Rooms.{able_at}
use Rattle.capacity.proofs.able.Goals as goal

pub returns : goal.returns
returns c =
    let a = c.args in
    omega (arith, able_at a.start a.cost a.t, ap (λ (y : ℕ). y / a.cost) c.saturating_sub.ensures)
