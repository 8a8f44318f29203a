-- `before` is a power of two less one, which has the disks under its exponent.
use mathlib.Core.Path.{ap, ◌∙◌}
use Prim.Native.Nat.{ℕ, ◌-◌}
use Rattle.basics.specs.Limits.{disks_most}
use Rattle.mask.specs.Has.{has}
use Rattle.mask.proofs.Bits.{shl_one, has_ones}
use Rattle.mask.proofs.before.Goals as goal

pub returns : goal.returns
returns c e = ap (λ (x : ℕ). has (x - 1) e) (shl_one disks_most c.args.d c.requires) ∙ has_ones c.args.d e
