-- `only` is a power of two, which has one disk.
use mathlib.Core.Path.{ap, ◌∙◌}
use Prim.Native.Nat.{ℕ}
use Rattle.basics.specs.Limits.{disks_most}
use Rattle.mask.specs.Has.{has}
use Rattle.mask.proofs.Bits.{shl_one, has_pow}
use Rattle.mask.proofs.only.Goals as goal

pub returns : goal.returns
returns c e = ap (λ (x : ℕ). has x e) (shl_one disks_most c.args.d c.requires) ∙ has_pow c.args.d e
