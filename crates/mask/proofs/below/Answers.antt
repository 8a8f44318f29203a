-- `below` is a power of two less one, which has the disks under its exponent.
use mathlib.Core.Path.{ap, ◌∙◌}
use Prim.Native.Nat.{ℕ, ◌-◌}
use native.Mathlib.Omega.{arith}
use lib.Dec.{ltb}
use Rattle.basics.specs.Limits.{disks_most}
use Rattle.mask.specs.Has.{has}
use Rattle.mask.proofs.Bits.{shl_one, has_ones}
use Rattle.mask.proofs.below.Goals as goal

pub returns-then-n-lt-DISKS : goal.returns-then-n-lt-DISKS
returns-then-n-lt-DISKS c = record {
  holds = λ h e. ap (λ (x : ℕ). has (x - 1) e) (shl_one disks_most c.args.n c.if-n-lt-DISKS.true)
      ∙ has_ones c.args.n e;
  beyond = λ h. absurd (omega arith);
}

pub returns-else-n-lt-DISKS : goal.returns-else-n-lt-DISKS
returns-else-n-lt-DISKS c = record { holds = λ h e. has_ones disks_most e ∙ ap (ltb e) (omega arith); beyond = λ h. has_ones disks_most }
