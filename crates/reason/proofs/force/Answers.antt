-- `reason::force`: the copies in an array, and then one store.
use native.Mathlib.Omega.{arith}
use Prim.Native.Nat.{ℕ}
use mathlib.Core.Path.{refl}
use Rattle.basics.specs.Limits.{blocks_most}
use Rattle.basics.proofs.Lists.{replicate_at}
use Rattle.reason.proofs.Cuts.{forced_store}
use Rattle.reason.proofs.force.Goals as goal

pub load-requires : goal.load-requires
load-requires c = (c.requires.0, refl, replicate_at {A = ℕ} 0 blocks_most)

pub returns : goal.returns
returns c =
    forced_store _ c.load.ensures (omega (arith, c.requires.0, c.requires.1)) c.only.ensures
