-- `engine::least` meets its contract.
use Prim.Native.Nat.{ℕ}
use mathlib.Core.Path.{refl}
use Rattle.basics.specs.Limits.{blocks_most}
use Rattle.basics.proofs.Lists.{replicate_at}
use Rattle.engine.proofs.Answers.{spelling, least_of}
use Rattle.engine.proofs.least.Goals as goal

pub load-requires : goal.load-requires
load-requires c = (c.requires.blocks, refl, replicate_at {A = ℕ} 0 blocks_most)

pub schedule-requires : goal.schedule-requires
schedule-requires c =
    spelling _ c.requires c.load.ensures c.new.ensures

pub returns : goal.returns
returns c =
    least_of c.requires.table c.load.ensures c.schedule.ensures
