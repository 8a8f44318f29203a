-- `engine::plan` meets its contract.
use Prim.Native.Nat.{ℕ}
use mathlib.Core.Path.{refl}
use Rattle.basics.specs.Limits.{blocks_most}
use Rattle.basics.proofs.Lists.{replicate_at}
use Rattle.engine.proofs.Answers.{solving}
use Rattle.engine.proofs.plan.Goals as goal

pub load-requires : goal.load-requires
load-requires c = (c.requires.spellable.blocks, refl, replicate_at {A = ℕ} 0 blocks_most)

pub solve-requires : goal.solve-requires
solve-requires c =
    solving _ c.requires c.load.ensures c.new.ensures

pub shape_of-disks : goal.shape_of-disks
shape_of-disks c = (c.solve.ensures c.args.copies.now refl c.load.ensures).disks_long

pub shape_of-short : goal.shape_of-short
shape_of-short c = (c.solve.ensures c.args.copies.now refl c.load.ensures).set.short_long

pub returns : goal.returns
returns c =
    c.solve.ensures c.args.copies.now refl c.load.ensures
