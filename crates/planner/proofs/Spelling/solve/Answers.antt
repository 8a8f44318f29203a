-- The lists, cut to Q and N, are lent to the engine, and what it found is sent: `ready`, `found_plan`.
use Prim.Native.Nat.{ℕ}
use lib.ListN.{length-replicate}
use lib.Seq.{length-take-le}
use Rattle.basics.specs.Limits.{blocks_most}
use Rattle.planner.specs.Parts.{cut_to}
use Rattle.planner.proofs.Found.{ready, found_plan}
use Rattle.planner.proofs.Spelling.solve.Goals as goal

pub plan-found-requires : goal.plan-found-requires
plan-found-requires c = let long = length-replicate {A = ℕ} blocks_most 0 in
    rw c.copies.ensures (rw c.costs.ensures (rw c.starts.ensures (ready _ _ c.requires.3 long long)))

pub returns : goal.returns
unfolding cut_to
returns c = record {
  plan = _;
  is = found_plan c.requires.3
      (rw c.copies.ensures at (rw c.costs.ensures at (rw c.starts.ensures at c.plan-found.ensures))) (length-take-le _ _ c.requires.0);
  sent = c.write.ensures;
}
