-- A plan whose values are in their ranges: what a plan sheet can say.
use Rattle.std.specs.Prelude.{◌-◌, ◌≤◌, length}
use Rattle.basics.specs.Limits.{disks_most, blocks_most, time_most}
use Rattle.basics.specs.Lists.{All, Rises}
use Rattle.plan.specs.Plan.{Plan, if_any}

-- Q 0 to 1,024; R, m, disk numbers and the rising block numbers as document 01 has them
pub record InRange (p : Plan) : Type 0 where
  pub few : length p.disks ≤ blocks_most
  pub time_from : if_any (length p.disks) 1 ≤ p.time
  pub time_to : p.time ≤ if_any (length p.disks) time_most
  pub disks : All (λ d. d ≤ disks_most - 1) p.disks
  pub size_from : if_any (length p.disks) 1 ≤ length p.short
  pub size_to : length p.short ≤ length p.disks
  pub blocks : Rises 0 (length p.disks - 1) p.short
