-- `tenancy_of`: the two cases of `tenancy_with`.
use Rattle.desk.proofs.Writing.{tenancy_broken, tenancy_whole}
use Rattle.desk.proofs.tenancy_of.Goals as goal

pub returns-then-copies-gt0 : goal.returns-then-copies-gt0
returns-then-copies-gt0 c = tenancy_broken _ _ c.if-copies-gt0.true

pub returns-else-copies-gt0 : goal.returns-else-copies-gt0
returns-else-copies-gt0 c = tenancy_whole _ _ c.if-copies-gt0.false
