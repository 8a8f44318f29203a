-- The loop's measure: how many bytes are not written.
use Rattle.std.proofs.Common.{length}
use Rattle.wire.proofs.write_whole.Given as goal

abbrev pub decreases-loop-rest : goal.decreases-loop-rest
decreases-loop-rest g l = length l.rest
