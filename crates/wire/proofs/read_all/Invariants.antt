-- The loop's invariant: what was read lies within the buffer.
use Rattle.std.proofs.Common.{length, ◌≤◌, ◌≡◌}
use Rattle.wire.proofs.read_all.Given as goal

abbrev pub invariant-loop : goal.invariant-loop
invariant-loop g l = (l.have ≤ length l.buf) × (length l.buf ≡ length l.initial.buf)
