-- The loop's invariant: of the pieces that were read so much is served, and what is left stands at the start of the buffer.
use Rattle.std.proofs.Common.{length}
use Rattle.shelf.proofs.Loop.{Holds}
use Rattle.shelf.proofs.run.Given as goal

abbrev pub invariant-loop : goal.invariant-loop
invariant-loop l = Holds (length l.initial.buf) l.shelf l.buf l.have l.ended
