use Rattle.settings.proofs.Reading.{Rows}
use Rattle.settings.proofs.body.Given as goal

abbrev pub invariant-loop-slot : goal.invariant-loop-slot
invariant-loop-slot l = Rows (record { kind = l.kind; disks = l.disks; rule = l.rule }) l.s l.start l.slot-items l.at l.slot-index
