use Rattle.places.specs.Among.{among}
use Rattle.engine.proofs.Lists.{Listing}
use Rattle.engine.proofs.list_among.Given as goal

abbrev pub invariant-loop-b : goal.invariant-loop-b
invariant-loop-b l = Listing l.b (among l.masks l.x) l.initial.short l.short l.size
