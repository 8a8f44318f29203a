use lib.ListN.{take}
use Rattle.field.specs.Pen.{Lays}
use Rattle.field.specs.Put.{spell_all}
use Rattle.request.specs.Draft.{block_bytes}
use Rattle.request.proofs.put_blocks.Given as goal

abbrev pub invariant-loop-m : goal.invariant-loop-m
invariant-loop-m l = Lays (spell_all block_bytes (take l.m-index l.copies)) l.initial.pen l.pen
