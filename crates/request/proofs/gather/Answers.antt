-- `gather`: the loop over the disks of a block.
use mathlib.Core.Path.{◌∙◌}
use Rattle.field.proofs.Readers.{refused_as}
use Rattle.request.proofs.Reading.{gathering_ends, gathering_stop, gathering_low, gathering_step, gathering_done}
use Rattle.request.proofs.gather.Goals as goal

pub returns-in_default : goal.returns-in_default
returns-in_default c =
    refused_as c.at.ensures ∙ gathering_ends c.loop-i.invariant c.loop-i-test.true c.in_default.ensures.lookup.3

pub returns-then-high-d : goal.returns-then-high-d
returns-then-high-d c = gathering_stop c.loop-i.invariant c.loop-i-test.true (c.not_disk.ensures _)

pub returns-then-d-floor : goal.returns-then-d-floor
returns-then-d-floor c =
    let b = c.in-Some.ensures.lookup.3 in
    refused_as c.at-then-d-floor.ensures
    ∙ gathering_low c.loop-i.invariant c.requires b.0 (c.from-d.ensures ∙ b.1 0) c.if-high-d.false c.loop-i-test.true c.if-d-floor.true

pub loop-i-preserved : goal.loop-i-preserved
loop-i-preserved c =
    let b = c.in-Some.ensures.lookup.3 in
    gathering_step c.loop-i.invariant c.requires b.0 (c.from-d.ensures ∙ b.1 0) c.if-high-d.false c.loop-i-test.true c.if-d-floor.false
    c.put-m.type_inv c.put-m.ensures

pub returns : goal.returns
returns c = gathering_done c.loop-i.invariant c.loop-i-test.false
