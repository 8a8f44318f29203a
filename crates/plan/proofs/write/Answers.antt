-- `write`: counts above 1,024, a buffer that is too short, or the whole sheet.
use native.Mathlib.Omega.{arith}
use borrow.Author.Rules.{rules}
use Rattle.plan.specs.Draft.{plan_numbers, plan_bytes}
use Rattle.field.proofs.Pens.{lays_done}
use Rattle.plan.proofs.Writing.{many_disks, many_members, long_sent, laid_sent, sheet_lays}
use Rattle.plan.proofs.write.Goals as goal
use Rattle.plan.proofs.write.Goals.{then-disks-gt-BLOCKS-via-then-disks-gt-BLOCKS}
use Rattle.plan.proofs.write.Goals.{then-disks-gt-BLOCKS-via-else-disks-gt-BLOCKS+then-short-gt-BLOCKS}

pub returns-then-disks-gt-BLOCKS : goal.returns-then-disks-gt-BLOCKS
returns-then-disks-gt-BLOCKS c =
    rw c.at.ensures
    (elim c.then-disks-gt-BLOCKS.branch [
      | then-disks-gt-BLOCKS-via-then-disks-gt-BLOCKS w ↦ many_disks _ _ _ _ w.if-disks-gt-BLOCKS.true
      | then-disks-gt-BLOCKS-via-else-disks-gt-BLOCKS+then-short-gt-BLOCKS w ↦ many_members _ _ _ _ w.if-short-gt-BLOCKS.true
    ])

pub returns-then-out-length : goal.returns-then-out-length
unfolding plan_bytes plan_numbers
returns-then-out-length c =
    rw c.at-then-out-length.ensures
    (long_sent _ _ _ _ c.if-disks-gt-BLOCKS.false c.if-short-gt-BLOCKS.false c.sheet_width-length.ensures (omega arith))

pub returns : goal.returns
unfolding plan_bytes plan_numbers
returns c =
    laid_sent _ _ _ _ c.if-disks-gt-BLOCKS.false c.if-short-gt-BLOCKS.false
    (lays_done (sheet_lays _ _ _ c.list.ensures c.list-2.ensures c.put.ensures c.list-3.ensures)
    (omega (arith, c.sheet_width-length.ensures, c.if-out-length.false)) (search rules))
