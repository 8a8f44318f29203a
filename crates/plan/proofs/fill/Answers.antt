-- `fill`: either list is too short, or both are read from their places, which the frame says are good.
use native.Mathlib.Omega.{arith}
use Rattle.plan.proofs.Reading.{few_disks, few_members, again_disks, again_short, received}
use Rattle.plan.proofs.fill.Goals as goal

pub returns-then-disks-q : goal.returns-then-disks-q
returns-then-disks-q c = λ p e w. few_disks p e _ _ w c.at.ensures (omega arith)

pub returns-then-short-m : goal.returns-then-short-m
returns-then-short-m c = λ p e w. few_members p e _ _ w c.at-then-short-m.ensures (omega arith) (omega arith)

pub returns-in_err-read_disks : goal.returns-in_err-read_disks
returns-in_err-read_disks c = λ p e w. absurd (again_disks w c.in_err-read_disks.ensures.answer)

pub returns-in_err-read_short : goal.returns-in_err-read_short
returns-in_err-read_short c =
    λ p e w. absurd (again_short w c.in_err-read_short.ensures.answer)

pub returns : goal.returns
returns c =
    λ p e w. received p e _ _ w c.if-disks-q.false c.if-short-m.false
    c.in_ok-read_disks.ensures.held c.in_ok-read_short.ensures.held
