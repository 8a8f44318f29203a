-- `plan_line`: counts above 1,024 give no line; else the fields and then the lists.
use native.Mathlib.Omega.{arith}
use borrow.Author.Rules.{rules}
use mathlib.Core.Path.{refl}
use Rattle.line.specs.Line.{feed, bar}
use Rattle.plan.specs.Plan.{plan_of}
use Rattle.line.proofs.Adding.{writes_line}
use Rattle.line.proofs.Lines.{uncounted, plan_bound, plan_written}
use Rattle.line.proofs.plan_line.Goals as goal

pub returns-then-disks-gt-BLOCKS : goal.returns-then-disks-gt-BLOCKS
returns-then-disks-gt-BLOCKS c = uncounted _ _ _ _ c.then-disks-gt-BLOCKS.either

pub returns : goal.returns
unfolding feed bar
returns c =
    let k = c.if-disks-gt-BLOCKS.false in
    let l = c.if-short-gt-BLOCKS.false in
    writes_line (plan_written _ _ _ k l c.heading.ensures c.barred.ensures c.barred-2.ensures c.byte.ensures) refl
    (omega (arith, plan_bound c.args.unit c.args.tenancy (plan_of c.args.time c.args.disks.now c.args.short.now) k l)) (search rules)
