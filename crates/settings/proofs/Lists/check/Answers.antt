-- Lists that fail one of the tests don't fit; those that pass all do.
use mathlib.Core.Path.{sym}
use native.Mathlib.Omega.{arith}
use Rattle.settings.proofs.Writing.{fit_lists, unfit_lists}
use Rattle.settings.proofs.Lists.check.Goals as goal

pub returns-then-tenancy-eq0 : goal.returns-then-tenancy-eq0
returns-then-tenancy-eq0 c = (
  sym (unfit_lists (λ fit.
      let either = c.then-tenancy-eq0.either in
      let level = fit.level in
      grind (arith, either, fit.rented, level.loads, level.delays, level.marks, fit.some, fit.few))),
  c.at.ensures,
)

pub returns : goal.returns
returns c =
    fit_lists (record {
      rented = omega (arith, c.if-tenancy-eq0.false);
      level = record { loads = c.if-loads-n.false; delays = c.if-delays-n.false; marks = c.if-marks-n.false };
      some = c.if-n-lt1.false;
      few = c.if-n-gt-DISKS.false;
    })
