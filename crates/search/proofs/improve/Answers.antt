-- `search::improve` meets its contract.
use Prim.Native.Nat.{◌<◌}
use mathlib.Core.Path.{◌≡◌, sym, ◌∙◌}
use mathlib.Core.Bool.{true, ◌&&◌}
use lib.ListN.{get_or}
use Rattle.mask.specs.Has.{has}
use Rattle.basics.proofs.Tests.{differ, and_left, and_right, not_here}
use Rattle.places.specs.Places.{holds}
use Rattle.search.specs.Outcome.{Improved}
use Rattle.places.proofs.Masks.{none_free}
use Rattle.places.proofs.Shifts.{seated_shifting}
use Rattle.search.proofs.Steps.{shifted_drawn}
use native.Mathlib.Omega.{arith}
use Rattle.search.proofs.improve.Goals.{In-Some}
use Rattle.search.proofs.improve.Goals as goal

-- the disk that is found is a copy and has room
found : (c : In-Some) → let t = c.args.task in (holds c.args.masks.now t.b c.in-Some.d && has t.room c.in-Some.d) ≡ true
found c = sym (c.both.ensures c.in-Some.d) ∙ c.in-Some.ensures.found

copy : (c : In-Some) → holds c.args.masks.now c.args.task.b c.in-Some.d ≡ true
copy c = let t = c.args.task in and_left (holds c.args.masks.now t.b c.in-Some.d) (has t.room c.in-Some.d) (found c)

had : (c : In-Some) → has c.args.task.room c.in-Some.d ≡ true
had c = let t = c.args.task in and_right (holds c.args.masks.now t.b c.in-Some.d) (has t.room c.in-Some.d) (found c)

disk : (c : In-Some) → c.in-Some.d < c.args.task.n
disk c = c.requires.kept.small c.args.task.b c.in-Some.d c.requires.block (copy c)

pub shift-requires : goal.shift-requires
shift-requires c =
    let l = disk (goal.at.shift-requires c).In-Some in
    seated_shifting c.requires.seated c.args.task.b c.in-Some.d c.requires.block (omega (arith, l))
    (λ e. omega (arith, l, c.requires.off, e))

pub returns-in-Some : goal.returns-in-Some
unfolding Improved
returns-in-Some c =
    let p = c.requires in
    let t = c.args.task in
    let d = c.in-Some.d in
    let i = (goal.at.returns-in-Some c).In-Some in
    record {
      drawn = shifted_drawn t.base p.seated p.free p.block (disk i) p.off (copy i)
          (not_here (has t.base d) (λ u. differ (had i) (p.base_full d u)))
          (not_here (has t.base t.n) (λ u. omega (arith, p.base_small t.n u))) c.shift.ensures;
      disk = disk i;
      had = had i;
      long = p.long;
    }

pub displace-requires : goal.displace-requires
displace-requires c =
    let m = c.both in
    let t = c.args.task in (
      c.requires,
      none_free (get_or c.args.masks.now t.b 0) t.room m.result m.ensures c.in_default.ensures,
    )
