-- `search::displace` meets its contract.
use mathlib.Core.Path.{refl}
use Rattle.search.specs.Outcome.{Improved}
use Rattle.search.specs.Parts.{Sought}
use Rattle.search.proofs.displace.Goals as goal

pub pull-requires : goal.pull-requires
unfolding Sought
pull-requires c =
    let p = c.requires.0 in
    let s = c.seek-hit.ensures in
    let w = rw c.in-Free.is at s.0 in
    record {
      seated = record { placed = p.seated.placed; ringed = p.seated.ringed; far = s.1 };
      way = w.1;
      few = w.0;
      off = p.off;
      base_small = p.base_small;
    }

pub returns-in-Free : goal.returns-in-Free
unfolding Sought Improved
returns-in-Free c =
    let s = c.seek-hit.ensures in
    let w = rw c.in-Free.is at s.0 in
    record { drawn = c.pull.ensures; disk = w.1.disk; had = w.2; long = s.2 }

pub returns-in_default : goal.returns-in_default
unfolding Sought Improved
returns-in_default c =
    let s = c.seek-hit.ensures in
    rw c.in_default.is (record {
      same_seats = refl;
      same_counts = refl;
      same_next = refl;
      same_prev = refl;
      far = s.1;
      long = s.2;
      caught = rw c.in_default.is at s.0;
    })
