-- `timing::make_way` meets its contract.
use mathlib.Core.Path.{refl}
use Rattle.search.specs.Outcome.{Improved}
use Rattle.timing.proofs.Rises.{seeking, reopening, awaited, turned_next, turned_raised}
use native.Mathlib.Omega.{arith}
use Rattle.timing.proofs.make_way.Goals as goal

pub displace-requires : goal.displace-requires
displace-requires c = let p = c.requires in (seeking p.0 p.1, p.2)

pub reopen-requires : goal.reopen-requires
unfolding Improved
reopen-requires c =
    let p = c.requires in
    let g = c.in-Free.ensures in
    (p.0.table.few, reopening p.0 p.1 g.had g.drawn)

pub raise-requires : goal.raise-requires
unfolding Improved
raise-requires c =
    let p = c.requires in
    let g = c.in-Stuck.ensures in
    record {
      awaited = awaited p.0 p.1 g.caught;
      begins = omega (arith, p.1);
      blocks = p.0.seated.placed.blocks;
      long = p.0.caps_at.long;
    }

pub returns-in-Free : goal.returns-in-Free
unfolding Improved
returns-in-Free c =
    let p = c.requires in
    let g = c.in-Free.ensures in
    turned_next p.0 p.1 g.had g.drawn c.reopen.ensures g.long refl

pub returns-in-Stuck : goal.returns-in-Stuck
unfolding Improved
returns-in-Stuck c =
    let p = c.requires in
    let g = c.in-Stuck.ensures in
    turned_raised p.0 p.1 g.caught g c.raise.ensures
