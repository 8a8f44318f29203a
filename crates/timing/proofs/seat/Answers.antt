-- `timing::seat` meets its contract.
use mathlib.Core.Path.{refl}
use Rattle.places.proofs.Masks.{none_free}
use Rattle.timing.proofs.Rises.{free, shifting, drawn, turned_next}
use Rattle.timing.proofs.seat.Goals as goal

pub shift-requires : goal.shift-requires
shift-requires c = let p = c.requires in shifting p.0 p.1 c.in-Some.ensures c.both.ensures

pub returns-in-Some : goal.returns-in-Some
returns-in-Some c =
    let p = c.requires in
    let w = c.in-Some.ensures in
    let f = c.both.ensures in
    turned_next p.0 p.1 (free p.0 p.1 w f) (drawn p.0 p.1 w f c.shift.ensures) c.reopen.ensures p.0.long refl

pub make_way-requires : goal.make_way-requires
make_way-requires c =
    let p = c.requires in
    let m = c.both in
    (p.0, p.1, none_free _ _ m.result m.ensures c.in_default.ensures)
