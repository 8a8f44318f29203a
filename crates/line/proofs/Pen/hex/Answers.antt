-- `hex`. Each byte is put as its two digits, behind those of the bytes before.
use native.Mathlib.Omega.{arith}
use mathlib.Core.Path.{refl}
use lib.ListN.{length-set}
use Rattle.line.proofs.Adding.{writes_start, writes_two, writes_pair, writes_short, hex_length}
use Rattle.line.specs.Text.{pair, hex}
use Rattle.line.proofs.Pen.hex.Goals as goal

pub loop-b-init : goal.loop-b-init
unfolding hex
loop-b-init c = (writes_start pair _, omega arith, refl)

pub loop-b-preserved : goal.loop-b-preserved
loop-b-preserved c =
    let i = c.loop-b.invariant in (
      writes_pair c.args.xs.now c.loop-b-test.true c.digit.ensures c.digit-in-loop-b.ensures i.0
          (writes_two _ refl (omega (arith, i.1, i.2, c.if-xs-room.true, c.saturating_sub-room.ensures, c.loop-b-test.true)) refl refl),
      omega (arith, i.1),
      simp length-set i.2,
    )

pub returns-else-xs-room : goal.returns-else-xs-room
returns-else-xs-room c =
    writes_short 0 refl _ (omega (arith, hex_length c.args.xs.now, c.if-xs-room.false, c.saturating_sub-room.ensures)) refl
