-- `run`: the line lies within its buffer, the bytes used are there, bytes that came fit, and each way through the loop keeps it.
use Rattle.std.proofs.Common.{◌≡◌, ◌+◌, ◌∙◌, sym, ap, arith, Ok}
use Rattle.std.proofs.Math.Seq.{length-take-le}
use Rattle.line.proofs.Adding.{printed_within}
use Rattle.shelf.proofs.Loop.{holds_start, used_within, holds_served, holds_as, room_left, holds_came, holds_told}
use Rattle.wire.specs.declared.Input.TheVariants.{Bytes, Later}
use Rattle.shelf.proofs.run.Goals as goal
use Rattle.shelf.proofs.run.Goals.{in-Served, in-Wants+in_ok-n-in-Wants+in-Bytes, in-Wants+in_ok-n-in-Wants+in-Later}
use Rattle.shelf.proofs.run.Goals.{in-Wants+in_ok-n-in-Wants+in-End}

pub loop-init : goal.loop-init
loop-init c = holds_start _ c.new-shelf.ensures (omega arith)

pub slice_bounds-line-end : goal.slice_bounds-line-end
slice_bounds-line-end c = printed_within c.serve-turn.ensures.printed

pub slice_bounds-print-end : goal.slice_bounds-print-end
slice_bounds-print-end c = sym (length-take-le _ _ (printed_within c.serve-turn.ensures.printed))

pub shift-have-requires : goal.shift-have-requires
shift-have-requires c = (used_within c.loop.invariant _ c.serve-turn.ensures c.in-Served.is, c.loop.invariant.within)

pub read_behind-requires : goal.read_behind-requires
read_behind-requires c = room_left c.loop.invariant _ c.serve-turn.ensures c.in-Wants.is

pub loop-preserved : goal.loop-preserved
loop-preserved c =
    let inv = c.loop.invariant in
    let turn = c.serve-turn.ensures in
    let nothing : c.loop.have ≡ c.loop.have + 0 = omega arith in
    elim c.match-turn.branch [
      | in-Served w ↦ holds_as w.buf-is w.have-is w.ended-is (holds_served inv _ turn w.in-Served.is w.shift-have.ensures)
      | in-Wants+in_ok-n-in-Wants+in-Bytes w ↦ holds_as w.buf-is w.have-is w.ended-is
          (holds_came inv _ turn w.in-Wants.is (Bytes _) w.read_behind.ensures (w.in_ok-n-in-Wants.was ∙ ap Ok w.in-Bytes.is))
      | in-Wants+in_ok-n-in-Wants+in-Later w ↦ holds_as w.buf-is (w.have-is ∙ nothing) w.ended-is
          (holds_came inv _ turn w.in-Wants.is Later w.read_behind.ensures (w.in_ok-n-in-Wants.was ∙ ap Ok w.in-Later.is))
      | in-Wants+in_ok-n-in-Wants+in-End w ↦ holds_as w.buf-is w.have-is w.ended-is
          (holds_told inv _ turn w.in-Wants.is w.read_behind.ensures)
    ]
