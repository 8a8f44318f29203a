-- `rp_read_plan`: the sheet is read into a list of our own, as long as the bytes have room for; what was read is then put into the bytes.
use mathlib.Core.Path.{sym, ◌∙◌}
use mathlib.Core.List.{◌++◌}
use lib.ListN.{length, drop, replicate}
use lib.Seq.{take_at}
use Rattle.basics.specs.Limits.{blocks_most}
use Rattle.number.specs.Bytes.{Bytes}
use Rattle.desk.proofs.Reading.{accepted, packs, room_part, pairs_fit, plan_read, set_put, set_kept}
use Rattle.desk.proofs.rp_read_plan.Goals as goal
use Rattle.desk.proofs.rp_read_plan.Goals.{in-Ok, in_default}

pub put_pairs-requires : goal.put_pairs-requires
unfolding Bytes
put_pairs-requires c =
    pairs_fit (replicate blocks_most 0) c.read-read.new.short c.args.short.now c.room-k.result
    (accepted _ _ _ (λ i. (c.type_inv.sheet i).fits) c.read-read.ensures c.in-Ok.is)
    c.room-k.ensures c.room-k.ensures.within c.read-read.auto.short

pub pack_plan-requires : goal.pack_plan-requires
unfolding Bytes
pack_plan-requires c =
    let p = packs _ _ _ (λ i. (c.type_inv.sheet i).fits) c.read-read.ensures in
    elim c.match-read.branch [ in-Ok w ↦ rw (w.read-is ∙ sym w.in-Ok.is) p | in_default w ↦ rw w.read-is p ]

pub returns : goal.returns
unfolding Bytes
returns c =
    let bytes : Bytes c.args.sheet.now = λ i. (c.type_inv.sheet i).fits in
    let room = room_part (replicate blocks_most 0) c.room-k.ensures c.room-k.ensures.within in
    let packed = c.pack_plan.ensures (length c.args.sheet.now) in
    elim c.match-read.branch [
      | in-Ok w ↦
          plan_read _ _ _ bytes c.read-read.ensures c.args.short.now room (rw (w.read-is ∙ sym w.in-Ok.is) at packed)
          (w.short-is ∙ w.put_pairs.ensures
          ∙ set_put _ _ _ bytes c.read-read.ensures c.args.short.now room
          (c.read-read.new.short ++ drop c.room-k.result (replicate blocks_most 0)) w.in-Ok.is (take_at _ _ _ c.read-read.auto.short))
      | in_default w ↦
          plan_read _ _ _ bytes c.read-read.ensures c.args.short.now room (rw w.read-is at packed)
          (w.short-is ∙ set_kept _ _ _ bytes c.read-read.ensures c.args.short.now room w.in_default.is)
    ]
