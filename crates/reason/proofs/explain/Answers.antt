-- `reason::explain`: the plan, and two more least times.
use native.Mathlib.Omega.{arith}
use mathlib.Core.Path.{sym, ◌∙◌}
use lib.Seq.{length-take-le}
use Rattle.reason.proofs.Answers.{no_copy, is_chosen, is_later, is_not_kept, is_lower, kept_low, kept_disks, plan_disks}
use Rattle.reason.proofs.Cases.{forced_within, kept_within}
use Rattle.reason.proofs.explain.Goals as goal

pub returns-then-not-held : goal.returns-then-not-held
returns-then-not-held c =
    no_copy c.requires.0 c.requires.1 c.requires.2 (sym c.held.ensures ∙ c.if-not-held.true)

pub plan-found-requires : goal.plan-found-requires
plan-found-requires c =
    let r = c.requires.0 in
    record { spellable = r; disks_room = omega (arith, c.requires.0.blocks); short_room = omega (arith, c.requires.0.blocks) }

pub overflow_cast-disks : goal.overflow_cast-disks
overflow_cast-disks c =
    omega (arith, plan_disks c.requires.0 c.requires.1 c.requires.2 c.plan-found.ensures)

pub returns-then-disks-block : goal.returns-then-disks-block
returns-then-disks-block c =
    is_chosen c.requires.0 c.requires.1 c.requires.2 c.plan-found.ensures c.if-disks-block.true

pub slice_bounds-least-end : goal.slice_bounds-least-end
slice_bounds-least-end c =
    sym (length-take-le _ _ (omega (arith, c.requires.0.blocks, c.force-masks.ensures.long)))

pub least-later-requires : goal.least-later-requires
least-later-requires c =
    forced_within c.requires.0 c.requires.1 c.requires.2 c.force-masks.ensures

pub returns-then-found-later : goal.returns-then-found-later
returns-then-found-later c =
    is_later c.requires.0 c.requires.1 c.requires.2 c.plan-found.ensures
    (sym c.held.ensures ∙ c.if-not-held.false) c.force-masks.ensures c.least-later.ensures
    c.if-found-later.true

pub keep-requires : goal.keep-requires
keep-requires c =
    let p = c.plan-found.ensures in (
      omega (arith, p.disks_long, c.requires.1, c.requires.0.blocks),
      omega (arith, c.requires.1, c.requires.0.blocks),
      c.force-masks.ensures.long,
      kept_disks c.requires.0 c.requires.1 c.requires.2 p,
    )

pub slice_bounds-masks-end-2 : goal.slice_bounds-masks-end-2
slice_bounds-masks-end-2 c =
    omega (arith, c.requires.0.blocks)

pub slice_bounds-least-end-2 : goal.slice_bounds-least-end-2
slice_bounds-least-end-2 c =
    sym (length-take-le _ _ (omega (arith, c.requires.0.blocks, c.force-masks.ensures.long, c.keep.ensures.long)))

pub least-kept-requires : goal.least-kept-requires
least-kept-requires c =
    kept_within c.requires.0 c.requires.1 c.requires.2 c.force-masks.ensures c.keep.ensures
    (kept_low c.requires.0 c.requires.1 c.requires.2 c.plan-found.ensures)

pub returns-then-found-kept : goal.returns-then-found-kept
returns-then-found-kept c =
    is_not_kept c.requires.0 c.requires.1 c.requires.2 c.plan-found.ensures
    (sym c.held.ensures ∙ c.if-not-held.false) c.force-masks.ensures c.least-later.ensures
    (omega arith) c.keep.ensures c.least-kept.ensures c.if-found-kept.true

pub returns : goal.returns
returns c =
    is_lower c.requires.0 c.requires.1 c.requires.2 c.plan-found.ensures
    (sym c.held.ensures ∙ c.if-not-held.false) c.force-masks.ensures c.least-later.ensures
    (omega arith) c.keep.ensures c.least-kept.ensures (omega arith) c.if-disks-block.false
