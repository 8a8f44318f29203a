-- What the engine found is the plan of the case that the lists spell.
--     spellable      the lists are within the engine's ranges
--     ready          and can be lent to it
--     found_plan     what the engine found, cut to the request's blocks
use mathlib.Core.Path.{◌≡◌, refl, sym, ◌∙◌, subst, fun_ext}
use mathlib.Core.List.{List}
use Prim.Native.Nat.{ℕ, ◌≤◌}
use native.Mathlib.Omega.{arith}
use borrow.Author.Tests.{ltb-true, ltb-false}
use lib.Dec.{ltb}
use lib.ListN.{length, get_or, take, replicate, length-replicate, get_or-eq_default}
use lib.Seq.{get_or-take, length-take-le}
use Rattle.basics.specs.Limits.{blocks_most}
use Rattle.basics.proofs.Tests.{by_cases}
use Rattle.basics.specs.Lists.{listed}
use Rattle.basics.proofs.Lists.{replicate_at}
use Rattle.model.specs.Case.{Held}
use Rattle.model.specs.Plan.{Optimal}
use Rattle.engine.specs.declared.Found.{Found}
use Rattle.engine.specs.Planned.{Planned}
use Rattle.engine.specs.Spelled.{spelled, Spellable, Ready}
use Rattle.planner.specs.Asked.{PlanFor}
use Rattle.planner.specs.Parts.{Solvable, cut_to}
use Rattle.planner.proofs.Plannable.{plan_for}

pub spellable : {copies costs starts : List ℕ} → Solvable copies costs starts → Spellable copies costs starts
unfolding Held
spellable w =
    let p = w.plannable in
    record {
      blocks = p.blocks_few;
      table = record {
        few = p.disks_few;
        costs_long = refl;
        starts_long = w.starts_long;
        priced = p.cost_least;
        cheap = p.cost_within;
        soon = p.start_within;
      };
      copied = record { small = p.low; some = λ b h. let x = p.held b h in (x.0, x.2) };
    }

pub ready : {copies costs starts : List ℕ} (disks short : List ℕ) → Solvable copies costs starts
    → length disks ≡ blocks_most → length short ≡ blocks_most → Ready copies costs starts disks short
ready disks short w k l =
    let p = w.plannable in
    record { spellable = spellable w; disks_room = omega (arith, p.blocks_few); short_room = omega (arith, p.blocks_few) }

-- ---- the plan

module _ {copies costs starts disks short : List ℕ} {r : Found} (w : Solvable copies costs starts)
    (h : Planned copies costs starts (replicate blocks_most 0) (replicate blocks_most 0) disks short r) where
  few : length copies ≤ blocks_most
  few = w.plannable.blocks_few

  -- both lists have room for what was found
  pub disks_room : length copies ≤ length disks
  disks_room = omega (arith, h.disks_long, length-replicate {A = ℕ} blocks_most 0, few)

  pub short_room : r.size ≤ length short
  short_room = h.set.fits

  count_blocks : length (take (length copies) disks) ≡ length copies
  count_blocks = length-take-le (length copies) disks disks_room

  count_short : length (take r.size short) ≡ r.size
  count_short = length-take-le r.size short short_room

  -- beyond the blocks the buffer was 0
  cut_disk : (b : ℕ) → get_or disks b 0 ≡ get_or (take (length copies) disks) b 0
  cut_disk b =
      by_cases (ltb b (length copies))
      (λ s. sym (get_or-take (length copies) disks b 0 (ltb-true _ _ s)))
      (λ f.
      let l : length copies ≤ b = ltb-false _ _ f in
      h.disks_rest b l ∙ replicate_at 0 blocks_most b
      ∙ sym (get_or-eq_default (take (length copies) disks) 0 {n = b} (omega (arith, count_blocks))))

  optimal : Optimal (spelled copies costs starts) r.time (λ b. get_or (take (length copies) disks) b 0) (listed (take r.size short))
  optimal =
      subst (λ (a : ℕ → ℕ). Optimal (spelled copies costs starts) r.time a (listed (take r.size short))) (fun_ext cut_disk)
      h.plan

  pub found_plan : {q : ℕ} → length copies ≡ q → PlanFor (spelled copies costs starts) (cut_to q disks short r)
  unfolding cut_to
  found_plan e =
      subst (λ (k : ℕ). PlanFor (spelled copies costs starts) (cut_to k disks short r)) e
      (plan_for w.plannable _ count_blocks (omega (arith, count_short, h.set.few)) h.set.rises optimal)
