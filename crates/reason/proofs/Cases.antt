-- The lists that spell the forced case, and the case that keeps a schedule's choices too.
--     priced, held                     what the engine takes has costs and copies
--     forced_spelled, forced_within    the copies with one block's cut to one disk
--     kept_spelled, kept_within        with those of the earlier blocks cut as well
use Prim.Native.Nat.{ℕ, ◌≤◌, ◌<◌}
use mathlib.Core.Path.{◌≡◌, refl, sym, ap, ap₂, fun_ext, ◌∙◌}
use mathlib.Core.Bool.{Bool}
use mathlib.Core.List.{List}
use native.Mathlib.Omega.{arith}
use lib.Dec.{eqb, ltb}
use lib.ListN.{length, get_or, take, get_or-eq_default}
use lib.Seq.{get_or-take, length-take-le}
use borrow.Author.Tests.{eqb-true, eq-eqb, ne_eqb, ltb-true, ltb-false}
use Rattle.basics.specs.Limits.{blocks_most}
use Rattle.basics.proofs.Choice.{pick_true, pick_false}
use Rattle.basics.proofs.Tests.{by_cases}
use Rattle.mask.specs.Has.{has}
use Rattle.model.specs.Case.{Case, Priced, Held}
use Rattle.places.specs.Places.{entry}
use Rattle.engine.specs.Spelled.{spelled, Spellable}
use Rattle.reason.specs.Reason.{forced}
use Rattle.reason.specs.Parts.{kept, Forced, Kept}

module _ {copies costs starts : List ℕ} (g : Spellable copies costs starts) where
  pub priced : Priced (spelled copies costs starts)
  unfolding Priced
  priced = g.table.priced

  pub held : Held (spelled copies costs starts)
  unfolding Held
  held b h = let x = g.copied.some b h in (x.0, g.copied.small b x.0 h x.1, x.1)

-- the case of so many blocks with such copies
with_copies : List ℕ → List ℕ → ℕ → (ℕ → ℕ → Bool) → Case
with_copies costs starts q copy =
    record { disks = length costs; blocks = q; start = λ d. get_or starts d 0; cost = λ d. get_or costs d 0; copy = copy }

module _ {copies costs starts : List ℕ} (g : Spellable copies costs starts) {b d : ℕ} (hb : b < length copies) (hd : d < length costs)
    {masks : List ℕ} (f : Forced copies b d masks) where
  -- as many blocks
  long : (xs : List ℕ) → length xs ≡ blocks_most → length (take (length copies) xs) ≡ length copies
  long xs e = length-take-le (length copies) xs (omega (arith, g.blocks))

  forced_copy : (i e : ℕ) → has (get_or (take (length copies) masks) i 0) e ≡ (forced (spelled copies costs starts) b d).copy i e
  unfolding forced
  forced_copy i e = by_cases (ltb i (length copies))
      (λ t. ap (λ (x : ℕ). has x e) (get_or-take (length copies) masks i 0 (ltb-true i (length copies) t)) ∙ f.same i e)
      (λ t. let l = ltb-false i (length copies) t in
      let k : length (take (length copies) masks) ≤ i = omega (arith, l, long masks f.long) in
      let z : get_or (take (length copies) masks) i 0 ≡ 0 = get_or-eq_default (take (length copies) masks) 0 k in
      let y : get_or copies i 0 ≡ 0 = get_or-eq_default copies 0 l in
      ap (λ (x : ℕ). has x e) (z ∙ sym y) ∙ sym (pick_false _ _ (ne_eqb i b (λ q. omega (arith, q)))))

  pub forced_spelled : spelled (take (length copies) masks) costs starts ≡ forced (spelled copies costs starts) b d
  unfolding forced with_copies
  forced_spelled = ap₂ (with_copies costs starts) (long masks f.long) (fun_ext (λ i. fun_ext (λ e. forced_copy i e)))

  pub forced_within : Spellable (take (length copies) masks) costs starts
  unfolding forced
  forced_within =
      record {
        blocks = omega (arith, long masks f.long, g.blocks);
        table = g.table;
        copied = record {
          small = λ i e l t. by_cases (eqb i b)
              (λ s. omega (arith, eqb-true e d (sym (pick_true _ _ s) ∙ sym (forced_copy i e) ∙ t)))
              (λ s. g.copied.small i e (omega (arith, l, long masks f.long)) (sym (pick_false _ _ s) ∙ sym (forced_copy i e) ∙ t));
          some = λ i l. by_cases (eqb i b)
              (λ s. (d, forced_copy i d ∙ pick_true _ _ s ∙ eq-eqb d d refl))
              (λ s. let x = g.copied.some i (omega (arith, l, long masks f.long)) in
              (x.0, forced_copy i x.0 ∙ pick_false _ _ s ∙ x.1));
        };
      }

  module _ {disks masks' : List ℕ} (k : Kept b disks masks masks') where
    others : (i : ℕ) → b ≤ i → get_or (take (length copies) masks') i 0 ≡ get_or (take (length copies) masks) i 0
    others i l = by_cases (ltb i (length copies))
        (λ t. let n = ltb-true i (length copies) t in
        get_or-take (length copies) masks' i 0 n ∙ k.others i l ∙ sym (get_or-take (length copies) masks i 0 n))
        (λ t. let n = ltb-false i (length copies) t in
        let x : length (take (length copies) masks') ≤ i = omega (arith, n, long masks' (k.long ∙ f.long)) in
        let y : length (take (length copies) masks) ≤ i = omega (arith, n, long masks f.long) in
        get_or-eq_default (take (length copies) masks') 0 x ∙ sym (get_or-eq_default (take (length copies) masks) 0 y))

    kept_copy : (i e : ℕ) → has (get_or (take (length copies) masks') i 0) e
        ≡ (kept (spelled copies costs starts) (entry disks) b d).copy i e
    unfolding kept
    kept_copy i e = by_cases (ltb i b)
        (λ t. let l = ltb-true i b t in
        ap (λ (x : ℕ). has x e) (get_or-take (length copies) masks' i 0 (omega arith)) ∙ k.earlier i e l ∙ sym (pick_true _ _ t))
        (λ t. ap (λ (x : ℕ). has x e) (others i (ltb-false i b t)) ∙ forced_copy i e ∙ sym (pick_false _ _ t))

    pub kept_spelled : spelled (take (length copies) masks') costs starts ≡ kept (spelled copies costs starts) (entry disks) b d
    unfolding kept with_copies
    kept_spelled =
        ap₂ (with_copies costs starts) (long masks' (k.long ∙ f.long)) (fun_ext (λ i. fun_ext (λ e. kept_copy i e)))

    pub kept_within : ((i : ℕ) → i < b → get_or disks i 0 < length costs) → Spellable (take (length copies) masks') costs starts
    unfolding kept
    kept_within low =
        let n = long masks' (k.long ∙ f.long) in
        record {
          blocks = omega (arith, n, g.blocks);
          table = g.table;
          copied = record {
            small = λ i e l t. by_cases (ltb i b)
                (λ s. let q = eqb-true e (get_or disks i 0) (sym (pick_true _ _ s) ∙ sym (kept_copy i e) ∙ t) in
                omega (arith, q, low i (ltb-true i b s)))
                (λ s. forced_within.copied.small i e (omega (arith, l, n, long masks f.long))
                (forced_copy i e ∙ sym (pick_false _ _ s) ∙ sym (kept_copy i e) ∙ t));
            some = λ i l. by_cases (ltb i b)
                (λ s. (
                  get_or disks i 0,
                  kept_copy i (get_or disks i 0) ∙ pick_true _ _ s
                      ∙ eq-eqb (get_or disks i 0) (get_or disks i 0) refl,
                ))
                (λ s. let x = forced_within.copied.some i (omega (arith, l, n, long masks f.long)) in
                (x.0, kept_copy i x.0 ∙ pick_false _ _ s ∙ sym (forced_copy i x.0) ∙ x.1));
          };
        }
