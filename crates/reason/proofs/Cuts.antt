-- Copies cut in an array.
--     forced_store               those of one block
--     kept_start, kept_more      those of the earlier blocks, one after another
use Prim.Native.Nat.{ℕ, ◌+◌, ◌<◌}
use mathlib.Core.Path.{◌≡◌, refl, sym, ap, ◌∙◌}
use mathlib.Core.List.{List}
use native.Mathlib.Omega.{arith}
use lib.Dec.{eqb}
use lib.ListN.{length, get_or, set, length-set}
use lib.Seq.{get_or-set_same, get_or-set_other}
use borrow.Author.Tests.{eqb-true, eqb-false}
use Rattle.basics.specs.Limits.{blocks_most}
use Rattle.basics.proofs.Choice.{pick_true, pick_false}
use Rattle.basics.proofs.Tests.{by_cases}
use Rattle.mask.specs.Has.{has}
use Rattle.engine.specs.Spelled.{Loaded}
use Rattle.reason.specs.Parts.{Forced, Kept}

pub forced_store : {copies masks : List ℕ} {b d : ℕ} (r : ℕ) → Loaded copies masks → b < blocks_most → ((e : ℕ) → has r e ≡ eqb e d)
    → Forced copies b d (set masks b r)
forced_store {copies} {masks} {b} {d} r l h o =
    record {
      long = length-set masks b r ∙ l.long;
      same = λ i e. by_cases (eqb i b)
          (λ t. let n : i ≡ b = eqb-true i b t in
          ap (λ (x : ℕ). has (get_or (set masks b r) x 0) e) n
          ∙ ap (λ (x : ℕ). has x e) (get_or-set_same masks b r 0 (omega (arith, h, l.long))) ∙ o e ∙ sym (pick_true _ _ t))
          (λ t. ap (λ (x : ℕ). has x e) (get_or-set_other masks b i r 0 (eqb-false i b t) ∙ l.same i) ∙ sym (pick_false _ _ t));
    }

pub kept_start : (disks masks : List ℕ) → Kept 0 disks masks masks
kept_start disks masks = record { long = refl; earlier = λ i e h. absurd (omega (arith, h)); others = λ i _. refl }

pub kept_more : {b : ℕ} {disks masks masks' : List ℕ} (r : ℕ) → Kept b disks masks masks' → b < length masks
    → ((e : ℕ) → has r e ≡ eqb e (get_or disks b 0)) → Kept (b + 1) disks masks (set masks' b r)
kept_more {b} {disks} {masks} {masks'} r k h o =
    record {
      long = length-set masks' b r ∙ k.long;
      earlier = λ i e l. by_cases (eqb i b)
          (λ t. let n : i ≡ b = eqb-true i b t in
          ap (λ (x : ℕ). has (get_or (set masks' b r) x 0) e) n
          ∙ ap (λ (x : ℕ). has x e) (get_or-set_same masks' b r 0 (omega (arith, h, k.long))) ∙ o e
          ∙ ap (λ (x : ℕ). eqb e (get_or disks x 0)) (sym n))
          (λ t. let n = eqb-false i b t in
          ap (λ (x : ℕ). has x e) (get_or-set_other masks' b i r 0 n) ∙ k.earlier i e (omega (arith, l, n)));
      others = λ i l. get_or-set_other masks' b i r 0 (λ n. omega (arith, l, n)) ∙ k.others i (omega (arith, l));
    }
