-- A block below Q and a disk below N, or refusal 16.
--     within_in              both are below where a case is handed on
--     within_block, within_disk, within_case     a block at Q or above; a disk at N or above; neither
use Prim.Native.Nat.{ℕ, ◌≤◌, ◌<◌}
use mathlib.Core.Bool.{◌&&◌}
use mathlib.Core.Path.{◌≡◌, sym, ◌∙◌}
use native.Mathlib.Omega.{arith}
use borrow.Author.Tests.{ltb-true, lt-ltb, le-ltb}
use lib.Dec.{ltb}
use Rattle.basics.proofs.Choice.{pick_true, pick_false}
use Rattle.basics.proofs.Tests.{by_cases, both, and_both, first_false, second_false}
use Rattle.field.specs.Sheet.{unplaced, Out, got, refused}
use Rattle.model.specs.Case.{Case}
use Rattle.why.specs.Why.{within}

module _ (m : Case) (e b d : ℕ) where
  pub within_block : m.blocks ≤ b → within (got m e) b d ≡ refused (unplaced 16)
  unfolding within
  within_block l = pick_false _ _ (first_false _ (le-ltb _ _ l))

  pub within_disk : m.disks ≤ d → within (got m e) b d ≡ refused (unplaced 16)
  unfolding within
  within_disk l = pick_false _ _ (second_false (ltb b m.blocks) (le-ltb _ _ l))

  pub within_case : b < m.blocks → d < m.disks → within (got m e) b d ≡ got m e
  unfolding within
  within_case l k = pick_true _ _ (and_both _ _ (lt-ltb _ _ l) (lt-ltb _ _ k))

pub within_in : (o : Out Case) (b d : ℕ) {m : Case} {e : ℕ} → within o b d ≡ got m e → (o ≡ got m e) × (b < m.blocks) × (d < m.disks)
unfolding within
within_in (got m' e') b d {m} {e} h =
    by_cases (ltb b m'.blocks && ltb d m'.disks)
    (λ t.
    let k : got m' e' ≡ got m e = sym (pick_true _ _ t) ∙ h in
    let n : m' ≡ m = cc in
    let x = both _ _ t in
    (k, rw (sym n) (ltb-true _ _ x.0), rw (sym n) (ltb-true _ _ x.1)))
    (λ f. absurd (let k : refused (unplaced 16) ≡ got m e = sym (pick_false _ _ f) ∙ h in let z : ◌≡◌ {A = ℕ} 0 1 = cc in omega arith))
within_in (refused n) b d {m} {e} h = absurd (let z : ◌≡◌ {A = ℕ} 0 1 = cc in omega arith)
