-- One disk after another is told that x is dead for it.
use Prim.Native.Nat.{ℕ, ◌+◌, ◌≤◌, ◌<◌}
use mathlib.Core.Path.{◌≡◌, refl, ◌∙◌}
use mathlib.Core.Bool.{true, false, ◌||◌}
use mathlib.Core.List.{List}
use native.Mathlib.Omega.{arith}
use borrow.Author.Count.{below_more}
use lib.ListN.{get_or, set, length, length-set}
use lib.Seq.{get_or-set_same, get_or-set_other}
use Rattle.mask.specs.Has.{has}
use Rattle.basics.proofs.Tests.{differ}
use Rattle.order.specs.Parts.{Spread}

-- the disks below d are told
pub record Told (d x : ℕ) (dead₀ dead : List ℕ) : Type 0 where
  pub done : Spread d x dead₀ dead
  pub beyond : (o : ℕ) → d ≤ o → get_or dead o 0 ≡ get_or dead₀ o 0

pub told_start : (x : ℕ) (dead₀ : List ℕ) → Told 0 x dead₀ dead₀
told_start x dead₀ =
    record {
      done = record { long = refl; same = λ o l t. refl; more = λ o l. absurd (omega arith) };
      beyond = λ o l. refl;
    }

module _ {d x : ℕ} {dead₀ dead : List ℕ} (s : Told d x dead₀ dead) where
  pub told_keep : has x d ≡ true → Told (d + 1) x dead₀ dead
  told_keep t =
      record {
        done = record {
          long = s.done.long;
          same = below_more _ d s.done.same (λ _. s.beyond d (omega arith));
          more = below_more _ d s.done.more (λ f. absurd (differ t f));
        };
        beyond = λ o l. s.beyond o (omega arith);
      }

  pub told_put : has x d ≡ false → d < length dead → (r : ℕ) → ((e : ℕ) → has r e ≡ (has (get_or dead d 0) e || has x e))
      → Told (d + 1) x dead₀ (set dead d r)
  told_put t h r f =
      let other : (o : ℕ) → (o ≡ d → ⊥) → get_or (set dead d r) o 0 ≡ get_or dead o 0 = λ o n. get_or-set_other dead d o r 0 n in
      record {
        done = record {
          long = length-set dead d r ∙ s.done.long;
          same = below_more _ d (λ o l u. other o (omega arith) ∙ s.done.same o l u) (λ u. absurd (differ u t));
          more = below_more _ d
              (λ o l u e. rw (other o (omega arith)) (s.done.more o l u e))
              (λ u e. rw (get_or-set_same dead d r 0 h, ← s.beyond d (omega arith)) (f e));
        };
        beyond = λ o l. other o (omega arith) ∙ s.beyond o (omega arith);
      }
