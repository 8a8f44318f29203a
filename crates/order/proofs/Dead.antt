-- Disks that no block from elsewhere can go to.
--     owned_any       disks that one schedule fills with blocks that have no copy elsewhere, every schedule does
--     lowest_by       where all lower copies of a block are dead for its disk, no schedule has it lower
--     dead_any        what is dead is so in every schedule
--     dead_cut        and after a block's copies are cut to its disk
--     dead_spread     more dead disks
use Prim.Native.Nat.{ℕ, ◌<◌}
use mathlib.Core.Path.{◌≡◌, refl, sym, ap, ◌∙◌}
use mathlib.Core.Logic.{⊎_elim}
use mathlib.Core.Bool.{Bool, true, false, not, ◌&&◌, ◌||◌}
use mathlib.Core.List.{List}
use native.Mathlib.Omega.{arith}
use lib.Dec.{eqb, ltb}
use lib.ListN.{get_or}
use borrow.Author.Tests.{ltb-true, ltb-false, eqb-true, eqb-false, not-true}
use Rattle.mask.specs.Has.{has}
use Rattle.basics.specs.Count.{any}
use Rattle.model.specs.Assignment.{reads, Valid, Within}
use Rattle.model.specs.Shortfall.{touches}
use Rattle.model.specs.Closed.{Closed}
use Rattle.basics.proofs.Tests.{by_cases, differ, and_left, and_right, and_both, or_elim, or_left, or_right, not_here}
use Rattle.basics.proofs.Count.{count_some, any_here, any_some, any_none}
use Rattle.model.proofs.Duality.{valid_partial}
use Rattle.model.proofs.Closed.{closed_greatest, greatest_closed}
use Rattle.places.specs.Places.{entry, holds}
use Rattle.places.proofs.Laws.{reads_here}
use Rattle.order.specs.Parts.{Owned, DeadFor, LowestAt, Spread}

-- whether every disk of A below n is in X
inside : ℕ → (ℕ → Bool) → (ℕ → Bool) → Bool
inside n A X = not (any n (λ d. A d && not (X d)))

inside_has : {n d : ℕ} (A X : ℕ → Bool) → d < n → inside n A X ≡ true → A d ≡ true → X d ≡ true
unfolding inside
inside_has {n} {d} A X l e t =
    let z = any_none n (λ i. A i && not (X i)) (not-true _ e) d l in
    by_cases (X d) (λ s. s) (λ s. absurd (differ (and_both (A d) (not (X d)) t (ap not s)) z))

has_inside : (n : ℕ) {A X : ℕ → Bool} → ((d : ℕ) → A d ≡ true → X d ≡ true) → inside n A X ≡ true
unfolding inside
has_inside n {A} {X} f =
    ap not (not_here (any n (λ i. A i && not (X i))) (λ t.
    let s = any_some n (λ i. A i && not (X i)) t in
    differ (f s.0 (and_left (A s.0) (not (X s.0)) s.2)) (not-true (X s.0) (and_right (A s.0) (not (X s.0)) s.2))))

-- the blocks whose copies all lie in X
abbrev among : ℕ → (ℕ → ℕ → Bool) → (ℕ → Bool) → ℕ → Bool
among n copy X b = inside n (copy b) X

-- a disk that they touch is in X
reached : {n q : ℕ} {copy : ℕ → ℕ → Bool} (X : ℕ → Bool) → ((b d : ℕ) → b < q → copy b d ≡ true → d < n)
    → (d : ℕ) → touches q copy (among n copy X) d ≡ true → X d ≡ true
unfolding touches
reached {n} {q} {copy} X small d t =
    let s = any_some q (λ b. among n copy X b && copy b d) t in
    let c = and_right (among n copy X s.0) (copy s.0 d) s.2 in
    inside_has (copy s.0) X (small s.0 d s.1 c) (and_left (among n copy X s.0) (copy s.0 d) s.2) c

module _ {n q : ℕ} {copy : ℕ → ℕ → Bool} {capacities : ℕ → ℕ} (small : (b d : ℕ) → b < q → copy b d ≡ true → d < n) where
  module _ {a : ℕ → ℕ} {X : ℕ → Bool} (v : Valid n q copy a) (o : Owned n q copy capacities a X) where
    owned_closed : Closed n q copy capacities a (among n copy X)
    unfolding Valid
    owned_closed =
        record {
          unplaced = λ b h l. absurd (omega (arith, (v b h).0, l));
          full = λ d l t. o.full d l (reached X small d t);
          owns = λ b h l t. has_inside n (o.owns b h (reached X small (a b) t));
        }

    -- a disk of X that has any capacity is touched
    touched : (d : ℕ) → d < n → X d ≡ true → 0 < capacities d → touches q copy (among n copy X) d ≡ true
    unfolding touches reads Valid
    touched d l t k =
        let s = count_some q (λ b. eqb (a b) d) (omega (arith, o.full d l t)) in
        let e : a s.0 ≡ d = eqb-true _ _ s.2 in
        any_here q (λ b. among n copy X b && copy b d) s.0 s.1
        (and_both _ _ (has_inside n (o.owns s.0 s.1 (rw e t))) (rw e at (v s.0 s.1).1))

  empty_closed : {a : ℕ → ℕ} → Valid n q copy a → Closed n q copy capacities a (λ b. false)
  unfolding Valid touches
  empty_closed {a} v =
      let none : (d : ℕ) → touches q copy (λ b. false) d ≡ true → ⊥ = λ d t.
      let s = any_some q (λ b. false && copy b d) t in
      differ s.2 refl in
      record {
        unplaced = λ b h l. absurd (omega (arith, (v b h).0, l));
        full = λ d l t. absurd (none d t);
        owns = λ b h l t. absurd (none (a b) t);
      }

  owned_any : {a a' : ℕ → ℕ} {X : ℕ → Bool} → Valid n q copy a → Within n q capacities a
      → Valid n q copy a' → Within n q capacities a' → Owned n q copy capacities a X → Owned n q copy capacities a' X
  unfolding Within Valid
  owned_any {a} {a'} {X} v w v' w' o =
      let c = greatest_closed n q copy capacities a' (valid_partial n q copy a' v') w' (λ b. false) (among n copy X) (empty_closed v')
      (closed_greatest n q copy capacities a (valid_partial n q copy a v) w (among n copy X) (owned_closed v o)) in
      record {
        full = λ d l t. by_cases (ltb 0 (capacities d))
            (λ u. c.full d l (touched v o d l t (ltb-true _ _ u)))
            (λ u. omega (arith, ltb-false 0 (capacities d) u));
        owns = λ b h t d m.
            let l : a' b < n = (v' b h).0 in
            let k : 0 < capacities (a' b) = omega (arith, w' (a' b) l, reads_here q a' b (a' b) h refl) in
            inside_has (copy b) X (small b d h m) (c.owns b h l (touched v o (a' b) l t k)) m;
      }

  pub lowest_by : {a : ℕ → ℕ} {X : ℕ → Bool} {k : ℕ} → k < q → Valid n q copy a → Within n q capacities a
      → Owned n q copy capacities a X → X (a k) ≡ false → ((d : ℕ) → copy k d ≡ true → d < a k → X d ≡ true)
      → LowestAt n q copy capacities a k
  unfolding Valid
  lowest_by {a} {X} {k} h v w o e f a' v' w' =
      by_cases (ltb (a' k) (a k))
      (λ t. absurd (differ ((owned_any v w v' w' o).owns k h (f (a' k) (v' k h).1 (ltb-true _ _ t)) (a k) (v k h).1) e))
      (λ t. ltb-false _ _ t)

-- X and Y together
owned_both : {n q : ℕ} {copy : ℕ → ℕ → Bool} {capacities a : ℕ → ℕ} {X Y Z : ℕ → Bool}
    → Owned n q copy capacities a X → Owned n q copy capacities a Y → ((e : ℕ) → Z e ≡ (X e || Y e)) → Owned n q copy capacities a Z
owned_both {a} {X} {Y} o p f =
    record {
      full = λ d l t. ⊎_elim (o.full d l) (p.full d l) (or_elim (X d) (Y d) (sym (f d) ∙ t));
      owns = λ b h t. ⊎_elim
          (λ s d m. f d ∙ or_left (X d) (Y d) (o.owns b h s d m))
          (λ s d m. f d ∙ or_right (X d) (Y d) (p.owns b h s d m))
          (or_elim (X (a b)) (Y (a b)) (sym (f (a b)) ∙ t));
    }

-- what dead holds is dead in every schedule
pub dead_any : {n q : ℕ} {cut caps seats seats' dead : List ℕ} → ((b d : ℕ) → b < q → holds cut b d ≡ true → d < n)
    → Valid n q (holds cut) (entry seats) → Within n q (entry caps) (entry seats)
    → Valid n q (holds cut) (entry seats') → Within n q (entry caps) (entry seats')
    → DeadFor n q cut caps seats dead → DeadFor n q cut caps seats' dead
dead_any f v w v' w' g =
    record { long = g.long; small = g.small; apart = g.apart; owned = λ o l. owned_any f v w v' w' (g.owned o l) }

-- block k's copies are cut to its disk
pub dead_cut : {n q k : ℕ} {cut cut' caps seats dead : List ℕ}
    → ((d : ℕ) → holds cut' k d ≡ true → d ≡ get_or seats k 0) → ((b : ℕ) → (b ≡ k → ⊥) → get_or cut' b 0 ≡ get_or cut b 0)
    → DeadFor n q cut caps seats dead → DeadFor n q cut' caps seats dead
dead_cut {k} {cut'} {seats} {dead} f else g =
    record {
      long = g.long;
      small = g.small;
      apart = g.apart;
      owned = λ o l. record {
        full = (g.owned o l).full;
        owns = λ b h t d m. by_cases (eqb b k)
            (λ s. let e : b ≡ k = eqb-true b k s in rw (f d (rw e at m), ← e) t)
            (λ s. (g.owned o l).owns b h t d (rw (else b (eqb-false b k s)) at m));
      };
    }

-- x is dead for every disk that is not in it
pub dead_spread : {n q x : ℕ} {cut caps seats dead dead' : List ℕ} → DeadFor n q cut caps seats dead
    → ((d : ℕ) → has x d ≡ true → d < n) → Owned n q (holds cut) (entry caps) (entry seats) (has x)
    → Spread n x dead dead' → DeadFor n q cut caps seats dead'
dead_spread {x} {dead} g f o s =
    record {
      long = s.long ∙ g.long;
      small = λ p l d. by_cases (has x p)
          (λ t u. g.small p l d (rw (s.same p l t) at u))
          (λ t u. ⊎_elim (g.small p l d) (f d) (or_elim (has (get_or dead p 0) d) (has x d) (sym (s.more p l t d) ∙ u)));
      apart = λ p l. by_cases (has x p)
          (λ t. rw (s.same p l t) (g.apart p l))
          (λ t. s.more p l t p ∙ rw (g.apart p l) t);
      owned = λ p l. by_cases (has x p)
          (λ t. rw (s.same p l t) (g.owned p l))
          (λ t. owned_both (g.owned p l) o (s.more p l t));
    }
