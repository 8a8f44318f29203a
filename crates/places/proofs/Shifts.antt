-- Laws of a block that goes to another place, with its ring and with out.
--     far_less            out for fewer blocks or fewer copies
--     far_grown           out after the move
--     seated_shifting, seated_shift     what the move takes, and places, rings and out after it
--     cleared_seated      no block is on a disk
use Prim.Native.Nat.{ℕ, ◌≤◌, ◌<◌}
use mathlib.Core.Path.{◌≡◌, refl, sym, ap, subst, ◌∙◌}
use mathlib.Core.Bool.{true}
use mathlib.Core.List.{List}
use native.Mathlib.Omega.{arith}
use lib.Dec.{eqb}
use lib.ListN.{get_or, length, length-set}
use lib.Seq.{get_or-set_same, get_or-set_other}
use borrow.Author.Tests.{eqb-true, eqb-false}
use Rattle.basics.specs.Limits.{places_most}
use Rattle.mask.specs.Has.{has}
use Rattle.basics.proofs.Tests.{by_cases, or_left, or_right}
use Rattle.places.specs.Places.{holds, Moved}
use Rattle.places.specs.Among.{Inside}
use Rattle.places.specs.Seats.{Far, Seated, Grown, Shifting, Shifted, Cleared}
use Rattle.places.proofs.Laws.{movable, placed_move}
use Rattle.places.proofs.Seats.{ringed_move}

-- fewer blocks, or blocks with fewer copies
pub far_less : {n q bound : ℕ} {masks seats out : List ℕ} (bound' : ℕ) (masks' : List ℕ) → Far n q bound masks seats out
    → ((i : ℕ) → bound' ≤ i → i < q → get_or seats i 0 < n → (bound ≤ i) × Inside (get_or masks' i 0) (get_or masks i 0))
    → Far n q bound' masks' seats out
far_less bound' masks' f g =
    record { long = f.long; each = λ i a l c e t. let w = g i a l c in f.each i w.0 l c e (w.1 e t) }

-- block y has gone to place d, and out has its copies there
pub far_grown : {n q bound y d old : ℕ} {masks seats counts out seats' counts' out' : List ℕ} → Far n q bound masks seats out
    → d < places_most → Moved y d seats counts seats' counts' old → Grown y d masks out out' → Far n q bound masks seats' out'
far_grown {n} {q} {bound} {y} {d} {old} {masks} {seats} {counts} {out} {seats'} {counts'} {out'} f l v g =
    record {
      long = ap length g.1 ∙ length-set out d g.0 ∙ f.long;
      each = λ i a k c. by_cases (eqb i y)
          (λ t. let e = eqb-true i y t in
          grown i d (λ _. subst (λ (j : ℕ). Inside (get_or masks j 0) g.0) (sym e)
          (λ x u. g.2 x ∙ or_right (has (get_or out d 0) x) (has (get_or masks y 0) x) u)) (λ z. absurd (z refl))
          (ap (λ (j : ℕ). get_or seats' j 0) e ∙ v.here))
          (λ t. let e = v.others i (eqb-false i y t) in
          let u = f.each i a k (subst (λ (j : ℕ). j < n) e c) in
          grown i (get_or seats i 0)
          (λ w x m. g.2 x ∙ or_left (has (get_or out d 0) x) (has (get_or masks y 0) x)
          (subst (λ (j : ℕ). has (get_or out j 0) x ≡ true) w (u x m))) (λ _. u) e);
    }
  where
    here : get_or out' d 0 ≡ g.0
    here = ap (λ (j : List ℕ). get_or j d 0) g.1 ∙ get_or-set_same out d g.0 0 (omega (arith, f.long, l))

    -- copies that are in out for place z are in it afterwards
    grown : (i z : ℕ) → (z ≡ d → Inside (get_or masks i 0) g.0) → ((z ≡ d → ⊥) → Inside (get_or masks i 0) (get_or out z 0))
        → get_or seats' i 0 ≡ z → Inside (get_or masks i 0) (get_or out' (get_or seats' i 0) 0)
    grown i z w u e =
        subst (λ (j : ℕ). Inside (get_or masks i 0) (get_or out' j 0)) (sym e)
        (by_cases (eqb z d)
        (λ p. subst (λ (j : ℕ). Inside (get_or masks i 0) j)
        (sym (ap (λ (j : ℕ). get_or out' j 0) (eqb-true z d p) ∙ here)) (w (eqb-true z d p)))
        (λ p. subst (λ (j : ℕ). Inside (get_or masks i 0) j)
        (sym (ap (λ (j : List ℕ). get_or j z 0) g.1 ∙ get_or-set_other out d z g.0 0 (eqb-false z d p))) (u (eqb-false z d p))))

module _ {n q bound : ℕ} {masks seats counts next prev out : List ℕ} (s : Seated n q bound masks seats counts next prev out) (b d : ℕ)
    (l : b < q) (h : d ≤ n) (o : get_or seats b 0 ≡ d → ⊥) where
  pub seated_shifting : Shifting b d seats counts next prev
  seated_shifting =
      record {
        movable = movable s.placed b d l h o;
        bounded_next = s.ringed.bounded_next;
        bounded_prev = s.ringed.bounded_prev;
      }

  module _ (a : bound ≤ b) {seats' counts' next' prev' out' : List ℕ} {old : ℕ}
      (v : Shifted b d masks seats counts next prev out seats' counts' next' prev' out' old) (c : d < n → holds masks b d ≡ true) where
    pub seated_shift : Seated n q bound masks seats' counts' next' prev' out'
    seated_shift =
        record {
          placed = placed_move s.placed b d l h o v.moved c;
          ringed = ringed_move s.ringed b a l h v.moved v.relinked;
          far = far_grown s.far (omega (arith, h, s.placed.disks)) v.moved v.grown;
        }

-- no block is on a disk, so out may be any list
pub cleared_seated : {n q : ℕ} {seats counts next prev : List ℕ} (masks out : List ℕ) → Cleared n q seats counts next prev
    → length out ≡ places_most → Seated n q 0 masks seats counts next prev out
cleared_seated masks out c l =
    record {
      placed = c.placed masks;
      ringed = c.ringed;
      far = record { long = l; each = λ i _ h k. absurd (omega (arith, c.off i h, k)) };
    }
