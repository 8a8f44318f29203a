-- Laws of a whole sheet: its fields, and then its end.
--     whole_as, whole_refused     what its fields say of it
--     whole_next, whole_stops     its first fields, then the others
--     end_place, whole_got        where it ends
use mathlib.Core.Path.{◌≡◌, sym, ap, ◌∙◌}
use mathlib.Core.List.{List}
use Prim.Native.Nat.{ℕ}
use native.Mathlib.Omega.{arith}
use borrow.Author.Tests.{eqb-true}
use lib.Dec.{eqb}
use lib.ListN.{length}
use Rattle.basics.proofs.Choice.{pick_true, pick_false}
use Rattle.basics.proofs.Tests.{by_cases}
use Rattle.field.specs.Sheet.{Note, note, Out, got, refused, Parser, and_then, ◌>>=◌, ◌>>◌, pure}
use Rattle.field.specs.Field.{end, whole}
use Rattle.field.proofs.Sheet.{next, stops, Step, bind_got, after_got, pure_got}

module _ {A : Type 0} (p : Parser A) (s : List ℕ) (at : ℕ) where
  pub whole_as : (q : Parser A) (e : ℕ) → p s at ≡ q s e → whole p s at ≡ whole q s e
  unfolding whole ◌>>=◌
  whole_as q e h = ap (λ (o : Out A). and_then o (λ a n. (end >> pure a) s n)) h

  pub whole_refused : {n : Note} → p s at ≡ refused n → whole p s at ≡ refused n
  unfolding whole
  whole_refused h = stops p _ s at h

module _ {A B : Type 0} (p : Parser A) (k : A → Parser B) (s : List ℕ) (at : ℕ) where
  pub whole_next : {a : A} {e : ℕ} → p s at ≡ got a e → whole (p >>= k) s at ≡ whole (k a) s e
  whole_next {a} {e} h = whole_as (p >>= k) s at (k a) e (next p k s at h)

  pub whole_stops : {n : Note} → p s at ≡ refused n → whole (p >>= k) s at ≡ refused n
  whole_stops h = whole_refused (p >>= k) s at (stops p k s at h)

-- ---- where it ends

end_got : (s : List ℕ) (at v e : ℕ) → end s at ≡ got v e → (at ≡ length s) × (e ≡ at)
unfolding end
end_got s at v e h =
    by_cases (eqb at (length s))
    (λ t. let g : got 0 at ≡ got v e = sym (pick_true _ _ t) ∙ h in (eqb-true _ _ t, cc))
    (λ f. let g : refused (note 9 at) ≡ got v e = sym (pick_false _ _ f) ∙ h in absurd (let z : ◌≡◌ {A = ℕ} 0 1 = cc in omega arith))

-- a sheet that is accepted ends where its fields do
pub whole_got : {A : Type 0} (p : Parser A) (s : List ℕ) (a : A) (e : ℕ) → whole p s 0 ≡ got a e → (p s 0 ≡ got a e) × (e ≡ length s)
unfolding whole
whole_got p s a e h =
    let w : Step (p s 0) (λ x n. (end >> pure x) s n) a e = bind_got p s 0 a e (λ x. end >> pure x) h in
    let g : Step (end s w.mid) (λ _ n. pure w.found s n) a e = after_got end s w.mid a e (pure w.found) w.last in
    let q : (w.mid ≡ length s) × (g.mid ≡ w.mid) = end_got s w.mid g.found g.mid g.first in
    let r : (w.found ≡ a) × (g.mid ≡ e) = pure_got _ _ s _ _ g.last in
    (w.first ∙ ap (λ x. got x w.mid) r.0 ∙ ap (got a) (sym q.1 ∙ r.1), sym r.1 ∙ q.1 ∙ q.0)

-- the place of the end is the length of the sheet
pub end_place : (s : List ℕ) (at v e : ℕ) → end s at ≡ got v e → e ≡ length s
end_place s at v e h = let q : (at ≡ length s) × (e ≡ at) = end_got s at v e h in q.1 ∙ q.0
