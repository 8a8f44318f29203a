-- Laws of `times` and `ascending`: as the loops that run them, and both ways round.
--     prefix                what was read, then the rest
--     times_start, times_step, times_stop, times_done     a loop over i of n readings
--     ascending_start, ascending_step, ascending_stop, ascending_done     the same, each number above the one before it
--     reads_times, reads_ascending      reading what was written
--     times_spelt, ascending_spelt      the bytes of what was read
use mathlib.Core.Path.{◌≡◌, refl, sym, ap, ◌∙◌, subst}
use mathlib.Core.List.{List, [], ◌∷◌, ◌++◌, append_assoc, append-nil}
use Prim.Native.Nat.{ℕ, zero, suc, ◌+◌, ◌-◌, ◌^◌, ◌≤◌, ◌<◌}
use native.Mathlib.Omega.{arith}
use lib.ListN.{length}
use Rattle.number.specs.Bytes.{Bytes}
use Rattle.number.specs.Encode.{encode}
use Rattle.field.specs.Sheet.{Note, Out, got, refused, Parser, and_then, ◌>>=◌, pure, times}
use Rattle.field.specs.Field.{rising, ascending}
use Rattle.basics.specs.Lists.{All, Rises}
use Rattle.field.specs.Put.{spell_all}
use Rattle.field.proofs.Sheet.{next, stops, bind_got, pure_got}
use Rattle.field.proofs.Read.{Reads, reads_bind, reads_checked, reads_pure, reads_between}
use Rattle.field.proofs.Spelt.{Spelt, spelt_none, spelt_join, between_spelt}

unfoldable pub prefix : {A : Type 0} → List A → Out (List A) → Out (List A)
prefix xs (got ys e) = got (xs ++ ys) e
prefix xs (refused n) = refused n

-- nothing was read yet
pub prefix_none : {A : Type 0} (o : Out (List A)) → o ≡ prefix [] o
unfolding prefix
prefix_none (got ys e) = refl
prefix_none (refused n) = refl

-- one value, then the rest
prefix_one : {A : Type 0} (xs : List A) (a : A) (o : Out (List A)) → prefix xs (prefix (a ∷ []) o) ≡ prefix (xs ++ (a ∷ [])) o
unfolding prefix
prefix_one xs a (got ys e) = ap (λ z. got z e) (sym (append_assoc xs (a ∷ []) ys))
prefix_one xs a (refused n) = refl

-- a value before what a reader of lists gives
listed : {A : Type 0} (a : A) (o : Out (List A)) → and_then o (λ vs n. got (a ∷ vs) n) ≡ prefix (a ∷ []) o
unfolding and_then prefix
listed a (got vs n) = refl
listed a (refused n) = refl

before_list : {A : Type 0} (a : A) (q : Parser (List A)) (s : List ℕ) (at : ℕ) → (q >>= λ vs. pure (a ∷ vs)) s at ≡ prefix (a ∷ []) (q s at)
unfolding ◌>>=◌ pure
before_list a q s at = listed a (q s at)

-- ---- times, as a loop

module _ {A : Type 0} (p : Parser A) (s : List ℕ) where
  times_more : (k at : ℕ) {a : A} {e : ℕ} → p s at ≡ got a e → times (suc k) p s at ≡ prefix (a ∷ []) (times k p s e)
  unfolding times
  times_more k at h = next p _ s at h ∙ before_list _ (times k p) s _

  pub times_start : (n at : ℕ) → times n p s at ≡ prefix [] (times (n - 0) p s at)
  times_start n at = let e : n - 0 ≡ n = omega arith in rw e (prefix_none (times n p s at))

  pub times_step : (n i at : ℕ) (xs : List A) {a : A} {e : ℕ} → i < n → p s at ≡ got a e
      → prefix xs (times (n - i) p s at) ≡ prefix (xs ++ (a ∷ [])) (times (n - (i + 1)) p s e)
  times_step n i at xs {a} {e} l h =
      let k : n - i ≡ suc (n - (i + 1)) = omega arith in
      ap (λ (m : ℕ). prefix xs (times m p s at)) k ∙ ap (prefix xs) (times_more (n - (i + 1)) at h)
      ∙ prefix_one xs a (times (n - (i + 1)) p s e)

  pub times_stop : (n i at : ℕ) (xs : List A) {m : Note} → i < n → p s at ≡ refused m → prefix xs (times (n - i) p s at) ≡ refused m
  unfolding times prefix
  times_stop n i at xs l h =
      let k : n - i ≡ suc (n - (i + 1)) = omega arith in
      ap (λ (m : ℕ). prefix xs (times m p s at)) k ∙ ap (prefix xs) (stops p _ s at h)

  pub times_done : (n i at : ℕ) (xs : List A) → n ≤ i → prefix xs (times (n - i) p s at) ≡ got xs at
  unfolding times prefix pure
  times_done n i at xs l =
      let k : n - i ≡ 0 = omega arith in
      ap (λ (m : ℕ). prefix xs (times m p s at)) k ∙ ap (λ z. got z at) (append-nil xs)

-- ---- ascending, as a loop

module _ (high : ℕ) (s : List ℕ) where
  ascending_more : (k floor at : ℕ) {v e : ℕ} → rising floor high s at ≡ got v e
      → ascending (suc k) floor high s at ≡ prefix (v ∷ []) (ascending k (v + 1) high s e)
  unfolding ascending
  ascending_more k floor at {v} {e} h = next (rising floor high) _ s at h ∙ before_list v (ascending k (v + 1) high) s e

  pub ascending_start : (n floor at : ℕ) → ascending n floor high s at ≡ prefix [] (ascending (n - 0) floor high s at)
  ascending_start n floor at = let e : n - 0 ≡ n = omega arith in rw e (prefix_none (ascending n floor high s at))

  pub ascending_step : (n i floor at : ℕ) (xs : List ℕ) {v e : ℕ} → i < n → rising floor high s at ≡ got v e
      → prefix xs (ascending (n - i) floor high s at) ≡ prefix (xs ++ (v ∷ [])) (ascending (n - (i + 1)) (v + 1) high s e)
  ascending_step n i floor at xs {v} {e} l h =
      let k : n - i ≡ suc (n - (i + 1)) = omega arith in
      ap (λ (m : ℕ). prefix xs (ascending m floor high s at)) k ∙ ap (prefix xs) (ascending_more (n - (i + 1)) floor at h)
      ∙ prefix_one xs v (ascending (n - (i + 1)) (v + 1) high s e)

  pub ascending_stop : (n i floor at : ℕ) (xs : List ℕ) {m : Note} → i < n → rising floor high s at ≡ refused m
      → prefix xs (ascending (n - i) floor high s at) ≡ refused m
  unfolding ascending prefix
  ascending_stop n i floor at xs l h =
      let k : n - i ≡ suc (n - (i + 1)) = omega arith in
      ap (λ (m : ℕ). prefix xs (ascending m floor high s at)) k ∙ ap (prefix xs) (stops (rising floor high) _ s at h)

  pub ascending_done : (n i floor at : ℕ) (xs : List ℕ) → n ≤ i → prefix xs (ascending (n - i) floor high s at) ≡ got xs at
  unfolding ascending prefix pure
  ascending_done n i floor at xs l =
      let k : n - i ≡ 0 = omega arith in
      ap (λ (m : ℕ). prefix xs (ascending m floor high s at)) k ∙ ap (λ z. got z at) (append-nil xs)

-- ---- reading what was written

pub reads_times : {A : Type 0} (p : Parser A) (spell : A → List ℕ) (P : A → Type 0) → ((a : A) → P a → Reads p (spell a) a) → (vs : List A)
    → All P vs → Reads (times (length vs) p) (spell_all spell vs) vs
unfolding times spell_all All
reads_times p spell P one [] h = reads_pure []
reads_times p spell P one (a ∷ vs) h =
    reads_bind _ (one a h.0) (reads_checked _ (reads_times p spell P one vs h.1) (reads_pure (a ∷ vs)))

pub reads_ascending : (high : ℕ) → high < 2 ^ 32 → (floor : ℕ) (vs : List ℕ) → Rises floor high vs
    → Reads (ascending (length vs) floor high) (spell_all encode vs) vs
unfolding ascending spell_all Rises
reads_ascending high h floor [] r = reads_pure []
reads_ascending high h floor (v ∷ vs) r =
    reads_bind _ (reads_between floor high 8 16 v r.0 r.1 (omega (arith, r.1)))
    (reads_checked _ (reads_ascending high h (v + 1) vs r.2) (reads_pure (v ∷ vs)))

-- ---- the bytes of what was read

moved : {A : Type 0} (Q : List A → ℕ → Type 0) {vs ws : List A} {m e : ℕ} → vs ≡ ws → m ≡ e → Q vs m → Q ws e
moved Q {vs} {ws} {m} {e} p q x = subst (λ z. Q z e) p (subst (λ k. Q vs k) q x)

pub times_spelt : {A : Type 0} (p : Parser A) (spell : A → List ℕ) (P : A → Type 0) (s : List ℕ)
    → ((at : ℕ) (a : A) (e : ℕ) → p s at ≡ got a e → Spelt s at e (spell a) × P a)
    → (n at : ℕ) (vs : List A) (e : ℕ) → at ≤ length s → times n p s at ≡ got vs e
    → Spelt s at e (spell_all spell vs) × (length vs ≡ n) × All P vs
unfolding times spell_all All
times_spelt p spell P s one zero at vs e l h =
    let q = pure_got [] vs s at e h in rw (sym q.0, sym q.1) (spelt_none s at l, refl, tt)
times_spelt p spell P s one (suc n) at vs e l h =
    let w = bind_got p s at vs e (λ a. times n p >>= λ rest. pure (a ∷ rest)) h in
    let u = bind_got (times n p) s w.mid vs e (λ rest. pure (w.found ∷ rest)) w.last in
    let q = pure_got (w.found ∷ u.found) vs s u.mid e u.last in
    let f = one at w.found w.mid w.first in
    let g = times_spelt p spell P s one n w.mid u.found u.mid f.0.within u.first in
    moved (λ z k. Spelt s at k (spell_all spell z) × (length z ≡ suc n) × All P z) q.0 q.1
    (spelt_join f.0 g.0, ap suc g.1, (f.1, g.2))

pub ascending_spelt : (high : ℕ) (s : List ℕ) → Bytes s → (n floor at : ℕ) (vs : List ℕ) (e : ℕ) → at ≤ length s
    → ascending n floor high s at ≡ got vs e → Spelt s at e (spell_all encode vs) × (length vs ≡ n) × Rises floor high vs
unfolding ascending spell_all Rises
ascending_spelt high s b zero floor at vs e l h =
    let q = pure_got [] vs s at e h in rw (sym q.0, sym q.1) (spelt_none s at l, refl, tt)
ascending_spelt high s b (suc n) floor at vs e l h =
    let w = bind_got (rising floor high) s at vs e (λ v. ascending n (v + 1) high >>= λ rest. pure (v ∷ rest)) h in
    let u = bind_got (ascending n (w.found + 1) high) s w.mid vs e (λ rest. pure (w.found ∷ rest)) w.last in
    let q = pure_got (w.found ∷ u.found) vs s u.mid e u.last in
    let f = between_spelt s b at floor high 8 16 w.first in
    let g = ascending_spelt high s b n (w.found + 1) w.mid u.found u.mid f.0.within u.first in
    moved (λ z k. Spelt s at k (spell_all encode z) × (length z ≡ suc n) × Rises floor high z) q.0 q.1
    (spelt_join f.0 g.0, ap suc g.1, (f.1, f.2, g.2))
