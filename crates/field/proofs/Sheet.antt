-- Laws of reading left to right.
--     next, then          where the first reader ends, the second goes on
--     stops, halts        a refusal stands
--     pass, fail          a test that holds, and one that does not
--     at_here             a reader that is told its own place
--     bind_got, after_got, require_got     what an accepted sheet says of each reader on the way
use mathlib.Core.Path.{◌≡◌, refl, sym, ap, ◌∙◌}
use mathlib.Core.Bool.{Bool, true, false}
use mathlib.Core.List.{List}
use Prim.Native.Nat.{ℕ}
use native.Mathlib.Omega.{arith}
use Rattle.basics.specs.Choice.{pick}
use Rattle.basics.proofs.Choice.{pick_true, pick_false}
use Rattle.field.specs.Sheet.{Note, Out, got, refused, Parser, and_then, ◌>>=◌, ◌>>◌, pure, here, require}

module _ {A B : Type 0} (p : Parser A) where
  pub next : (k : A → Parser B) (s : List ℕ) (at : ℕ) {a : A} {e : ℕ} → p s at ≡ got a e → (p >>= k) s at ≡ k a s e
  unfolding ◌>>=◌ and_then
  next k s at h = ap (λ (o : Out A). and_then o (λ a n. k a s n)) h

  pub then : (q : Parser B) (s : List ℕ) (at : ℕ) {a : A} {e : ℕ} → p s at ≡ got a e → (p >> q) s at ≡ q s e
  unfolding ◌>>◌ and_then
  then q s at h = ap (λ (o : Out A). and_then o (λ a n. q s n)) h

  pub stops : (k : A → Parser B) (s : List ℕ) (at : ℕ) {e : Note} → p s at ≡ refused e → (p >>= k) s at ≡ refused e
  unfolding ◌>>=◌ and_then
  stops k s at h = ap (λ (o : Out A). and_then o (λ a n. k a s n)) h

  pub halts : (q : Parser B) (s : List ℕ) (at : ℕ) {e : Note} → p s at ≡ refused e → (p >> q) s at ≡ refused e
  unfolding ◌>>◌ and_then
  halts q s at h = ap (λ (o : Out A). and_then o (λ a n. q s n)) h

module _ {B : Type 0} (e : Note) (q : Parser B) (s : List ℕ) (at : ℕ) where
  pub pass : {b : Bool} → b ≡ true → (require b e >> q) s at ≡ q s at
  unfolding require
  pass {b} h = then (require b e) q s at (pick_true (got tt at) (refused e) h)

  pub fail : {b : Bool} → b ≡ false → (require b e >> q) s at ≡ refused e
  unfolding require
  fail {b} h = halts (require b e) q s at (pick_false (got tt at) (refused e) h)

pub at_here : {B : Type 0} (k : ℕ → Parser B) (s : List ℕ) (at : ℕ) → (here >>= k) s at ≡ k at s at
unfolding here
at_here k s at = next here k s at refl

-- ---- what an accepted sheet says

-- the step at which a reader ended, and what follows it
pub record Step {A B : Type 0} (o : Out A) (k : A → ℕ → Out B) (b : B) (e : ℕ) : Type 0 where
  pub found : A
  pub mid : ℕ
  pub first : o ≡ got found mid
  pub last : k found mid ≡ got b e

step : {A B : Type 0} (o : Out A) (k : A → ℕ → Out B) (b : B) (e : ℕ) → and_then o k ≡ got b e → Step o k b e
unfolding and_then
step (got a m) k b e h = record { found = a; mid = m; first = refl; last = h }
step (refused n) k b e h = absurd (let z : ◌≡◌ {A = ℕ} 0 1 = cc in omega arith)

module _ {A B : Type 0} (p : Parser A) (s : List ℕ) (at : ℕ) (b : B) (e : ℕ) where
  pub bind_got : (k : A → Parser B) → (p >>= k) s at ≡ got b e → Step (p s at) (λ a n. k a s n) b e
  unfolding ◌>>=◌
  bind_got k h = step (p s at) (λ a n. k a s n) b e h

  pub after_got : (q : Parser B) → (p >> q) s at ≡ got b e → Step (p s at) (λ a n. q s n) b e
  unfolding ◌>>◌
  after_got q h = step (p s at) (λ a n. q s n) b e h

-- a test that was passed holds, and reads nothing
pub require_got : (b : Bool) (n : Note) (s : List ℕ) (at : ℕ) (u : Unit) (e : ℕ) → require b n s at ≡ got u e → (b ≡ true) × (e ≡ at)
unfolding require pick
require_got true n s at u e h = (refl, cc)
require_got false n s at u e h = absurd (let z : ◌≡◌ {A = ℕ} 0 1 = cc in omega arith)

-- what stands behind a test that was passed
pub passed : {B : Type 0} (b : Bool) (n : Note) (q : Parser B) (s : List ℕ) (at : ℕ) (x : B) (e : ℕ) → (require b n >> q) s at ≡ got x e
    → (b ≡ true) × (q s at ≡ got x e)
passed b n q s at x e h =
    let w : Step (require b n s at) (λ _ m. q s m) x e = after_got (require b n) s at x e q h in
    let g : (b ≡ true) × (w.mid ≡ at) = require_got b n s at w.found w.mid w.first in
    (g.0, ap (λ (m : ℕ). q s m) (sym g.1) ∙ w.last)

pub pure_got : {A : Type 0} (a b : A) (s : List ℕ) (at e : ℕ) → pure a s at ≡ got b e → (a ≡ b) × (at ≡ e)
unfolding pure
pure_got a b s at e h = (cc, cc)
