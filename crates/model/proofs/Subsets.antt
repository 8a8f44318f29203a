-- There are finitely many sets of q blocks, so a greatest one can be found.
--     put             a function with one value changed
--     FirstOnly       what looks at the first q blocks only
--     most            a set at which such a number is greatest
--     find            a set that passes such a test, or none does
use Prim.Native.Nat.{ℕ, zero, suc, ◌≤◌}
use mathlib.Core.Path.{◌≡◌, refl, sym, ap, ◌∙◌}
use mathlib.Core.Logic.{◌⊎◌, inl, inr, ⊎_elim}
use mathlib.Core.Bool.{Bool, true, false, cond}
use native.Mathlib.Omega.{arith}
use lib.Dec.{eqb}
use borrow.Author.Tests.{eq-eqb, ne_eqb}
use Rattle.basics.specs.Count.{bit}
use Rattle.model.specs.Order.{Agree}
use Rattle.basics.proofs.Tests.{by_cases, not_here, below_suc, below_or}
use Rattle.basics.proofs.Count.{bit_true, bit_false}

-- f with the value x at k
unfoldable pub put : {A : Type 0} → ℕ → A → (ℕ → A) → ℕ → A
put k x f i = cond (eqb i k) x (f i)

pub put_here : {A : Type 0} (k : ℕ) (x : A) (f : ℕ → A) → put k x f k ≡ x
unfolding put
put_here k x f = ap (λ (t : Bool). cond t x (f k)) (eq-eqb k k refl)

pub put_other : {A : Type 0} (k : ℕ) (x : A) (f : ℕ → A) (i : ℕ) → (i ≡ k → ⊥) → put k x f i ≡ f i
unfolding put
put_other k x f i h = ap (λ (t : Bool). cond t x (f i)) (ne_eqb i k h)

pub put_below : {A : Type 0} (k : ℕ) (x : A) (f : ℕ → A) → Agree k (put k x f) f
unfolding Agree
put_below k x f i h = put_other k x f i (omega arith)

-- two functions that agree below k, with one value at k, agree below k + 1
pub put_more : {A : Type 0} (k : ℕ) (f g : ℕ → A) → Agree k f g → f k ≡ g k → Agree (suc k) f g
unfolding Agree
put_more k f g e h i l = ⊎_elim (λ r. e i r) (λ r. ap f r ∙ h ∙ sym (ap g r)) (below_suc k i l)

-- f looks at the first q blocks only
unfoldable pub FirstOnly : {B A : Type 0} → ℕ → ((ℕ → B) → A) → Type 0
FirstOnly {B = B} q f = (S S' : ℕ → B) → Agree q S S' → f S ≡ f S'

pub put_first : {B A : Type 0} (q : ℕ) (v : B) (f : (ℕ → B) → A) → FirstOnly (suc q) f → FirstOnly q (λ S. f (put q v S))
unfolding FirstOnly Agree
put_first q v f e S S' h =
    e (put q v S) (put q v S')
    (put_more q (put q v S) (put q v S')
    (λ i l. put_below q v S i l ∙ h i l ∙ sym (put_below q v S' i l))
    (put_here q v S ∙ sym (put_here q v S')))

pub most : (q : ℕ) (f : (ℕ → Bool) → ℕ) → FirstOnly q f → (S : ℕ → Bool) × ((S' : ℕ → Bool) → f S' ≤ f S)
unfolding FirstOnly Agree
most zero f e =
    (λ b. false, λ S'. omega (arith, e S' (λ b. false) (λ b h. let z : ⊥ = omega arith in absurd z)))
most (suc q) f e =
    let t = most q (λ S. f (put q true S)) (put_first q true f e) in
    let s = most q (λ S. f (put q false S)) (put_first q false f e) in
    let whole : (v : Bool) (S' : ℕ → Bool) → S' q ≡ v → f S' ≡ f (put q v S') =
    λ v S' h. e S' (put q v S') (put_more q S' (put q v S') (λ i l. sym (put_below q v S' i l)) (h ∙ sym (put_here q v S'))) in
    let over : (S' : ℕ → Bool) (x : ℕ) → f (put q true t.0) ≤ x → f (put q false s.0) ≤ x → f S' ≤ x =
    λ S' x h k.
    by_cases (S' q)
    (λ r. omega (arith, whole true S' r, t.1 S'))
    (λ r. omega (arith, whole false S' r, s.1 S')) in
    below_or (f (put q true t.0)) (f (put q false s.0))
    (λ l. (put q false s.0, λ S'. over S' (f (put q false s.0)) (omega arith) (omega arith)))
    (λ l. (put q true t.0, λ S'. over S' (f (put q true t.0)) (omega arith) (omega arith)))

pub find : (q : ℕ) (p : (ℕ → Bool) → Bool) → FirstOnly q p
    → ((S : ℕ → Bool) × (p S ≡ true)) ⊎ ((S : ℕ → Bool) → p S ≡ false)
unfolding FirstOnly
find q p e =
    let m = most q (λ S. bit (p S)) (λ S S' h. ap bit (e S S' h)) in
    by_cases (p m.0)
    (λ t. inl (m.0, t))
    (λ t. inr (λ S. not_here (p S) (λ s.
    let z : ⊥ = omega (arith, m.1 S, bit_true (p S) s, bit_false (p m.0) t) in z)))
