-- Laws of sums, counts, tests and greatest values over the numbers below a bound.
--     bit_true, bit_false, bit_le, bit_mono     a counted test
--     gate_true, gate_false, gate_le, gate_mono, gate_some, gate_none, gate_most     a gated number
--     sum_ext, sum_le, sum_zero, sum_add, sum_swap      termwise equal, termwise at most, nothing, two sums, a double sum
--     sum_next, sum_term, sum_point     one term more; a term is at most the sum; two sums whose terms differ at one place at most
--     sum_tight                         termwise at most, and the sum not less: termwise equal
--     count_le, count_ext, count_point, count_tight, count_next     the same for counts
--     count_less, count_room     more where one number more passes; less than all where one fails
--     count_front, count_enough     the first, then the rest; numbers that fail
--     count_most, count_none, count_all, count_here, count_some     a count's bounds
--     any_here, any_some, any_none, any_mono, any_ext, any_front    a test over the numbers below a bound
--     latest_term, latest_le, latest_ext                the greatest value against a bound
use Prim.Native.Nat.{ℕ, zero, suc, ◌+◌, ◌≤◌, ◌<◌, max}
use mathlib.Core.Path.{◌≡◌, refl, sym, ap, ap₂, ◌∙◌}
use mathlib.Core.Logic.{⊎_elim}
use mathlib.Core.Bool.{Bool, true, false, ◌||◌, or_assoc, or-false}
use native.Mathlib.Omega.{arith}
use Rattle.basics.specs.Count.{bit, gate, sum, count, any, latest}
use Rattle.basics.proofs.Tests.{by_cases, lt_or_le, below_suc, differ, or_elim, or_left, or_right, not_here, same_test}

-- ---- a test counted, a number gated

pub bit_true : (b : Bool) → b ≡ true → bit b ≡ 1
unfolding bit
bit_true true e = refl
bit_true false e = absurd (differ e refl)

pub bit_false : (b : Bool) → b ≡ false → bit b ≡ 0
unfolding bit
bit_false true e = absurd (differ refl e)
bit_false false e = refl

pub bit_le : (b : Bool) → bit b ≤ 1
unfolding bit
bit_le true = omega arith
bit_le false = omega arith

pub bit_mono : (a b : Bool) → (a ≡ true → b ≡ true) → bit a ≤ bit b
unfolding bit
bit_mono true b f = omega (arith, bit_true b (f refl))
bit_mono false b f = omega arith

bit_is : (a b : Bool) → bit a ≡ bit b → a ≡ b
unfolding bit
bit_is true true e = refl
bit_is true false e = let z : ⊥ = omega arith in absurd z
bit_is false true e = let z : ⊥ = omega arith in absurd z
bit_is false false e = refl

pub gate_true : (b : Bool) (x : ℕ) → b ≡ true → gate b x ≡ x
unfolding gate
gate_true true x e = refl
gate_true false x e = absurd (differ e refl)

pub gate_false : (b : Bool) (x : ℕ) → b ≡ false → gate b x ≡ 0
unfolding gate
gate_false true x e = absurd (differ refl e)
gate_false false x e = refl

pub gate_le : (b : Bool) (x : ℕ) → gate b x ≤ x
unfolding gate
gate_le true x = omega arith
gate_le false x = omega arith

pub gate_mono : (a b : Bool) (x y : ℕ) → (a ≡ true → b ≡ true) → x ≤ y → gate a x ≤ gate b y
unfolding gate
gate_mono true b x y f h = omega (arith, gate_true b y (f refl))
gate_mono false b x y f h = omega arith

-- a gated number that is not 0 is the number
pub gate_some : (b : Bool) (x : ℕ) → (gate b x ≡ 0 → ⊥) → (b ≡ true) × (gate b x ≡ x)
unfolding gate
gate_some true x z = (refl, refl)
gate_some false x z = absurd (z refl)

-- of a number that is not 0, it is 0 where the test fails
pub gate_none : (b : Bool) (x : ℕ) → 0 < x → gate b x ≡ 0 → b ≡ false
unfolding gate
gate_none true x h z = absurd (omega arith)
gate_none false x h z = refl

-- a bound of the number where the test passes is one of the gated number
pub gate_most : (b : Bool) (x m : ℕ) → (b ≡ true → x ≤ m) → gate b x ≤ m
unfolding gate
gate_most true x m h = h refl
gate_most false x m h = omega arith

-- ---- sums

pub sum_ext : (k : ℕ) (f g : ℕ → ℕ) → ((i : ℕ) → i < k → f i ≡ g i) → sum k f ≡ sum k g
unfolding sum
sum_ext zero f g e = refl
sum_ext (suc k) f g e = omega (arith, sum_ext k f g (λ i h. e i (omega arith)), e k (omega arith))

pub sum_le : (k : ℕ) (f g : ℕ → ℕ) → ((i : ℕ) → i < k → f i ≤ g i) → sum k f ≤ sum k g
unfolding sum
sum_le zero f g e = omega arith
sum_le (suc k) f g e = omega (arith, sum_le k f g (λ i h. e i (omega arith)), e k (omega arith))

pub sum_zero : (k : ℕ) (f : ℕ → ℕ) → ((i : ℕ) → i < k → f i ≡ 0) → sum k f ≡ 0
unfolding sum
sum_zero zero f e = refl
sum_zero (suc k) f e = omega (arith, sum_zero k f (λ i h. e i (omega arith)), e k (omega arith))

pub sum_add : (k : ℕ) (f g : ℕ → ℕ) → sum k (λ i. f i + g i) ≡ sum k f + sum k g
unfolding sum
sum_add zero f g = refl
sum_add (suc k) f g = omega (arith, sum_add k f g)

pub sum_swap : (n q : ℕ) (f : ℕ → ℕ → ℕ) → sum n (λ d. sum q (λ b. f b d)) ≡ sum q (λ b. sum n (λ d. f b d))
unfolding sum
sum_swap zero q f = sym (sum_zero q (λ b. 0) (λ b h. refl))
sum_swap (suc n) q f =
    omega (arith, sum_swap n q f, sum_add q (λ b. sum n (λ d. f b d)) (λ b. f b n))

pub sum_next : (k : ℕ) (f : ℕ → ℕ) → sum (k + 1) f ≡ sum k f + f k
unfolding sum
sum_next k f = ap (λ (y : ℕ). sum y f) {x = k + 1} {y = suc k} (omega arith)

pub sum_term : (k : ℕ) (f : ℕ → ℕ) (j : ℕ) → j < k → f j ≤ sum k f
unfolding sum
sum_term zero f j h = omega arith
sum_term (suc k) f j h =
    ⊎_elim (λ l. omega (arith, sum_term k f j l)) (λ r. omega (arith, ap f r)) (below_suc k j h)

pub sum_point : (k : ℕ) (f g : ℕ → ℕ) (j : ℕ) → j < k
    → ((i : ℕ) → i < k → (i ≡ j → ⊥) → f i ≡ g i) → sum k f + g j ≡ sum k g + f j
unfolding sum
sum_point zero f g j h e = omega arith
sum_point (suc k) f g j h e =
    ⊎_elim
    (λ l. omega (arith, sum_point k f g j l (λ i h'. e i (omega arith)), e k (omega arith) (omega arith)))
    (λ r. omega (arith, sum_ext k f g (λ i h'. e i (omega arith) (omega arith)), ap f r, ap g r))
    (below_suc k j h)

pub sum_tight : (k : ℕ) (f g : ℕ → ℕ) → ((i : ℕ) → i < k → f i ≤ g i) → sum k g ≤ sum k f
    → (i : ℕ) → i < k → f i ≡ g i
unfolding sum
sum_tight zero f g e s i h = omega arith
sum_tight (suc k) f g e s i h =
    let part : sum k f ≤ sum k g = sum_le k f g (λ j h'. e j (omega arith)) in
    let last : f k ≤ g k = e k (omega arith) in
    ⊎_elim
    (λ l. sum_tight k f g (λ j h'. e j (omega arith)) (omega arith) i l)
    (λ r. omega (arith, ap f r, ap g r))
    (below_suc k i h)

-- ---- counts

pub count_le : (k : ℕ) (p r : ℕ → Bool) → ((i : ℕ) → i < k → p i ≡ true → r i ≡ true) → count k p ≤ count k r
unfolding count
count_le k p r e = sum_le k (λ i. bit (p i)) (λ i. bit (r i)) (λ i h. bit_mono (p i) (r i) (e i h))

pub count_ext : (k : ℕ) (p r : ℕ → Bool) → ((i : ℕ) → i < k → p i ≡ r i) → count k p ≡ count k r
unfolding count
count_ext k p r e = sum_ext k (λ i. bit (p i)) (λ i. bit (r i)) (λ i h. ap bit (e i h))

-- two tests that differ at the place j at most
pub count_point : (k : ℕ) (p r : ℕ → Bool) (j : ℕ) → j < k
    → ((i : ℕ) → i < k → (i ≡ j → ⊥) → p i ≡ r i) → count k p + bit (r j) ≡ count k r + bit (p j)
unfolding count
count_point k p r j h e = sum_point k (λ i. bit (p i)) (λ i. bit (r i)) j h (λ i h' n. ap bit (e i h' n))

pub count_next : (k : ℕ) (p : ℕ → Bool) → count (k + 1) p ≡ count k p + bit (p k)
unfolding count
count_next k p = sum_next k (λ i. bit (p i))

-- the first number, then the rest
pub count_front : (k : ℕ) (p : ℕ → Bool) → count (suc k) p ≡ bit (p 0) + count k (λ i. p (suc i))
unfolding count sum
count_front zero p = omega arith
count_front (suc k) p = omega (arith, count_front k p)

-- numbers that fail add nothing
pub count_enough : (n k : ℕ) (p : ℕ → Bool) → ((i : ℕ) → n ≤ i → p i ≡ false) → count (n + k) p ≡ count n p
unfolding count sum
count_enough n zero p h = ap (λ (x : ℕ). count x p) {x = n + 0} {y = n} (omega arith)
count_enough n (suc k) p h =
    ap (λ (x : ℕ). count x p) {x = n + suc k} {y = suc (n + k)} (omega arith)
    ∙ (omega (arith, count_enough n k p h, bit_false (p (n + k)) (h (n + k) (omega arith))))

pub count_most : (k : ℕ) (p : ℕ → Bool) → count k p ≤ k
unfolding count sum
count_most zero p = omega arith
count_most (suc k) p = omega (arith, count_most k p, bit_le (p k))

pub count_none : (k : ℕ) (p : ℕ → Bool) → ((i : ℕ) → i < k → p i ≡ false) → count k p ≡ 0
unfolding count
count_none k p e = sum_zero k (λ i. bit (p i)) (λ i h. bit_false (p i) (e i h))

pub count_all : (k : ℕ) (p : ℕ → Bool) → ((i : ℕ) → i < k → p i ≡ true) → count k p ≡ k
unfolding count sum
count_all zero p e = refl
count_all (suc k) p e =
    omega (arith, count_all k p (λ i h. e i (omega arith)), bit_true (p k) (e k (omega arith)))

-- a number that passes is counted
pub count_here : (k : ℕ) (p : ℕ → Bool) (j : ℕ) → j < k → p j ≡ true → 0 < count k p
unfolding count
count_here k p j h e = omega (arith, sum_term k (λ i. bit (p i)) j h, bit_true (p j) e)

-- a count above 0 has a number that passes
pub count_some : (k : ℕ) (p : ℕ → Bool) → 0 < count k p → (i : ℕ) × (i < k) × (p i ≡ true)
unfolding count sum
count_some zero p h = let z : ⊥ = omega arith in absurd z
count_some (suc k) p h =
    by_cases (p k)
    (λ e. (k, omega arith, e))
    (λ e. let f = count_some k p (omega (arith, bit_false (p k) e)) in (f.0, omega (arith, f.1), f.2))

-- equal counts of a test and of one that it implies: the tests are equal
pub count_tight : (k : ℕ) (p r : ℕ → Bool) → ((i : ℕ) → i < k → p i ≡ true → r i ≡ true) → count k r ≤ count k p
    → (i : ℕ) → i < k → r i ≡ true → p i ≡ true
unfolding count
count_tight k p r f s i h t =
    bit_is (p i) (r i) (sum_tight k (λ j. bit (p j)) (λ j. bit (r j)) (λ j l. bit_mono (p j) (r j) (f j l)) s i h) ∙ t

-- one number more passes
pub count_less : (k : ℕ) (p r : ℕ → Bool) (j : ℕ) → j < k → ((i : ℕ) → i < k → p i ≡ true → r i ≡ true) → p j ≡ false → r j ≡ true
    → count k p < count k r
count_less k p r j h f o t =
    ⊎_elim (λ l. l) (λ l. absurd (differ (count_tight k p r f l j h t) o)) (lt_or_le (count k p) (count k r))

pub count_room : (k : ℕ) (p : ℕ → Bool) (j : ℕ) → j < k → p j ≡ false → count k p < k
count_room k p j h o =
    omega (arith, count_less k p (λ i. true) j h (λ i l t. refl) o refl, count_most k (λ i. true))

-- ---- a test over the numbers below a bound

pub any_here : (k : ℕ) (p : ℕ → Bool) (j : ℕ) → j < k → p j ≡ true → any k p ≡ true
unfolding any
any_here zero p j h e = let z : ⊥ = omega arith in absurd z
any_here (suc k) p j h e =
    ⊎_elim
    (λ l. or_left (any k p) (p k) (any_here k p j l e))
    (λ r. or_right (any k p) (p k) (ap p (sym r) ∙ e))
    (below_suc k j h)

pub any_some : (k : ℕ) (p : ℕ → Bool) → any k p ≡ true → (i : ℕ) × (i < k) × (p i ≡ true)
unfolding any
any_some zero p e = absurd (differ e refl)
any_some (suc k) p e =
    ⊎_elim
    (λ l. let f = any_some k p l in (f.0, omega (arith, f.1), f.2))
    (λ r. (k, omega arith, r))
    (or_elim (any k p) (p k) e)

pub any_none : (k : ℕ) (p : ℕ → Bool) → any k p ≡ false → (j : ℕ) → j < k → p j ≡ false
any_none k p e j h = not_here (p j) (λ t. differ (any_here k p j h t) e)

pub any_mono : (k : ℕ) (p r : ℕ → Bool) → ((i : ℕ) → i < k → p i ≡ true → r i ≡ true) → any k p ≡ true → any k r ≡ true
any_mono k p r f e = let s = any_some k p e in any_here k r s.0 s.1 (f s.0 s.1 s.2)

pub any_ext : (k : ℕ) (p r : ℕ → Bool) → ((i : ℕ) → i < k → p i ≡ r i) → any k p ≡ any k r
any_ext k p r e =
    same_test (any k p) (any k r) (any_mono k p r (λ i h t. sym (e i h) ∙ t)) (any_mono k r p (λ i h t. e i h ∙ t))

-- the first number, then the rest
pub any_front : (k : ℕ) (p : ℕ → Bool) → any (suc k) p ≡ (p 0 || any k (λ i. p (suc i)))
unfolding any
any_front zero p = sym (or-false (p 0))
any_front (suc k) p = ap (λ (b : Bool). b || p (suc k)) (any_front k p) ∙ or_assoc (p 0) (any k (λ i. p (suc i))) (p (suc k))

-- ---- the greatest value

pub latest_term : (k : ℕ) (f : ℕ → ℕ) (j : ℕ) → j < k → f j ≤ latest k f
unfolding latest
latest_term zero f j h = omega arith
latest_term (suc k) f j h =
    ⊎_elim (λ l. omega (arith, latest_term k f j l)) (λ r. omega (arith, ap f r)) (below_suc k j h)

pub latest_le : (k : ℕ) (f : ℕ → ℕ) (t : ℕ) → ((i : ℕ) → i < k → f i ≤ t) → latest k f ≤ t
unfolding latest
latest_le zero f t e = omega arith
latest_le (suc k) f t e = omega (arith, latest_le k f t (λ i h. e i (omega arith)), e k (omega arith))

pub latest_ext : (k : ℕ) (f g : ℕ → ℕ) → ((i : ℕ) → i < k → f i ≡ g i) → latest k f ≡ latest k g
unfolding latest
latest_ext zero f g e = refl
latest_ext (suc k) f g e = ap₂ max (latest_ext k f g (λ i h. e i (omega arith))) (e k (omega arith))
