-- Laws of lists.
--     replicate_at     a list of one value holds it everywhere
--     all_at, all_by, rises_by     each value by its place; numbers that rise by their places
--     listed_at, listed_some, listed_not, listed_take     what stands at a place is listed, and the other way round; a part of a list
--     listed_one, one_listed     a list of one number
--     listed_is_any     the library's test of a list
--     rising_same      two rising lists of the same numbers are the same
use Prim.Native.Nat.{ℕ, zero, suc, ◌+◌, ◌≤◌, ◌<◌}
use mathlib.Core.Path.{◌≡◌, refl, sym, ap, ◌∙◌, subst}
use mathlib.Core.Bool.{Bool, true, false, ◌||◌, or-false}
use mathlib.Core.Logic.{⊎_elim}
use mathlib.Core.List.{List, [], ◌∷◌}
use native.Mathlib.Omega.{arith}
use borrow.Author.Tests.{eq-eqb, ne_eqb, eqb-true, eqb-false}
use lib.Dec.{eqb}
use lib.ListN.{length, get_or, take, replicate}
use lib.Seq.{get_or-take, length-take-le}
use Rattle.std.specs.List.{list_any}
use Rattle.basics.specs.Count.{any}
use Rattle.basics.specs.Lists.{All, Rises, listed}
use Rattle.basics.proofs.Tests.{by_cases, below_or, differ, not_here, or_elim, or_right}
use Rattle.basics.proofs.Count.{any_ext, any_front}

pub replicate_at : {A : Type 0} (a : A) (n i : ℕ) → get_or (replicate n a) i a ≡ a
replicate_at a zero i = refl
replicate_at a (suc n) zero = refl
replicate_at a (suc n) (suc i) = replicate_at a n i

-- ---- value by value

-- the first of as many or more
pub take_replicate : {A : Type 0} (a : A) (n m : ℕ) → n ≤ m → take n (replicate m a) ≡ replicate n a
take_replicate a zero m h = refl
take_replicate a (suc n) zero h = absurd (omega arith)
take_replicate a (suc n) (suc m) h = ap (λ xs. a ∷ xs) (take_replicate a n m (omega arith))

pub all_at : {A : Type 0} (P : A → Type 0) (xs : List A) → All P xs → (i : ℕ) (z : A) → i < length xs → P (get_or xs i z)
unfolding All
all_at P [] h i z l = absurd (omega arith)
all_at P (x ∷ xs) h zero z l = h.0
all_at P (x ∷ xs) h (suc i) z l = all_at P xs h.1 i z (omega arith)

pub all_by : {A : Type 0} (P : A → Type 0) (z : A) (xs : List A) → ((i : ℕ) → i < length xs → P (get_or xs i z)) → All P xs
unfolding All
all_by P z [] h = tt
all_by P z (x ∷ xs) h = (h 0 (omega arith), all_by P z xs λ i l. h (suc i) (omega arith))

pub rises_by : (floor high : ℕ) (xs : List ℕ) → ((i : ℕ) → i < length xs → (floor ≤ get_or xs i 0) × (get_or xs i 0 ≤ high))
    → ((i j : ℕ) → i < j → j < length xs → get_or xs i 0 < get_or xs j 0) → Rises floor high xs
unfolding Rises
rises_by floor high [] h r = tt
rises_by floor high (x ∷ xs) h r = (
  (h 0 (omega arith)).0,
  (h 0 (omega arith)).1,
  rises_by (x + 1) high xs (λ i l. (omega (arith, r 0 (suc i) (omega arith) (omega arith)), (h (suc i) (omega arith)).1))
      (λ i j l k. r (suc i) (suc j) (omega arith) (omega arith)),
)

-- ---- what is on a list

listed_first : (x : ℕ) (xs : List ℕ) → listed (x ∷ xs) x ≡ true
unfolding listed
listed_first x xs = ap (λ (t : Bool). t || listed xs x) (eq-eqb x x refl)

listed_other : (x : ℕ) (xs : List ℕ) (b : ℕ) → (x ≡ b → ⊥) → listed (x ∷ xs) b ≡ listed xs b
unfolding listed
listed_other x xs b h = ap (λ (t : Bool). t || listed xs b) (ne_eqb x b h)

pub listed_none : (b : ℕ) → listed [] b ≡ false
unfolding listed
listed_none b = refl

pub listed_at : (xs : List ℕ) (i : ℕ) → i < length xs → listed xs (get_or xs i 0) ≡ true
unfolding listed
listed_at [] i l = absurd (omega arith)
listed_at (x ∷ xs) zero l = listed_first x xs
listed_at (x ∷ xs) (suc i) l = or_right (eqb x (get_or xs i 0)) _ (listed_at xs i (omega arith))

pub listed_some : (xs : List ℕ) (b : ℕ) → listed xs b ≡ true → (i : ℕ) × (i < length xs) × (get_or xs i 0 ≡ b)
unfolding listed
listed_some [] b e = absurd (differ e refl)
listed_some (x ∷ xs) b e =
    ⊎_elim
    (λ t. (0, omega arith, eqb-true x b t))
    (λ t. let s = listed_some xs b t in (suc s.0, omega (arith, s.1), s.2))
    (or_elim (eqb x b) (listed xs b) e)

pub listed_not : (xs : List ℕ) (b : ℕ) → ((i : ℕ) → i < length xs → get_or xs i 0 ≡ b → ⊥) → listed xs b ≡ false
listed_not xs b h = not_here (listed xs b) (λ t. let s = listed_some xs b t in h s.0 s.1 s.2)

-- a list of one number
pub listed_one : (x b : ℕ) → listed (x ∷ []) b ≡ true → b ≡ x
unfolding listed
listed_one x b e = sym (eqb-true x b (sym (or-false (eqb x b)) ∙ e))

pub one_listed : (x : ℕ) → listed (x ∷ []) x ≡ true
one_listed x = listed_first x []

-- by places
listed_any : (xs : List ℕ) (b : ℕ) → any (length xs) (λ i. eqb (get_or xs i 0) b) ≡ listed xs b
unfolding listed any
listed_any [] b = refl
listed_any (x ∷ xs) b =
    any_front (length xs) (λ i. eqb (get_or (x ∷ xs) i 0) b) ∙ ap (λ (r : Bool). eqb x b || r) (listed_any xs b)

pub listed_take : (xs : List ℕ) (m b : ℕ) → m ≤ length xs → any m (λ i. eqb (get_or xs i 0) b) ≡ listed (take m xs) b
listed_take xs m b l =
    any_ext m (λ i. eqb (get_or xs i 0) b) (λ i. eqb (get_or (take m xs) i 0) b)
    (λ i k. ap (λ (x : ℕ). eqb x b) (sym (get_or-take m xs i 0 k)))
    ∙ ap (λ (k : ℕ). any k (λ i. eqb (get_or (take m xs) i 0) b)) (sym (length-take-le m xs l))
    ∙ listed_any (take m xs) b

-- ---- a rising list is known by its numbers

-- nothing below the floor is on it
listed_below : (floor high : ℕ) (xs : List ℕ) → Rises floor high xs → (b : ℕ) → b < floor → listed xs b ≡ false
unfolding Rises
listed_below floor high [] r b l = listed_none b
listed_below floor high (x ∷ xs) r b l =
    listed_other x xs b (λ e. omega (arith, r.0)) ∙ listed_below (x + 1) high xs r.2 b (omega (arith, r.0))

-- the same numbers up to high
abbrev Same : ℕ → List ℕ → List ℕ → Type 0
Same high xs ys = (b : ℕ) → b ≤ high → listed xs b ≡ listed ys b

-- the first number of one is not below that of the other
first_late : (high x y : ℕ) (xs ys : List ℕ) → x ≤ high → Rises (y + 1) high ys → Same high (x ∷ xs) (y ∷ ys) → y ≤ x
first_late high x y xs ys k q h =
    below_or x y
    (λ l. absurd (differ (sym (h x k) ∙ listed_first x xs) (listed_other y ys x (λ e. omega arith)
    ∙ listed_below (y + 1) high ys q x (omega arith))))
    (λ l. l)

-- behind a first number that both have
same_rest : (high x : ℕ) (xs ys : List ℕ) → Rises (x + 1) high xs → Rises (x + 1) high ys → Same high (x ∷ xs) (x ∷ ys) → Same high xs ys
same_rest high x xs ys r q h b k =
    by_cases (eqb x b)
    (λ t. let e = eqb-true x b t in
    listed_below (x + 1) high xs r b (omega arith) ∙ sym (listed_below (x + 1) high ys q b (omega arith)))
    (λ f. sym (listed_other x xs b (eqb-false x b f)) ∙ h b k ∙ listed_other x ys b (eqb-false x b f))

pub rising_same : (floor high : ℕ) (xs ys : List ℕ) → Rises floor high xs → Rises floor high ys
    → ((b : ℕ) → b ≤ high → listed xs b ≡ listed ys b) → xs ≡ ys
unfolding Rises
rising_same floor high [] [] r q h = refl
rising_same floor high [] (y ∷ ys) r q h = absurd (differ (listed_first y ys) (sym (h y q.1) ∙ listed_none y))
rising_same floor high (x ∷ xs) [] r q h = absurd (differ (listed_first x xs) (h x r.1 ∙ listed_none x))
rising_same floor high (x ∷ xs) (y ∷ ys) r q h =
    let e : y ≡ x =
    omega (arith, first_late high x y xs ys r.1 q.2 h, first_late high y x ys xs q.1 r.2 (λ b l. sym (h b l))) in
    let g : Rises (x + 1) high ys = subst (λ (k : ℕ). Rises (k + 1) high ys) e q.2 in
    let k : Same high (x ∷ xs) (x ∷ ys) = λ b l. h b l ∙ ap (λ (z : ℕ). listed (z ∷ ys) b) e in
    ap (λ (z : List ℕ). x ∷ z) (rising_same (x + 1) high xs ys r.2 g (same_rest high x xs ys r.2 g k))
    ∙ ap (λ (z : ℕ). z ∷ ys) (sym e)

-- the library's test of a list
pub listed_is_any : (xs : List ℕ) (b : ℕ) → list_any (λ x. eqb x b) xs ≡ listed xs b
unfolding listed
listed_is_any [] b = refl
listed_is_any (x ∷ xs) b = ap (λ (t : Bool). eqb x b || t) (listed_is_any xs b)
