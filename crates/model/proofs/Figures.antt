-- The table P1 to P17 holds: a test of a row by brute force over all schedules and all sets,
-- one law from the test to the facts, and one computation.
--     all, imp       a test on every number below a bound; one test implies another
--     every          a test on every choice of q values from a list
--     planned        the test of a plan
--     right          the test of a figure
--     figures        every figure of the table holds
use Prim.Native.Nat.{ℕ, zero, suc, ◌+◌, ◌-◌, ◌<◌}
use mathlib.Core.Path.{◌≡◌, refl, sym, ap, ap₂, subst, ◌∙◌}
use mathlib.Core.Logic.{⊎_elim}
use mathlib.Core.Bool.{Bool, true, false, not, ◌&&◌}
use mathlib.Core.List.{List, [], ◌∷◌, map}
use native.Mathlib.Omega.{arith}
use lib.Dec.{ltb, leb, eqb}
use lib.ListN.{length, get_or}
use borrow.Author.Tests.{ltb-true, leb-true, eqb-true, not-true, lt-ltb, le-leb, eq-eqb}
use Rattle.basics.specs.Count.{bit, gate, sum, count, any, latest}
use Rattle.model.specs.Assignment.{reads, Valid}
use Rattle.model.specs.Capacity.{end_time, capacity}
use Rattle.basics.specs.Choice.{pick}
use Rattle.model.specs.Case.{Case, left, starting, base, in_use, Schedule, end_of, response, HasTime, capacity_at}
use Rattle.model.specs.Shortfall.{touches, size, room, Sub, NoShorter, Greatest}
use Rattle.model.specs.Order.{Agree, Before}
use Rattle.model.specs.Plan.{Optimal}
use Rattle.model.specs.Figures.{Figure, request, pulled, capacities, asked, Planned, Holds, AllHold, table}
use Rattle.basics.specs.Lists.{listed}
use Rattle.basics.proofs.Tests.{differ, and_left, and_right, and_both, below_suc}
use Rattle.basics.proofs.Count.{any_here, any_ext, count_ext, latest_ext}
use Rattle.model.proofs.Duality.{room_ext}
use Rattle.model.proofs.Move.{reads_ext}
use Rattle.model.proofs.Subsets.{put, put_here, put_below, put_more, FirstOnly, put_first}

-- ---- tests over a bound

all : ℕ → (ℕ → Bool) → Bool
all zero p = true
all (suc k) p = all k p && p k

all_here : (k : ℕ) (p : ℕ → Bool) → all k p ≡ true → (i : ℕ) → i < k → p i ≡ true
unfolding all
all_here zero p e i h = let z : ⊥ = omega arith in absurd z
all_here (suc k) p e i h =
    ⊎_elim
    (λ l. all_here k p (and_left (all k p) (p k) e) i l)
    (λ r. ap p r ∙ and_right (all k p) (p k) e)
    (below_suc k i h)

all_every : (k : ℕ) (p : ℕ → Bool) → ((i : ℕ) → i < k → p i ≡ true) → all k p ≡ true
unfolding all
all_every zero p e = refl
all_every (suc k) p e = and_both (all k p) (p k) (all_every k p (λ i h. e i (omega arith))) (e k (omega arith))

all_ext : (k : ℕ) (p r : ℕ → Bool) → ((i : ℕ) → i < k → p i ≡ r i) → all k p ≡ all k r
unfolding all
all_ext zero p r e = refl
all_ext (suc k) p r e = ap₂ (λ (x y : Bool). x && y) (all_ext k p r (λ i h. e i (omega arith))) (e k (omega arith))

imp : Bool → Bool → Bool
imp true b = b
imp false b = true

imp_here : (a b : Bool) → imp a b ≡ true → a ≡ true → b ≡ true
unfolding imp
imp_here true b e h = e
imp_here false b e h = absurd (differ h refl)

-- ---- every choice of q values

module _ {B : Type 0} (z : B) where
  each : List B → (B → Bool) → Bool
  each [] p = true
  each (x ∷ l) p = p x && each l p

  every : List B → ℕ → ((ℕ → B) → Bool) → Bool
  every vs zero p = p (λ b. z)
  every vs (suc q) p = each vs (λ x. every vs q (λ a. p (put q x a)))

  -- a value on the list
  data OnList : List B → B → Type 0 where
    here : {x : B} {l : List B} → OnList (x ∷ l) x
    later : {x y : B} {l : List B} → OnList l x → OnList (y ∷ l) x

  each_here : {l : List B} {x : B} → OnList l x → (p : B → Bool) → each l p ≡ true → p x ≡ true
  unfolding each
  each_here (here {x = y} {l = l}) p e = and_left (p y) (each l p) e
  each_here (later {y = y} {l = l} h) p e = each_here h p (and_right (p y) (each l p) e)

  every_here : (vs : List B) (q : ℕ) (p : (ℕ → B) → Bool) → FirstOnly q p → every vs q p ≡ true
      → (a : ℕ → B) → ((b : ℕ) → b < q → OnList vs (a b)) → p a ≡ true
  unfolding every FirstOnly Agree
  every_here vs zero p f e a h = f a (λ b. z) (λ b l. let n : ⊥ = omega arith in absurd n) ∙ e
  every_here vs (suc q) p f e a h =
      f a (put q (a q) a) (put_more q a (put q (a q) a) (λ i l. sym (put_below q (a q) a i l)) (sym (put_here q (a q) a)))
      ∙ every_here vs q (λ x. p (put q (a q) x)) (put_first q (a q) p f)
      (each_here (h q (omega arith)) (λ x. every vs q (λ y. p (put q x y))) e)
      a (λ b l. h b (omega arith))

-- ---- the test of a plan

-- whether a is a schedule
schedule? : Case → (ℕ → ℕ) → Bool
schedule? m a = all m.blocks (λ b. ltb (a b) m.disks && m.copy b (a b))

-- whether a stands before a'
before? : ℕ → (ℕ → ℕ) → (ℕ → ℕ) → Bool
before? q a a' = any q (λ b. all b (λ i. eqb (a i) (a' i)) && ltb (a b) (a' b))

-- whether no schedule x is sooner than R, nor of time R and before a
slower? : Case → ℕ → (ℕ → ℕ) → (ℕ → ℕ) → Bool
slower? m R a x =
    imp (schedule? m x) (leb R (response m x) && imp (eqb (response m x) R) (not (before? m.blocks x a)))

-- a set's size, and its room at R - 1
room? : Case → ℕ → (ℕ → Bool) → ℕ
room? m R S = room m.disks m.blocks m.copy (capacity_at m (R - 1)) S

-- whether the set X is no shorter than S, and contains it if it is as short
wider? : Case → ℕ → (ℕ → Bool) → (ℕ → Bool) → Bool
wider? m R S X =
    let s = size m.blocks S + room? m R X in
    let x = size m.blocks X + room? m R S in
    leb x s && imp (leb s x) (all m.blocks (λ b. imp (S b) (X b)))

-- the numbers below n
upto : ℕ → List ℕ
upto zero = []
upto (suc n) = n ∷ upto n

-- over all choices of a disk for each block
schedules? : Case → ℕ → (ℕ → ℕ) → Bool
schedules? m R a = every 0 (upto m.disks) m.blocks (slower? m R a)

-- over all sets of blocks
sets? : Case → ℕ → (ℕ → Bool) → Bool
sets? m R S = every false (true ∷ false ∷ []) m.blocks (wider? m R S)

planned : Case → ℕ → (ℕ → ℕ) → (ℕ → Bool) → Bool
planned m R a S = (schedule? m a && eqb (response m a) R) && (schedules? m R a && sets? m R S)

four : (a b c d : Bool) → ((a && b) && (c && d)) ≡ true → (a ≡ true) × (b ≡ true) × (c ≡ true) × (d ≡ true)
four a b c d e =
    let l = and_left (a && b) (c && d) e in
    let r = and_right (a && b) (c && d) e in
    (and_left a b l, and_right a b l, and_left c d r, and_right c d r)

-- ---- what the tests look at, and what they tell

schedule_only : (m : Case) → FirstOnly m.blocks (schedule? m)
unfolding FirstOnly Agree schedule?
schedule_only m a a' e =
    all_ext m.blocks (λ b. ltb (a b) m.disks && m.copy b (a b)) (λ b. ltb (a' b) m.disks && m.copy b (a' b))
    (λ b h. ap (λ (d : ℕ). ltb d m.disks && m.copy b d) (e b h))

response_only : (m : Case) → FirstOnly m.blocks (response m)
unfolding FirstOnly Agree response end_of
response_only m a a' e =
    latest_ext m.disks (end_of m a) (end_of m a')
    (λ d h. ap (end_time (m.start d) (m.cost d)) (reads_ext m.blocks a a' e d))

before_only : (q : ℕ) (a : ℕ → ℕ) → FirstOnly q (λ x. before? q x a)
unfolding FirstOnly Agree before?
before_only q a x y e =
    any_ext q (λ b. all b (λ i. eqb (x i) (a i)) && ltb (x b) (a b)) (λ b. all b (λ i. eqb (y i) (a i)) && ltb (y b) (a b))
    (λ b h. ap₂ (λ (s t : Bool). s && t)
    (all_ext b (λ i. eqb (x i) (a i)) (λ i. eqb (y i) (a i)) (λ i l. ap (λ (d : ℕ). eqb d (a i)) (e i (omega arith))))
    (ap (λ (d : ℕ). ltb d (a b)) (e b h)))

slower_only : (m : Case) (R : ℕ) (a : ℕ → ℕ) → FirstOnly m.blocks (slower? m R a)
unfolding FirstOnly slower?
slower_only m R a x y e =
    ap₂ imp (schedule_only m x y e)
    (ap₂ (λ (t : ℕ) (s : Bool). leb R t && imp (eqb t R) (not s)) (response_only m x y e) (before_only m.blocks a x y e))

wider_only : (m : Case) (R : ℕ) (S : ℕ → Bool) → FirstOnly m.blocks (wider? m R S)
unfolding FirstOnly Agree wider? room? size
wider_only m R S X Y e =
    ap₂ (λ (s : Bool) (t : Bool). s && t)
    (ap₂ (λ (u v : ℕ). leb (u + room? m R S) (size m.blocks S + v)) sizes rooms)
    (ap₂ imp
    (ap₂ (λ (u v : ℕ). leb (size m.blocks S + v) (u + room? m R S)) sizes rooms)
    (all_ext m.blocks (λ b. imp (S b) (X b)) (λ b. imp (S b) (Y b)) (λ b h. ap (imp (S b)) (e b h))))
  where
    sizes : size m.blocks X ≡ size m.blocks Y
    sizes = count_ext m.blocks X Y e

    rooms : room? m R X ≡ room? m R Y
    rooms = room_ext m.disks m.blocks m.copy (capacity_at m (R - 1)) X Y e

schedule_true : (m : Case) (a : ℕ → ℕ) → schedule? m a ≡ true → Schedule m a
unfolding schedule? Schedule Valid
schedule_true m a e b h =
    let f = all_here m.blocks (λ i. ltb (a i) m.disks && m.copy i (a i)) e b h in
    (ltb-true (a b) m.disks (and_left (ltb (a b) m.disks) (m.copy b (a b)) f), and_right (ltb (a b) m.disks) (m.copy b (a b)) f)

true_schedule : (m : Case) (a : ℕ → ℕ) → Schedule m a → schedule? m a ≡ true
unfolding schedule? Schedule Valid
true_schedule m a v =
    all_every m.blocks (λ b. ltb (a b) m.disks && m.copy b (a b))
    (λ b h. and_both (ltb (a b) m.disks) (m.copy b (a b)) (lt-ltb (a b) m.disks (v b h).0) (v b h).1)

true_before : (q : ℕ) (a a' : ℕ → ℕ) → Before q a a' → before? q a a' ≡ true
unfolding before? Before Agree
true_before q a a' f =
    any_here q (λ b. all b (λ i. eqb (a i) (a' i)) && ltb (a b) (a' b)) f.0 f.1
    (and_both (all f.0 (λ i. eqb (a i) (a' i))) (ltb (a f.0) (a' f.0))
    (all_every f.0 (λ i. eqb (a i) (a' i)) (λ i h. eq-eqb (a i) (a' i) (f.2 i h)))
    (lt-ltb (a f.0) (a' f.0) f.3))

upto_on : (n d : ℕ) → d < n → OnList 0 (upto n) d
unfolding upto
upto_on zero d h = let z : ⊥ = omega arith in absurd z
upto_on (suc n) d h =
    ⊎_elim (λ l. later (upto_on n d l)) (λ r. subst (λ (x : ℕ). OnList 0 (n ∷ upto n) x) (sym r) here) (below_suc n d h)

bool_on : (b : Bool) → OnList false (true ∷ false ∷ []) b
bool_on true = here
bool_on false = later here

-- ---- from the test to the facts

slower_here : (m : Case) (R : ℕ) (a : ℕ → ℕ) → schedules? m R a ≡ true → (x : ℕ → ℕ) → Schedule m x
    → (leb R (response m x) && imp (eqb (response m x) R) (not (before? m.blocks x a))) ≡ true
unfolding schedules? slower? Schedule Valid
slower_here m R a e x v =
    imp_here (schedule? m x) (leb R (response m x) && imp (eqb (response m x) R) (not (before? m.blocks x a)))
    (every_here 0 (upto m.disks) m.blocks (slower? m R a) (slower_only m R a) e x (λ b h. upto_on m.disks (x b) (v b h).0))
    (true_schedule m x v)

wider_here : (m : Case) (R : ℕ) (S : ℕ → Bool) → sets? m R S ≡ true → (X : ℕ → Bool) → wider? m R S X ≡ true
unfolding sets?
wider_here m R S e X =
    every_here false (true ∷ false ∷ []) m.blocks (wider? m R S) (wider_only m R S) e X (λ b h. bool_on (X b))

planned_law : (m : Case) (R : ℕ) (a : ℕ → ℕ) (S : ℕ → Bool) → planned m R a S ≡ true → Optimal m R a S
unfolding planned wider? room? HasTime Greatest NoShorter Sub
planned_law m R a S e =
    let f = four (schedule? m a) (eqb (response m a) R) (schedules? m R a) (sets? m R S) e in
    let own : Schedule m a = schedule_true m a f.0 in
    let time : response m a ≡ R = eqb-true (response m a) R f.1 in
    let size_of : (ℕ → Bool) → ℕ = size m.blocks in
    record {
      least = record {
        lower = λ x v.
            leb-true R (response m x)
            (and_left (leb R (response m x)) (imp (eqb (response m x) R) (not (before? m.blocks x a))) (slower_here m R a f.2 x v));
        reached = (a, own, time);
      };
      first = record {
        holds = (own, time);
        none = λ x p b.
            differ
            (true_before m.blocks x a b)
            (not-true (before? m.blocks x a)
            (imp_here (eqb (response m x) R) (not (before? m.blocks x a))
            (and_right (leb R (response m x)) (imp (eqb (response m x) R) (not (before? m.blocks x a)))
            (slower_here m R a f.2 x p.0))
            (eq-eqb (response m x) R p.1)));
      };
      short = record {
        greatest = λ X.
            leb-true (size_of X + room? m R S) (size_of S + room? m R X)
            (and_left (leb (size_of X + room? m R S) (size_of S + room? m R X))
            (imp (leb (size_of S + room? m R X) (size_of X + room? m R S)) (all m.blocks (λ b. imp (S b) (X b))))
            (wider_here m R S f.3 X));
        least = λ X g b h s.
            imp_here (S b) (X b)
            (all_here m.blocks (λ i. imp (S i) (X i))
            (imp_here (leb (size_of S + room? m R X) (size_of X + room? m R S)) (all m.blocks (λ i. imp (S i) (X i)))
            (and_right (leb (size_of X + room? m R S) (size_of S + room? m R X))
            (imp (leb (size_of S + room? m R X) (size_of X + room? m R S)) (all m.blocks (λ i. imp (S i) (X i))))
            (wider_here m R S f.3 X))
            (le-leb (size_of S + room? m R X) (size_of X + room? m R S) (g S)))
            b h)
            s;
      };
    }

-- ---- the table

same : List ℕ → List ℕ → Bool
same [] [] = true
same [] (y ∷ l) = false
same (x ∷ k) [] = false
same (x ∷ k) (y ∷ l) = eqb x y && same k l

same_law : (k l : List ℕ) → same k l ≡ true → k ≡ l
unfolding same
same_law [] [] e = refl
same_law [] (y ∷ l) e = absurd (differ e refl)
same_law (x ∷ k) [] e = absurd (differ e refl)
same_law (x ∷ k) (y ∷ l) e =
    ap₂ (λ (i : ℕ) (j : List ℕ). i ∷ j) (eqb-true x y (and_left (eqb x y) (same k l) e)) (same_law k l (and_right (eqb x y) (same k l) e))

answers : Case → ℕ → List ℕ → List ℕ → Bool
answers m R disks short =
    planned m R (λ b. get_or disks b 0) (listed short)
    && (eqb (length disks) m.blocks && eqb (length short) (size m.blocks (listed short)))

answers_law : (m : Case) (R : ℕ) (disks short : List ℕ) → answers m R disks short ≡ true → Planned m R disks short
unfolding answers
answers_law m R disks short e =
    let p : Bool = planned m R (λ b. get_or disks b 0) (listed short) in
    let l : Bool = eqb (length disks) m.blocks in
    let k : Bool = eqb (length short) (size m.blocks (listed short)) in
    record {
      plan = planned_law m R (λ b. get_or disks b 0) (listed short) (and_left p (l && k) e);
      every_block = eqb-true (length disks) m.blocks (and_left l k (and_right p (l && k) e));
      no_other = eqb-true (length short) (size m.blocks (listed short)) (and_right l k (and_right p (l && k) e));
    }

right : Figure → Bool
right (request u age copies R disks short) = answers (asked u age copies) R disks short
right (pulled u age out copies R disks short) = answers (in_use (listed out) (asked u age copies)) R disks short
right (capacities u d times values) = same (map (λ t. capacity_at (asked u 0 []) t d) times) values

right_law : (f : Figure) → right f ≡ true → Holds f
unfolding right Holds
right_law (request u age copies R disks short) e = answers_law (asked u age copies) R disks short e
right_law (pulled u age out copies R disks short) e = answers_law (in_use (listed out) (asked u age copies)) R disks short e
right_law (capacities u d times values) e = same_law (map (λ t. capacity_at (asked u 0 []) t d) times) values e

all_right : List Figure → Bool
all_right [] = true
all_right (f ∷ fs) = right f && all_right fs

figures_law : (fs : List Figure) → all_right fs ≡ true → AllHold fs
unfolding all_right AllHold
figures_law [] e = tt
figures_law (f ∷ fs) e = (right_law f (and_left (right f) (all_right fs) e), figures_law fs (and_right (right f) (all_right fs) e))

pub figures : AllHold table
unfolding
    table all_right right answers in_use planned schedule? schedules? sets? slower? wider? room? before? all imp each every upto same put
    listed asked left starting base capacity_at capacity pick end_time response end_of reads size room touches bit gate sum count any latest
figures = figures_law table refl
