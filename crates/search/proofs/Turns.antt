-- The search, step by step.
--     Turn           a block on a reached disk brings disks
--     more_steps     there is room for the note
--     seeks_way      each of them has a way
--     seeks_mark     where none of them has room, they are reached
use Prim.Native.Nat.{ℕ, ◌+◌, ◌≤◌, ◌<◌, ◌^◌}
use mathlib.Core.Path.{◌≡◌, sym, ap, subst, ◌∙◌}
use mathlib.Core.Logic.{⊎_elim}
use mathlib.Core.Bool.{Bool, true, false, not, ◌&&◌, ◌||◌}
use mathlib.Core.List.{List}
use native.Mathlib.Omega.{arith}
use lib.Dec.{eqb}
use lib.ListN.{get_or, set, length-set}
use lib.Seq.{get_or-set_same, get_or-set_other}
use borrow.Author.Count.{below_more}
use borrow.Author.Tests.{eqb-true, eqb-false, not-true}
use Rattle.basics.specs.Limits.{disks_most}
use Rattle.mask.specs.Has.{has}
use Rattle.model.specs.Shortfall.{touches}
use Rattle.basics.proofs.Tests.{by_cases, differ, and_left, and_right, and_both, or_elim, or_left, or_right, not_here}
use Rattle.basics.proofs.Count.{count_less, count_room, any_here}
use Rattle.places.specs.Places.{holds}
use Rattle.places.specs.Among.{Inside}
use Rattle.search.specs.Search.{Owning}
use Rattle.search.specs.Parts.{Brought, Notes, Seeks, Way}

-- block y on the reached disk d brings the disks w, of which there is one
pub record Turn (n q b base bound : ℕ) (masks seats : List ℕ) (room : ℕ) (by : List ℕ) (steps x y d w : ℕ) : Type 0 where
  pub seeks : Seeks n q b base bound masks seats room by steps x
  pub disks : n ≤ disks_most
  pub block : y < q
  pub here : get_or seats y 0 ≡ d
  pub movable : bound ≤ y
  pub reached : has x d ≡ true
  pub beyond : has base d ≡ false
  pub news : (e : ℕ) → has w e ≡ (holds masks y e && not (has x e))
  pub some : (e : ℕ) × (holds masks y e ≡ true) × (has x e ≡ false)
  pub low : (e : ℕ) → holds masks y e ≡ true → e < n

module _ {n q b base bound : ℕ} {masks seats : List ℕ} {room : ℕ} {by : List ℕ} {steps x y d w : ℕ}
    (turn : Turn n q b base bound masks seats room by steps x y d w) where
  copy : (e : ℕ) → has w e ≡ true → holds masks y e ≡ true
  copy e t = and_left (holds masks y e) (not (has x e)) (sym (turn.news e) ∙ t)

  fresh : (e : ℕ) → has w e ≡ true → has x e ≡ false
  fresh e t = not-true (has x e) (and_right (holds masks y e) (not (has x e)) (sym (turn.news e) ∙ t))

  small : turn.some.0 < disks_most
  small = omega (arith, turn.disks, turn.low turn.some.0 turn.some.1)

  pub more_steps : steps ≤ disks_most
  more_steps = omega (arith, turn.seeks.few, count_room disks_most (has x) turn.some.0 small turn.some.2)

  abbrev by' : List ℕ
  by' = set by steps y

  last : get_or by' steps 0 ≡ y
  last = get_or-set_same by steps y 0 (omega (arith, more_steps, turn.seeks.long))

  early : (j : ℕ) → j < steps → get_or by' j 0 ≡ get_or by j 0
  early j u = get_or-set_other by steps j y 0 (omega arith)

  -- no step so far is of y, whose copies are not all reached
  new : (j : ℕ) → j < steps → get_or by j 0 ≡ y → ⊥
  new j u e = differ (turn.seeks.taken j u turn.some.0
      (subst (λ (i : ℕ). holds masks i turn.some.0 ≡ true) (sym e) turn.some.1)) turn.some.2

  -- what a step so far brought, it brought
  keep : (e k : ℕ) → k ≤ steps → Brought masks seats by e k → Brought masks seats by' e k
  keep e k u g =
      let i = sym (early g.0 (omega (arith, g.1))) in (
        g.0,
        g.1,
        subst (λ (j : ℕ). holds masks j e ≡ true) i g.2,
        λ v. g.3 (subst (λ (j : ℕ). get_or seats j 0 ≡ e) (sym i) v),
      )

  later : (e k : ℕ) → Brought masks seats by' e k → Brought masks seats by' e (k + 1)
  later e k g = (g.0, omega (arith, g.1), g.2, g.3)

  brings : (e : ℕ) → has w e ≡ true → Brought masks seats by' e (steps + 1)
  brings e t = (
    steps,
    omega arith,
    subst (λ (j : ℕ). holds masks j e ≡ true) (sym last) (copy e t),
    λ v. differ (subst (λ (i : ℕ). has x i ≡ true) (sym turn.here ∙ sym (ap (λ (j : ℕ). get_or seats j 0) last) ∙ v)
        turn.reached) (fresh e t),
  )

  -- a fact of every step's block, from those so far and y
  each : (C : ℕ → Type 0) → ((j : ℕ) → j < steps → C (get_or by j 0)) → C y → (j : ℕ) → j < steps + 1 → C (get_or by' j 0)
  each C g v = below_more (λ j. C (get_or by' j 0)) steps (λ j u. subst C (sym (early j u)) (g j u)) (subst C (sym last) v)

  notes_more : Notes n q b base bound masks seats by' (steps + 1)
  notes_more =
      let p = turn.seeks.notes in
      record {
        some = omega arith;
        first = early 0 p.some ∙ p.first;
        blocks = each (λ i. i < q) p.blocks turn.block;
        movable = each (λ i. bound ≤ i) turn.seeks.notes.movable turn.movable;
        apart = λ i j u v. by_cases (eqb j steps)
            (λ t e. new i (let k = eqb-true j steps t in omega arith)
            (sym (early i (let k = eqb-true j steps t in omega arith)) ∙ e ∙ ap (λ (k : ℕ). get_or by' k 0) (eqb-true j steps t) ∙ last))
            (λ t e. let k : j < steps = let g = eqb-false j steps t in omega arith in
            p.apart i j u k (sym (early i (omega arith)) ∙ e ∙ early j k));
        seat = λ j u v. below_more (λ j. 0 < j → get_or seats (get_or by' j 0) 0 < n) steps
            (λ j k g. subst (λ (i : ℕ). get_or seats i 0 < n) (sym (early j k)) (p.seat j g k))
            (λ _. subst (λ (i : ℕ). get_or seats i 0 < n) (sym last)
            (subst (λ (i : ℕ). i < n) (sym turn.here) (turn.seeks.small d turn.reached)))
            j v u;
        away = λ j u v. below_more (λ j. 0 < j → has base (get_or seats (get_or by' j 0) 0) ≡ false) steps
            (λ j k g. subst (λ (i : ℕ). has base (get_or seats i 0) ≡ false) (sym (early j k)) (p.away j g k))
            (λ _. subst (λ (i : ℕ). has base (get_or seats i 0) ≡ false) (sym last)
            (subst (λ (i : ℕ). has base i ≡ false) (sym turn.here) turn.beyond))
            j v u;
        brought = λ j u v. below_more (λ j. 0 < j → Brought masks seats by' (get_or seats (get_or by' j 0) 0) j) steps
            (λ j k g. subst (λ (i : ℕ). Brought masks seats by' (get_or seats i 0) j) (sym (early j k))
            (keep (get_or seats (get_or by j 0) 0) j (omega arith) (p.brought j g k)))
            (λ _. subst (λ (i : ℕ). Brought masks seats by' (get_or seats i 0) steps) (sym last)
            (subst (λ (i : ℕ). Brought masks seats by' i steps) (sym turn.here)
            (keep d steps (omega arith) (turn.seeks.came d turn.reached turn.beyond))))
            j v u;
      }

  pub seeks_way : (e : ℕ) → has w e ≡ true → Way n q b base bound masks seats by' (steps + 1) e
  seeks_way e t =
      record {
        notes = notes_more;
        here = brings e t;
        disk = turn.low e (copy e t);
        beyond = not_here (has base e) (λ u. differ (turn.seeks.over e u) (fresh e t));
      }

  -- y is in every owning set that has b and touches base
  member : (S : ℕ → Bool) → S b ≡ true → ((e : ℕ) → has base e ≡ true → touches q (holds masks) S e ≡ true) → Owning q masks seats x S
      → S y ≡ true
  member S t u k =
      k y turn.block (subst (λ (i : ℕ). has x i ≡ true) (sym turn.here) turn.reached)
      (subst (λ (i : ℕ). touches q (holds masks) S i ≡ true) (sym turn.here) (turn.seeks.least S t u k d turn.reached))

  module _ (x' : ℕ) (a : (e : ℕ) → has x' e ≡ (has x e || holds masks y e)) (v : x' < 2 ^ disks_most) where
    pub up : (e : ℕ) → has x e ≡ true → has x' e ≡ true
    up e t = a e ∙ or_left (has x e) (holds masks y e) t

    split : (C : ℕ → Type 0) → ((e : ℕ) → has w e ≡ true → C e) → ((e : ℕ) → has x e ≡ true → C e)
        → (e : ℕ) → has x' e ≡ true → C e
    split C here there e t =
        by_cases (has x e) (there e)
        (λ u. here e (turn.news e ∙ and_both (holds masks y e) (not (has x e))
        (⊎_elim (λ g. absurd (differ g u)) (λ g. g) (or_elim (has x e) (holds masks y e) (sym (a e) ∙ t))) (ap not u)))

    pub covered : Inside (get_or masks y 0) x'
    covered e t = a e ∙ or_right (has x e) (holds masks y e) t

    pub seeks_mark : ((e : ℕ) → has w e ≡ true → has room e ≡ false) → Seeks n q b base bound masks seats room by' (steps + 1) x'
    unfolding touches
    seeks_mark g =
        record {
          long = length-set by steps y ∙ turn.seeks.long;
          fits = v;
          over = λ e t. up e (turn.seeks.over e t);
          few = omega (
            arith,
            turn.seeks.few,
            count_less disks_most (has x) (has x') turn.some.0 small (λ e l. up e) turn.some.2
                (covered turn.some.0 turn.some.1),
          );
          notes = notes_more;
          taken = each (λ i. Inside (get_or masks i 0) x') (λ j u e t. up e (turn.seeks.taken j u e t)) covered;
          came = λ e t. split (λ e. has base e ≡ false → Brought masks seats by' e (steps + 1))
              (λ e t _. brings e t)
              (λ e t u. later e steps (keep e steps (omega arith) (turn.seeks.came e t u))) e t;
          small = split (λ e. e < n) (λ e t. turn.low e (copy e t)) turn.seeks.small;
          full = split (λ e. has room e ≡ false) g turn.seeks.full;
          least = λ S t u k. let k' : Owning q masks seats x S = λ i l j. k i l (up (get_or seats i 0) j) in
              split (λ e. touches q (holds masks) S e ≡ true)
              (λ e i. any_here q (λ j. S j && holds masks j e) y turn.block
              (and_both (S y) (holds masks y e) (member S t u k') (copy e i)))
              (turn.seeks.least S t u k');
        }
