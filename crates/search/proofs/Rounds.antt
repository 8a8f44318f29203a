-- One round: the walk along the ring of disk d, block by block.
--     Round          what holds whenever the walk is at y: the blocks that it has passed bring nothing new
--     round_start, round_on     it holds at first, and a block later
--     round_turn     the block at which the walk is, if it brings a disk
--     round_less     the steps that are left fall
--     round_end, round_far     at the end nothing on disk d brings a new disk, and out has no disk too many for d
use Prim.Native.Nat.{ℕ, zero, suc, ◌+◌, ◌≤◌, ◌<◌, ◌^◌}
use mathlib.Core.Path.{◌≡◌, sym, ap, subst, ◌∙◌}
use mathlib.Core.Logic.{◌⊎◌, inl, inr, ⊎_elim}
use mathlib.Core.Bool.{not, ◌&&◌}
use mathlib.Core.List.{List}
use native.Mathlib.Omega.{arith}
use lib.Dec.{eqb}
use lib.ListN.{get_or, set, length-set}
use lib.Seq.{get_or-set_same, get_or-set_other}
use borrow.Author.Tests.{eqb-true, eqb-false}
use Rattle.basics.proofs.Tests.{by_cases}
use Rattle.mask.specs.Has.{has}
use Rattle.places.specs.Among.{Inside}
use Rattle.ring.specs.Walk.{walk, Comes, hops, Ends}
use Rattle.basics.specs.Limits.{disks_most, blocks_most, places_most, nodes_most}
use Rattle.ring.proofs.Walks.{walk_none, walk_step, walk_stop, ends_next, comes_more}
use Rattle.places.specs.Seats.{Row, Far}
use Rattle.search.specs.Parts.{Seeks, Quiet, Visiting}
use Rattle.places.proofs.Among.{some_new}
use Rattle.search.proofs.Turns.{Turn}

pub record Round (n q b base bound d : ℕ) (masks seats next : List ℕ) (room x₀ : ℕ) (by : List ℕ) (steps x y seen : ℕ) : Type 0 where
  pub seeks : Seeks n q b base bound masks seats room by steps x
  pub more : Inside x₀ x
  pub ends : Ends next y
  pub here : Comes next (get_or next (blocks_most + d) 0) y
  pub passed : (i : ℕ) → Comes next (get_or next (blocks_most + d) 0) i → i < blocks_most → Inside (get_or masks i 0) x ⊎ Comes next y i
  pub saw : (i : ℕ) → Comes next (get_or next (blocks_most + d) 0) i → i < blocks_most → Inside (get_or masks i 0) seen ⊎ Comes next y i

module _ {n q b base bound d : ℕ} {masks seats next : List ℕ} {room : ℕ} where
  pub round_start : {by : List ℕ} {steps x : ℕ} → Row q bound d seats next → Seeks n q b base bound masks seats room by steps x
      → Round n q b base bound d masks seats next room x by steps x (get_or next (blocks_most + d) 0) 0
  round_start r s =
      record {
        seeks = s;
        more = λ e t. t;
        ends = r.ends;
        here = (0, walk_none next (get_or next (blocks_most + d) 0));
        passed = λ i w _. inr w;
        saw = λ i w _. inr w;
      }

  module _ {x₀ : ℕ} {by : List ℕ} {steps x y seen : ℕ} (g : Round n q b base bound d masks seats next room x₀ by steps x y seen) where
    -- the walk is at its end: what it has passed is all
    over : (C : ℕ → Type 0) → Row q bound d seats next → blocks_most ≤ y
        → ((i : ℕ) → Comes next (get_or next (blocks_most + d) 0) i → i < blocks_most → C i ⊎ Comes next y i)
        → (i : ℕ) → bound ≤ i → i < q → get_or seats i 0 ≡ d → C i
    over C r l f i h k e =
        ⊎_elim (λ u. u)
        (λ w. let z = walk_stop next w.0 y l in absurd (omega (arith, z, w.1, r.few, k, l)))
        (f i (r.all i h k e) (omega (arith, r.few, k)))

    pub round_end : Row q bound d seats next → blocks_most ≤ y → Quiet q bound masks seats d x
    round_end r l = over (λ i. Inside (get_or masks i 0) x) r l g.passed

    pub round_far : {out : List ℕ} → Row q bound d seats next → blocks_most ≤ y → d < places_most → Far n q bound masks seats out
        → Far n q bound masks seats (set out d seen)
    round_far {out} r l k f =
        record { long = length-set out d seen ∙ f.long; each = λ i a c h. each i a c h }
      where
        each : (i : ℕ) → bound ≤ i → i < q → get_or seats i 0 < n → Inside (get_or masks i 0) (get_or (set out d seen) (get_or seats i 0) 0)
        each i a c h =
            by_cases (eqb (get_or seats i 0) d)
            (λ t. subst (λ (j : ℕ). Inside (get_or masks i 0) j)
            (sym (ap (λ (j : ℕ). get_or (set out d seen) j 0) (eqb-true (get_or seats i 0) d t)
            ∙ get_or-set_same out d seen 0 (omega (arith, f.long, k))))
            (over (λ i. Inside (get_or masks i 0) seen) r l g.saw i a c (eqb-true (get_or seats i 0) d t)))
            (λ t. subst (λ (j : ℕ). Inside (get_or masks i 0) j)
            (sym (get_or-set_other out d (get_or seats i 0) seen 0 (eqb-false (get_or seats i 0) d t))) (f.each i a c h))

    module _ (l : y < blocks_most) where
      pub round_less : hops next nodes_most (get_or next y 0) < hops next nodes_most y
      round_less = ends_next next y l g.ends

      -- y brings the disks of its copies that are not reached
      pub round_turn : {out by₀ : List ℕ} {steps₀ : ℕ} (w : ℕ)
          → Visiting n q b base bound d masks seats next out room by₀ steps₀ x₀ → w < 2 ^ disks_most
          → ((e : ℕ) → has w e ≡ (has (get_or masks y 0) e && not (has x e))) → (w ≡ 0 → ⊥)
          → Turn n q b base bound masks seats room by steps x y d w
      round_turn w v u f z =
          let none = v.row.none y g.here l in
          record {
            seeks = g.seeks;
            disks = v.disks;
            block = none.0;
            here = none.1;
            movable = none.2;
            reached = g.more d v.reached;
            beyond = v.beyond;
            news = f;
            some = some_new (get_or masks y 0) x w u f z;
            low = λ e. v.low y e none.0;
          }

      -- the walk goes on from y, whose copies are all reached
      pub round_on : {by' : List ℕ} {steps' x' : ℕ} (seen' : ℕ) → Seeks n q b base bound masks seats room by' steps' x' → Inside x x'
          → Inside (get_or masks y 0) x' → Inside seen seen' → Inside (get_or masks y 0) seen'
          → Round n q b base bound d masks seats next room x₀ by' steps' x' (get_or next y 0) seen'
      round_on {x' = x'} seen' s u v m w' =
          record {
            seeks = s;
            more = λ e t. u e (g.more e t);
            ends = omega (arith, g.ends, round_less);
            here = comes_more next (get_or next (blocks_most + d) 0) y g.here l;
            passed = λ i w k. ⊎_elim (λ p. inl (λ e t. u e (p e t))) (λ p. onward x' v i p.0 p.1) (g.passed i w k);
            saw = λ i w k. ⊎_elim (λ p. inl (λ e t. m e (p e t))) (λ p. onward seen' w' i p.0 p.1) (g.saw i w k);
          }
        where
          onward : (z : ℕ) → Inside (get_or masks y 0) z → (i k : ℕ) → walk next k y ≡ i
              → Inside (get_or masks i 0) z ⊎ Comes next (get_or next y 0) i
          onward z v i zero p = inl (subst (λ (j : ℕ). Inside (get_or masks j 0) z) (sym (walk_none next y) ∙ p) v)
          onward z v i (suc k) p = inr (k, sym (walk_step next k y l) ∙ p)
