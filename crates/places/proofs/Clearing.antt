-- No block on any disk, and blocks off the disks that have too many.
--     begun_more       one empty ring more
--     Clearing         the blocks before b stand in the ring of n
--     cleared          all do
--     Lifting          the disks before d have no more blocks than their capacity
use Prim.Native.Nat.{ℕ, ◌+◌, ◌-◌, ◌≤◌, ◌<◌}
use mathlib.Core.Path.{◌≡◌, sym, ap, subst, ◌∙◌}
use mathlib.Core.Logic.{⊎_elim}
use mathlib.Core.Bool.{Bool, true, false}
use mathlib.Core.List.{List}
use native.Mathlib.Omega.{arith}
use lib.Dec.{eqb}
use lib.ListN.{get_or, set, length, length-set}
use lib.Seq.{get_or-set_same, get_or-set_other}
use borrow.Author.Count.{below_more}
use borrow.Author.Tests.{eqb-true, eqb-false, eq-eqb, ne_eqb}
use Rattle.basics.specs.Limits.{blocks_most, places_most, nodes_most}
use Rattle.model.specs.Assignment.{reads, Partial, Within}
use Rattle.basics.proofs.Tests.{by_cases, or_elim, or_left, or_right, not_here, same_test}
use Rattle.basics.proofs.Count.{count_none, count_all, count_some}
use Rattle.ring.specs.Rings.{Rings, And, Linked}
use Rattle.ring.specs.Walk.{Bounded}
use Rattle.ring.proofs.Walks.{bounded_set}
use Rattle.ring.proofs.Rings.{rings_link, rings_same}
use Rattle.places.specs.Seats.{node, home, Ringed, Seated, Shifting, Shifted, Lifted, Empty, Cleared}
use Rattle.places.specs.Parts.{Begun}
use Rattle.places.proofs.Seats.{node_block, node_place, node_split, home_block, home_place, home_here, ringed_last}
use Rattle.places.proofs.Shifts.{seated_shifting, seated_shift}

-- ---- empty rings

pub begun_more : {d : ℕ} {next prev : List ℕ} → d < places_most → Begun d next prev
    → Begun (d + 1) (set next (blocks_most + d) (blocks_most + d)) (set prev (blocks_most + d) (blocks_most + d))
begun_more {d} {next} {prev} l b =
    let c : ℕ = blocks_most + d in
    let each : (list : List ℕ) → length list ≡ nodes_most → ((e : ℕ) → e < d → get_or list (blocks_most + e) 0 ≡ blocks_most + e)
    → (e : ℕ) → e < d + 1 → get_or (set list c c) (blocks_most + e) 0 ≡ blocks_most + e =
    λ list k f. below_more (λ e. get_or (set list c c) (blocks_most + e) 0 ≡ blocks_most + e) d
    (λ e h. get_or-set_other list c (blocks_most + e) c 0 (omega arith) ∙ f e h) (get_or-set_same list c c 0 (omega (arith, k))) in
    record {
      forth = each next b.long_next b.forth;
      back = each prev b.long_prev b.back;
      long_next = length-set next c c ∙ b.long_next;
      long_prev = length-set prev c c ∙ b.long_prev;
      bounded_next = bounded_set next c c b.bounded_next (omega arith);
      bounded_prev = bounded_set prev c c b.bounded_prev (omega arith);
    }

-- ---- all blocks in the ring of n

-- the blocks before b are at n, in its ring
pub record Clearing (n b : ℕ) (seats next prev : List ℕ) : Type 0 where
  pub long : length seats ≡ blocks_most
  pub off : (i : ℕ) → i < b → get_or seats i 0 ≡ n
  pub ringed : Ringed n b 0 seats next prev

module _ {n : ℕ} {seats next prev : List ℕ} where
  pub clearing_start : n < places_most → length seats ≡ blocks_most → Begun (n + 1) next prev → Clearing n 0 seats next prev
  clearing_start h k g =
      let place : (x : ℕ) → node n 0 0 x ≡ true → (blocks_most ≤ x) × (x ≤ blocks_most + n) =
      λ x t. ⊎_elim (λ u. absurd (omega (arith, u.1))) (λ u. u) (node_split n 0 0 x t) in
      let forth : (x : ℕ) → node n 0 0 x ≡ true → get_or next x 0 ≡ x =
      λ x t. let u = place x t in
      subst (λ (y : ℕ). get_or next y 0 ≡ y) (let e : blocks_most + (x - blocks_most) ≡ x = omega (arith, u.0) in e)
      (g.forth (x - blocks_most) (omega (arith, u.0, u.1))) in
      let back : (x : ℕ) → node n 0 0 x ≡ true → get_or prev x 0 ≡ x =
      λ x t. let u = place x t in
      subst (λ (y : ℕ). get_or prev y 0 ≡ y) (let e : blocks_most + (x - blocks_most) ≡ x = omega (arith, u.0) in e)
      (g.back (x - blocks_most) (omega (arith, u.0, u.1))) in
      record {
        long = k;
        off = λ i l. absurd (omega arith);
        ringed = record {
          disks = omega (arith, h);
          blocks = omega arith;
          rings = record {
            rank = λ _. 0;
            small = λ x t. let u = place x t in omega (arith, u.1, h);
            forth = λ x t. let e = forth x t in
                (ap (node n 0 0) e ∙ t, ap (home seats) e, ap (λ (y : ℕ). get_or prev y 0) e ∙ back x t);
            back = λ x t. let e = back x t in (ap (node n 0 0) e ∙ t, ap (λ (y : ℕ). get_or next y 0) e ∙ forth x t);
            rise = λ x t l. let u = place x t in absurd (omega (arith, u.0, l));
            long_next = g.long_next;
            long_prev = g.long_prev;
          };
          bounded_next = g.bounded_next;
          bounded_prev = g.bounded_prev;
        };
      }

  module _ {b : ℕ} (c : Clearing n b seats next prev) (l : b < blocks_most) where
    N : ℕ → Bool
    N = node n b 0

    none : N b ≡ false
    unfolding N
    none = not_here (N b) (λ t. ⊎_elim (λ u. omega (arith, u.1)) (λ u. omega (arith, u.0, l)) (node_split n b 0 b t))

    here : get_or (set seats b n) b 0 ≡ n
    here = get_or-set_same seats b n 0 (omega (arith, c.long))

    other : (i : ℕ) → (i ≡ b → ⊥) → get_or (set seats b n) i 0 ≡ get_or seats i 0
    other i z = get_or-set_other seats b i n 0 z

    home_same : (x : ℕ) → N x ≡ true → home (set seats b n) x ≡ home seats x
    unfolding N
    home_same x t =
        ⊎_elim
        (λ u. let k : x < blocks_most = omega (arith, u.1, l) in
        home_block (set seats b n) x k ∙ other x (λ e. omega (arith, e, u.1)) ∙ sym (home_block seats x k))
        (λ u. home_place (set seats b n) x u.0 ∙ sym (home_place seats x u.0))
        (node_split n b 0 x t)

    same : (x : ℕ) → node n (b + 1) 0 x ≡ And N b x
    unfolding N
    same x =
        same_test (node n (b + 1) 0 x) (And N b x)
        (λ t. ⊎_elim
        (λ u. by_cases (eqb x b) (λ e. or_left (eqb x b) (N x) e)
        (λ e. or_right (eqb x b) (N x) (node_block n b 0 x (omega arith) (let z = eqb-false x b e in omega (arith, u.1)))))
        (λ u. or_right (eqb x b) (N x) (place b x u))
        (node_split n (b + 1) 0 x t))
        (λ t. ⊎_elim
        (λ e. node_block n (b + 1) 0 x (omega arith) (let z = eqb-true x b e in omega arith))
        (λ w. ⊎_elim (λ u. node_block n (b + 1) 0 x (omega arith) (omega (arith, u.1))) (place (b + 1) x) (node_split n b 0 x w))
        (or_elim (eqb x b) (N x) t))
      where
        place : (k x : ℕ) → (blocks_most ≤ x) × (x ≤ blocks_most + n) → node n k 0 x ≡ true
        place k x u =
            subst (λ (y : ℕ). node n k 0 y ≡ true) (let e : blocks_most + (x - blocks_most) ≡ x = omega (arith, u.0) in e)
            (node_place n k 0 (x - blocks_most) (omega (arith, u.0, u.1)))

    pub clearing_more : {next' prev' : List ℕ} → Linked b (blocks_most + n) next prev next' prev'
        → Clearing n (b + 1) (set seats b n) next' prev'
    unfolding N
    clearing_more {next'} {prev'} k =
        let r = c.ringed in
        record {
          long = length-set seats b n ∙ c.long;
          off = below_more (λ i. get_or (set seats b n) i 0 ≡ n) b (λ i h. other i (omega arith) ∙ c.off i h) here;
          ringed = record {
            disks = r.disks;
            blocks = omega (arith, l);
            rings = rings_same same
                (subst (λ (y : List ℕ). Rings (And N b) (home (set seats b n)) next' y) (sym k.1)
                (subst (λ (y : List ℕ). Rings (And N b) (home (set seats b n)) y
                (set (set prev b (get_or prev (blocks_most + n) 0)) (blocks_most + n) b)) (sym k.0)
                (rings_link r.rings b (blocks_most + n) none l (node_place n b 0 n (omega arith)) (omega arith) (home (set seats b n))
                (home_block (set seats b n) b l ∙ here ∙ sym (home_here seats n)) home_same)));
            bounded_next = subst Bounded (sym k.0)
                (bounded_set (set next b (blocks_most + n)) (get_or prev (blocks_most + n) 0) b
                (bounded_set next b (blocks_most + n) r.bounded_next (omega (arith, r.disks))) (omega (arith, l)));
            bounded_prev = subst Bounded (sym k.1)
                (bounded_set (set prev b (get_or prev (blocks_most + n) 0)) (blocks_most + n) b
                (bounded_set prev b (get_or prev (blocks_most + n) 0) r.bounded_prev (r.bounded_prev (blocks_most + n)))
                (omega (arith, l)));
          };
        }

-- all blocks are at n, and are counted there
pub cleared : {n q : ℕ} {seats counts next prev seats' next' prev' : List ℕ} → Empty n q seats counts next prev
    → Clearing n q seats' next' prev' → Cleared n q seats' (set counts n q) next' prev'
unfolding Partial reads
cleared {n} {q} {counts = counts} {seats' = seats'} e c =
    record {
      placed = λ masks. record {
        disks = e.disks;
        blocks = e.blocks;
        long_seats = c.long;
        long_counts = length-set counts n q ∙ e.long_counts;
        low = λ b h. omega (arith, c.off b h);
        copies = λ b h k. let z : ⊥ = omega (arith, c.off b h, k) in absurd z;
        tally = λ d k. by_cases (eqb d n)
            (λ t. let r : d ≡ n = eqb-true d n t in
            ap (λ (y : ℕ). get_or (set counts n q) y 0) r
            ∙ get_or-set_same counts n q 0 (omega (arith, e.long_counts, e.disks))
            ∙ sym (count_all q (λ b. eqb (get_or seats' b 0) d) (λ b h. eq-eqb _ _ (c.off b h ∙ sym r))))
            (λ t. empty d (eqb-false d n t) k
            ∙ sym (count_none q (λ b. eqb (get_or seats' b 0) d) (λ b h. ne_eqb _ _ (λ z. eqb-false d n t (sym z ∙ c.off b h)))));
      };
      none = λ d l. empty d (omega arith) (omega arith);
      off = c.off;
      ringed = c.ringed;
    }
  where
    empty : (d : ℕ) → (d ≡ n → ⊥) → d ≤ n → get_or (set counts n q) d 0 ≡ 0
    empty d z k = get_or-set_other counts n d q 0 z ∙ e.none d (omega arith)

-- ---- off the overfull disks

-- the disks before d have no more blocks than their capacity
pub record Lifting (n q : ℕ) (masks caps seats counts next prev out : List ℕ) (d : ℕ) : Type 0 where
  pub place : d ≤ n
  pub seated : Seated n q 0 masks seats counts next prev out
  pub done : (e : ℕ) → e < d → get_or counts e 0 ≤ get_or caps e 0

module _ {n q : ℕ} {masks caps seats counts next prev out : List ℕ} where
  pub lifting_start : Seated n q 0 masks seats counts next prev out → Lifting n q masks caps seats counts next prev out 0
  lifting_start s = record { place = omega arith; seated = s; done = λ e l. absurd (omega arith) }

  module _ {d : ℕ} (g : Lifting n q masks caps seats counts next prev out d) where
    pub lifting_next : d < n → get_or counts d 0 ≤ get_or caps d 0 → Lifting n q masks caps seats counts next prev out (d + 1)
    lifting_next l h =
        record {
          place = omega arith;
          seated = g.seated;
          done = below_more (λ e. get_or counts e 0 ≤ get_or caps e 0) d g.done h;
        }

    pub lifting_end : n ≤ d → Lifted n q masks caps seats counts next prev out
    unfolding Within
    lifting_end l =
        record {
          seated = g.seated;
          within = λ e h. omega (arith, g.done e (omega arith), g.seated.placed.tally e (omega arith));
        }

    module _ (l : d < n) (h : get_or caps d 0 < get_or counts d 0) where
      abbrev b : ℕ
      b = get_or prev (blocks_most + d) 0

      -- the last of the ring of d, which has a block
      last : (0 ≤ b) × (b < q) × (get_or seats b 0 ≡ d)
      unfolding reads
      last =
          let s = count_some q (λ i. eqb (get_or seats i 0) d) (omega (arith, g.seated.placed.tally d (omega arith))) in
          ringed_last g.seated.ringed d s.0 (omega arith) (omega arith) s.1 (eqb-true _ _ s.2)

      pub lifting_block : b < blocks_most
      lifting_block = omega (arith, last.1, g.seated.placed.blocks)

      pub lifting_shifting : Shifting b n seats counts next prev
      lifting_shifting = seated_shifting g.seated b n last.1 (omega arith) (λ e. omega (arith, e, last.2))

      module _ {seats' counts' next' prev' out' : List ℕ} {old : ℕ}
          (v : Shifted b n masks seats counts next prev out seats' counts' next' prev' out' old) where
        pub lifting_off : Lifting n q masks caps seats' counts' next' prev' out' d
        lifting_off =
            record {
              place = g.place;
              seated = seated_shift g.seated b n last.1 (omega arith) (λ e. omega (arith, e, last.2)) (omega arith) v
                  (λ k. absurd (omega (arith, k)));
              done = λ e k. omega (arith, g.done e k, v.moved.same e (λ z. omega (arith, z, v.moved.from, last.2, k)) (omega arith));
            }
