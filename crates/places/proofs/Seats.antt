-- Laws of the rings of places.
--     ringed_row          what the walk around the ring of a disk meets
--     ringed_last         the last of a ring that has a block
--     ringed_unlink       what it takes to unlink a block
--     ringed_move         the rings after a block has gone to another place
--     ringed_bind         the rings after the first movable block was bound
use Prim.Native.Nat.{ℕ, ◌+◌, ◌-◌, ◌≤◌, ◌<◌}
use mathlib.Core.Path.{◌≡◌, refl, sym, ap, subst, ◌∙◌}
use mathlib.Core.Logic.{◌⊎◌, inl, inr, ⊎_elim}
use mathlib.Core.Bool.{Bool, true, false, cond, not, ◌&&◌}
use mathlib.Core.List.{List}
use native.Mathlib.Omega.{arith}
use lib.Dec.{eqb, leb, ltb}
use lib.ListN.{get_or, set}
use borrow.Author.Tests.{eqb-true, eq-eqb, ne_eqb, ltb-true, ltb-false, lt-ltb, le-ltb, leb-true, le-leb, not-true}
use Rattle.basics.specs.Limits.{blocks_most, nodes_most}
use Rattle.basics.proofs.Tests.{by_cases, differ, and_left, and_right, and_both, or_elim, or_left, or_right, not_here, same_test}
use Rattle.ring.specs.Rings.{Rings, But, And, Unlinked}
use Rattle.ring.specs.Walk.{Bounded}
use Rattle.ring.proofs.Walks.{walk_stop, bounded_set}
use Rattle.ring.proofs.Rings.{home_back, rings_unlink, rings_link, rings_all, rings_ends, rings_closed, rings_same}
use Rattle.places.specs.Places.{Moved}
use Rattle.places.specs.Seats.{node, home, Ringed, Row, Relinked}

-- ---- the nodes of the rings, and where they stand

module _ (n q bound : ℕ) where
  pub node_block : (x : ℕ) → bound ≤ x → x < q → node n q bound x ≡ true
  unfolding node
  node_block x h l =
      or_left (leb bound x && ltb x q) (leb blocks_most x && leb x (blocks_most + n))
      (and_both (leb bound x) (ltb x q) (le-leb bound x h) (lt-ltb x q l))

  pub node_place : (d : ℕ) → d ≤ n → node n q bound (blocks_most + d) ≡ true
  unfolding node
  node_place d h =
      or_right (leb bound (blocks_most + d) && ltb (blocks_most + d) q)
      (leb blocks_most (blocks_most + d) && leb (blocks_most + d) (blocks_most + n))
      (and_both (leb blocks_most (blocks_most + d)) (leb (blocks_most + d) (blocks_most + n))
      (le-leb blocks_most (blocks_most + d) (omega arith)) (le-leb (blocks_most + d) (blocks_most + n) (omega arith)))

  -- a node is a block from bound on, or where the ring of a place begins
  pub node_split : (x : ℕ) → node n q bound x ≡ true → ((bound ≤ x) × (x < q)) ⊎ ((blocks_most ≤ x) × (x ≤ blocks_most + n))
  unfolding node
  node_split x t =
      ⊎_elim
      (λ u. inl (leb-true bound x (and_left (leb bound x) (ltb x q) u), ltb-true x q (and_right (leb bound x) (ltb x q) u)))
      (λ u. inr (
        leb-true blocks_most x (and_left (leb blocks_most x) (leb x (blocks_most + n)) u),
        leb-true x (blocks_most + n) (and_right (leb blocks_most x) (leb x (blocks_most + n)) u),
      ))
      (or_elim (leb bound x && ltb x q) (leb blocks_most x && leb x (blocks_most + n)) t)

  block_node : (x : ℕ) → node n q bound x ≡ true → x < blocks_most → (bound ≤ x) × (x < q)
  block_node x t l = ⊎_elim (λ u. u) (λ u. absurd (omega (arith, u.0, l))) (node_split x t)

pub home_block : (seats : List ℕ) (x : ℕ) → x < blocks_most → home seats x ≡ get_or seats x 0
unfolding home
home_block seats x l = ap (λ (t : Bool). cond t (get_or seats x 0) (x - blocks_most)) (lt-ltb x blocks_most l)

pub home_place : (seats : List ℕ) (x : ℕ) → blocks_most ≤ x → home seats x ≡ x - blocks_most
unfolding home
home_place seats x l = ap (λ (t : Bool). cond t (get_or seats x 0) (x - blocks_most)) (le-ltb x blocks_most l)

pub home_here : (seats : List ℕ) (d : ℕ) → home seats (blocks_most + d) ≡ d
home_here seats d = home_place seats (blocks_most + d) (omega arith) ∙ omega arith

-- the nodes but b are those that are nodes and not b
but_not : (N : ℕ → Bool) (b x : ℕ) → But N b x ≡ true → x ≡ b → ⊥
but_not N b x t e = differ (eq-eqb x b e) (not-true (eqb x b) (and_right (N x) (not (eqb x b)) t))

-- ---- the rings of places

module _ {n q bound : ℕ} {seats next prev : List ℕ} (r : Ringed n q bound seats next prev) where
  -- where a ring begins is told by its place
  alone : (d : ℕ) → (x : ℕ) → node n q bound x ≡ true → blocks_most ≤ x → home seats x ≡ home seats (blocks_most + d) → x ≡ blocks_most + d
  alone d x u l g = omega (arith, home_place seats x l, home_here seats d, g, l)

  pub ringed_row : (d : ℕ) → d ≤ n → Row q bound d seats next
  ringed_row d h =
      let c : ℕ = blocks_most + d in
      let k = r.rings.forth c (node_place n q bound d h) in
      record {
        few = r.blocks;
        bounded = r.bounded_next;
        ends = rings_ends r.rings (get_or next c 0) k.0;
        all = λ y a b o. rings_all r.rings c (omega arith) (alone d) y (node_block n q bound y a b) (omega (arith, r.blocks, b))
            (home_block seats y (omega (arith, r.blocks, b)) ∙ o ∙ sym (home_here seats d));
        none = λ y w l.
            let g = rings_closed r.rings w.0 (get_or next c 0) k.0 in
            let m = block_node n q bound y (ap (node n q bound) (sym w.1) ∙ g.0) l in
            (m.1, sym (home_block seats y l) ∙ ap (home seats) (sym w.1) ∙ g.1 ∙ k.1 ∙ home_here seats d, m.0);
      }

  -- where a block is at d, the last of the ring of d is one
  pub ringed_last : (d i : ℕ) → d ≤ n → bound ≤ i → i < q → get_or seats i 0 ≡ d
      → (bound ≤ get_or prev (blocks_most + d) 0) × (get_or prev (blocks_most + d) 0 < q)
      × (get_or seats (get_or prev (blocks_most + d) 0) 0 ≡ d)
  ringed_last d i h a l e =
      let c : ℕ = blocks_most + d in
      let t = node_place n q bound d h in
      let b = r.rings.back c t in
      let o : home seats (get_or prev c 0) ≡ home seats c = home_back r.rings c t in
      by_cases (ltb (get_or prev c 0) blocks_most)
      (λ u. let s = ltb-true (get_or prev c 0) blocks_most u in
      let m = block_node n q bound (get_or prev c 0) b.0 s in
      (m.0, m.1, sym (home_block seats (get_or prev c 0) s) ∙ o ∙ home_here seats d))
      (λ u. let s : get_or prev c 0 ≡ c = alone d (get_or prev c 0) b.0 (ltb-false (get_or prev c 0) blocks_most u) o in
      let z : get_or next c 0 ≡ c = ap (λ (y : ℕ). get_or next y 0) (sym s) ∙ b.1 in
      let w = (ringed_row d h).all i a l e in
      let v = walk_stop next w.0 (get_or next c 0) (omega (arith, z)) in
      absurd (omega (arith, v, w.1, z, r.blocks, l)))

  pub ringed_unlink : (b : ℕ) → b < q → (b < nodes_most) × (get_or next b 0 < nodes_most) × (get_or prev b 0 < nodes_most)
  ringed_unlink b l = (omega (arith, r.blocks, l), r.bounded_next b, r.bounded_prev b)

  module _ (b : ℕ) (a : bound ≤ b) (l : b < q) where
    N : ℕ → Bool
    N = node n q bound

    small : b < blocks_most
    small = omega (arith, r.blocks, l)

    -- the others stand in rings after b is taken out
    without : {mid_next mid_prev : List ℕ} → Unlinked b next prev mid_next mid_prev
        → Rings (But N b) (home seats) mid_next mid_prev × Bounded mid_next × Bounded mid_prev
    unfolding N
    without {mid_next} {mid_prev} k = (
      subst (λ (y : List ℕ). Rings (But N b) (home seats) mid_next y) (sym k.1)
          (subst (λ (y : List ℕ). Rings (But N b) (home seats) y (set prev (get_or next b 0) (get_or prev b 0))) (sym k.0)
          (rings_unlink r.rings b (node_block n q bound b a l) small)),
      subst Bounded (sym k.0) (bounded_set next (get_or prev b 0) (get_or next b 0) r.bounded_next (r.bounded_next b)),
      subst Bounded (sym k.1) (bounded_set prev (get_or next b 0) (get_or prev b 0) r.bounded_prev (r.bounded_prev b)),
    )

    module _ {d old : ℕ} (h : d ≤ n) {counts seats' counts' next' prev' : List ℕ} (v : Moved b d seats counts seats' counts' old)
        (k : Relinked b d next prev next' prev') where
      gone : But N b b ≡ false
      gone = not_here (But N b b) (λ t. but_not N b b t refl)

      there : But N b (blocks_most + d) ≡ true
      unfolding N
      there =
          and_both (N (blocks_most + d)) (not (eqb (blocks_most + d) b)) (node_place n q bound d h)
          (ap not (ne_eqb (blocks_most + d) b (λ e. omega (arith, e, small))))

      home_same : (x : ℕ) → But N b x ≡ true → home seats' x ≡ home seats x
      home_same x t =
          by_cases (ltb x blocks_most)
          (λ u. home_block seats' x (ltb-true x blocks_most u) ∙ v.others x (but_not N b x t)
          ∙ sym (home_block seats x (ltb-true x blocks_most u)))
          (λ u. home_place seats' x (ltb-false x blocks_most u) ∙ sym (home_place seats x (ltb-false x blocks_most u)))

      back : Rings (And (But N b) b) (home seats') next' prev'
      back =
          subst (λ (y : List ℕ). Rings (And (But N b) b) (home seats') next' y) (sym k.back.1)
          (subst (λ (y : List ℕ). Rings (And (But N b) b) (home seats') y
          (set (set k.mid_prev b (get_or k.mid_prev (blocks_most + d) 0)) (blocks_most + d) b)) (sym k.back.0)
          (rings_link (without k.out).0 b (blocks_most + d) gone small there (omega arith) (home seats')
          (home_block seats' b small ∙ v.here ∙ sym (home_here seats d)) home_same))

      same : (x : ℕ) → N x ≡ And (But N b) b x
      unfolding N
      same x =
          same_test (N x) (And (But N b) b x)
          (λ t. by_cases (eqb x b) (λ e. or_left (eqb x b) (But N b x) e)
          (λ e. or_right (eqb x b) (But N b x) (and_both (N x) (not (eqb x b)) t (ap not e))))
          (λ t. ⊎_elim (λ e. subst (λ (y : ℕ). N y ≡ true) (sym (eqb-true x b e)) (node_block n q bound b a l))
          (λ e. and_left (N x) (not (eqb x b)) e) (or_elim (eqb x b) (But N b x) t))

      pub ringed_move : Ringed n q bound seats' next' prev'
      unfolding N
      ringed_move =
          let w = without k.out in
          record {
            disks = r.disks;
            blocks = r.blocks;
            rings = rings_same same back;
            bounded_next = subst Bounded (sym k.back.0)
                (bounded_set (set k.mid_next b (blocks_most + d)) (get_or k.mid_prev (blocks_most + d) 0) b
                (bounded_set k.mid_next b (blocks_most + d) w.1 (omega (arith, r.disks))) (omega (arith, small)));
            bounded_prev = subst Bounded (sym k.back.1)
                (bounded_set (set k.mid_prev b (get_or k.mid_prev (blocks_most + d) 0)) (blocks_most + d) b
                (bounded_set k.mid_prev b (get_or k.mid_prev (blocks_most + d) 0) w.2 (w.2 (blocks_most + d)))
                (omega (arith, small)));
          }

  -- the first movable block is bound: it leaves its ring
  pub ringed_bind : {next' prev' : List ℕ} → bound < q → Unlinked bound next prev next' prev' → Ringed n q (bound + 1) seats next' prev'
  unfolding N
  ringed_bind l k =
      let w = without bound (omega arith) l k in
      record {
        disks = r.disks;
        blocks = r.blocks;
        rings = rings_same (λ x. same_test (node n q (bound + 1) x) (But (node n q bound) bound x)
            (λ t. ⊎_elim
            (λ u. and_both (node n q bound x) (not (eqb x bound)) (node_block n q bound x (omega (arith, u.0)) u.1)
            (ap not (ne_eqb x bound (λ e. omega (arith, u.0, e)))))
            (λ u. and_both (node n q bound x) (not (eqb x bound))
            (subst (λ (y : ℕ). node n q bound y ≡ true) (omega (arith, u.0))
            (node_place n q bound (x - blocks_most) (omega (arith, u.0, u.1))))
            (ap not (ne_eqb x bound (λ e. omega (arith, u.0, e, l, r.blocks)))))
            (node_split n q (bound + 1) x t))
            (λ t. let z = but_not (node n q bound) bound x t in
            ⊎_elim
            (λ u. node_block n q (bound + 1) x (omega (arith, u.0, z)) u.1)
            (λ u. subst (λ (y : ℕ). node n q (bound + 1) y ≡ true) (omega (arith, u.0))
            (node_place n q (bound + 1) (x - blocks_most) (omega (arith, u.0, u.1))))
            (node_split n q bound x (and_left (node n q bound x) (not (eqb x bound)) t)))) w.0;
        bounded_next = w.1;
        bounded_prev = w.2;
      }
