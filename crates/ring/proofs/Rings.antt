-- Laws of rings.
--     rings_unlink     the rest stand in rings after a block is taken out
--     rings_link       a block more stands at the end of a ring
--     rings_all        the walk from where a ring begins comes to every block of that home
--     rings_ends       and it ends
--     rings_closed     and comes to nodes of that home alone
--     rings_same       the same nodes by another test
use Prim.Native.Nat.{ℕ, zero, suc, ◌≤◌, ◌<◌}
use mathlib.Core.Path.{◌≡◌, refl, sym, ap, subst, ◌∙◌}
use mathlib.Core.Logic.{⊎_elim}
use mathlib.Core.Bool.{Bool, true, false, not}
use mathlib.Core.List.{List}
use native.Mathlib.Omega.{arith}
use lib.Dec.{eqb, ltb}
use lib.ListN.{get_or, set, length-set}
use lib.Seq.{get_or-set_same, get_or-set_other}
use borrow.Author.Tests.{eqb-true, eqb-false, eq-eqb, ne_eqb, not-true, ltb-true, ltb-false, lt-ltb, le-ltb}
use Rattle.basics.proofs.Tests.{by_cases, differ, and_left, and_right, and_both, or_elim, or_left, or_right}
use Rattle.model.proofs.Subsets.{put, put_here, put_other}
use Rattle.ring.specs.Rings.{Rings, But, And}
use Rattle.basics.specs.Limits.{blocks_most, nodes_most}
use Rattle.ring.specs.Walk.{walk, Comes, hops, Ends}
use Rattle.basics.specs.Count.{count}
use Rattle.basics.proofs.Count.{count_most, count_tight}
use Rattle.ring.proofs.Walks.{walk_none, walk_step, walk_stop, hops_none, hops_step, hops_stop, comes_more}

module _ {N : ℕ → Bool} {home : ℕ → ℕ} {next prev : List ℕ} (r : Rings N home next prev) where
  -- a node's home is that of the node before it
  pub home_back : (x : ℕ) → N x ≡ true → home (get_or prev x 0) ≡ home x
  home_back x t =
      let p = r.back x t in
      sym (r.forth (get_or prev x 0) p.0).1 ∙ ap home p.1

  module _ (b : ℕ) (t : N b ≡ true) (l : b < blocks_most) where
    abbrev a : ℕ
    a = get_or prev b 0

    abbrev c : ℕ
    c = get_or next b 0

    -- no block leads to itself
    a≢b : a ≡ b → ⊥
    a≢b e = omega (arith, r.rise b t l (omega (arith, e)), ap r.rank e)

    c≢b : c ≡ b → ⊥
    c≢b e = a≢b (ap (λ (y : ℕ). get_or prev y 0) (sym e) ∙ (r.forth b t).2)

    abbrev next' : List ℕ
    next' = set next a c

    abbrev prev' : List ℕ
    prev' = set prev c a

    next_a : get_or next' a 0 ≡ c
    next_a = get_or-set_same next a c 0 (omega (arith, r.long_next, r.small a (r.back b t).0))

    prev_c : get_or prev' c 0 ≡ a
    prev_c = get_or-set_same prev c a 0 (omega (arith, r.long_prev, r.small c (r.forth b t).0))

    next_else : (x : ℕ) → (x ≡ a → ⊥) → get_or next' x 0 ≡ get_or next x 0
    next_else x n = get_or-set_other next a x c 0 n

    prev_else : (x : ℕ) → (x ≡ c → ⊥) → get_or prev' x 0 ≡ get_or prev x 0
    prev_else x n = get_or-set_other prev c x a 0 n

    kept : (x : ℕ) → N x ≡ true → (x ≡ b → ⊥) → But N b x ≡ true
    kept x u n = and_both (N x) (not (eqb x b)) u (ap not (ne_eqb x b n))

    of_n : (x : ℕ) → But N b x ≡ true → N x ≡ true
    of_n x u = and_left (N x) (not (eqb x b)) u

    of_not : (x : ℕ) → But N b x ≡ true → x ≡ b → ⊥
    of_not x u e = differ (eq-eqb x b e) (not-true (eqb x b) (and_right (N x) (not (eqb x b)) u))

    pub rings_unlink : Rings (But N b) home next' prev'
    rings_unlink =
        record {
          rank = r.rank;
          small = λ x u. r.small x (of_n x u);
          forth = λ x u. by_cases (eqb x a)
              (λ e. let i : x ≡ a = eqb-true x a e in
              let n : get_or next' x 0 ≡ c = ap (λ (y : ℕ). get_or next' y 0) i ∙ next_a in (
                ap (But N b) n ∙ kept c (r.forth b t).0 c≢b,
                ap home n ∙ (r.forth b t).1 ∙ sym (home_back b t) ∙ ap home (sym i),
                ap (λ (y : ℕ). get_or prev' y 0) n ∙ prev_c ∙ sym i,
              ))
              (λ e. let f = r.forth x (of_n x u) in
              let n = next_else x (eqb-false x a e) in (
                ap (But N b) n ∙ kept (get_or next x 0) f.0 (λ z. eqb-false x a e (sym f.2 ∙ ap (λ (y : ℕ). get_or prev y 0) z)),
                ap home n ∙ f.1,
                ap (λ (y : ℕ). get_or prev' y 0) n
                    ∙ prev_else (get_or next x 0) (λ z. of_not x u (sym f.2 ∙ ap (λ (y : ℕ). get_or prev y 0) z ∙ (r.forth b t).2)) ∙ f.2,
              ));
          back = λ x u. by_cases (eqb x c)
              (λ e. let i : x ≡ c = eqb-true x c e in
              let n : get_or prev' x 0 ≡ a = ap (λ (y : ℕ). get_or prev' y 0) i ∙ prev_c in (
                ap (But N b) n ∙ kept a (r.back b t).0 a≢b,
                ap (λ (y : ℕ). get_or next' y 0) n ∙ next_a ∙ sym i,
              ))
              (λ e. let f = r.back x (of_n x u) in
              let n = prev_else x (eqb-false x c e) in (
                ap (But N b) n ∙ kept (get_or prev x 0) f.0 (λ z. eqb-false x c e (sym f.1 ∙ ap (λ (y : ℕ). get_or next y 0) z)),
                ap (λ (y : ℕ). get_or next' y 0) n
                    ∙ next_else (get_or prev x 0) (λ z. of_not x u (sym f.1 ∙ ap (λ (y : ℕ). get_or next y 0) z ∙ (r.back b t).1)) ∙ f.1,
              ));
          rise = λ x u k h. by_cases (eqb x c)
              (λ e. let i : x ≡ c = eqb-true x c e in
              let n : get_or prev' x 0 ≡ a = ap (λ (y : ℕ). get_or prev' y 0) i ∙ prev_c in
              let p : get_or prev c 0 ≡ b = (r.forth b t).2 in
              omega (
                arith,
                ap r.rank n,
                ap r.rank i,
                ap r.rank p,
                r.rise b t l (omega (arith, n, h)),
                r.rise c (r.forth b t).0 (omega (arith, i, k)) (omega (arith, p, l)),
              ))
              (λ e. let n = prev_else x (eqb-false x c e) in
              omega (arith, ap r.rank n, r.rise x (of_n x u) k (omega (arith, n, h))));
          long_next = length-set next a c ∙ r.long_next;
          long_prev = length-set prev c a ∙ r.long_prev;
        }

module _ {N : ℕ → Bool} {home : ℕ → ℕ} {next prev : List ℕ} (r : Rings N home next prev) (b c : ℕ) (o : N b ≡ false) (l : b < blocks_most)
    (t : N c ≡ true) (h : blocks_most ≤ c) where
  abbrev end : ℕ
  end = get_or prev c 0

  abbrev next'' : List ℕ
  next'' = set (set next b c) end b

  abbrev prev'' : List ℕ
  prev'' = set (set prev b end) c b

  -- a node is not b
  other : (x : ℕ) → N x ≡ true → x ≡ b → ⊥
  other x u e = differ u (ap N e ∙ o)

  a_node : N end ≡ true
  a_node = (r.back c t).0

  next_last : get_or next'' end 0 ≡ b
  next_last = get_or-set_same (set next b c) end b 0 (omega (arith, length-set next b c, r.long_next, r.small end a_node))

  next_b : get_or next'' b 0 ≡ c
  next_b =
      get_or-set_other (set next b c) end b b 0 (λ e. other end a_node (sym e))
      ∙ get_or-set_same next b c 0 (omega (arith, r.long_next))

  next_same : (x : ℕ) → N x ≡ true → (x ≡ end → ⊥) → get_or next'' x 0 ≡ get_or next x 0
  next_same x u n = get_or-set_other (set next b c) end x b 0 n ∙ get_or-set_other next b x c 0 (other x u)

  prev_first : get_or prev'' c 0 ≡ b
  prev_first = get_or-set_same (set prev b end) c b 0 (omega (arith, length-set prev b end, r.long_prev, r.small c t))

  prev_b : get_or prev'' b 0 ≡ end
  prev_b =
      get_or-set_other (set prev b end) c b b 0 (λ e. omega (arith, e, l, h))
      ∙ get_or-set_same prev b end 0 (omega (arith, r.long_prev))

  prev_same : (x : ℕ) → N x ≡ true → (x ≡ c → ⊥) → get_or prev'' x 0 ≡ get_or prev x 0
  prev_same x u n = get_or-set_other (set prev b end) c x b 0 n ∙ get_or-set_other prev b x end 0 (other x u)

  of_old : (x : ℕ) → N x ≡ true → And N b x ≡ true
  of_old x u = or_right (eqb x b) (N x) u

  of_new : And N b b ≡ true
  of_new = or_left (eqb b b) (N b) (eq-eqb b b refl)

  abbrev rank'' : ℕ → ℕ
  rank'' = put b (suc (r.rank end)) r.rank

  rank_same : (x : ℕ) → N x ≡ true → rank'' x ≡ r.rank x
  rank_same x u = put_other b (suc (r.rank end)) r.rank x (other x u)

  module _ (home' : ℕ → ℕ) (hb : home' b ≡ home c) (hs : (x : ℕ) → N x ≡ true → home' x ≡ home x) where
    -- a fact of b and of every node before
    each : (C : ℕ → Type 0) → C b → ((x : ℕ) → N x ≡ true → C x) → (x : ℕ) → And N b x ≡ true → C x
    each C here there x u =
        by_cases (eqb x b)
        (λ e. subst C (sym (eqb-true x b e)) here)
        (λ e. there x (⊎_elim (λ w. absurd (differ w e)) (λ w. w) (or_elim (eqb x b) (N x) u)))

    pub rings_link : Rings (And N b) home' next'' prev''
    rings_link =
        record {
          rank = rank'';
          small = each (λ x. x < nodes_most) (omega arith) r.small;
          forth = each
              (λ x. (And N b (get_or next'' x 0) ≡ true) × (home' (get_or next'' x 0) ≡ home' x)
              × (get_or prev'' (get_or next'' x 0) 0 ≡ x)) (
                ap (And N b) next_b ∙ of_old c t,
                ap home' next_b ∙ hs c t ∙ sym hb,
                ap (λ (y : ℕ). get_or prev'' y 0) next_b ∙ prev_first,
              )
              (λ x u. by_cases (eqb x end)
              (λ e. let n : get_or next'' x 0 ≡ b = ap (λ (y : ℕ). get_or next'' y 0) (eqb-true x end e) ∙ next_last in (
                ap (And N b) n ∙ of_new,
                ap home' n ∙ hb ∙ sym (home_back r c t) ∙ ap home (sym (eqb-true x end e)) ∙ sym (hs x u),
                ap (λ (y : ℕ). get_or prev'' y 0) n ∙ prev_b ∙ sym (eqb-true x end e),
              ))
              (λ e. let f = r.forth x u in
              let n = next_same x u (eqb-false x end e) in (
                ap (And N b) n ∙ of_old (get_or next x 0) f.0,
                ap home' n ∙ hs (get_or next x 0) f.0 ∙ f.1 ∙ sym (hs x u),
                ap (λ (y : ℕ). get_or prev'' y 0) n
                    ∙ prev_same (get_or next x 0) f.0 (λ z. eqb-false x end e (sym f.2 ∙ ap (λ (y : ℕ). get_or prev y 0) z)) ∙ f.2,
              )));
          back = each
              (λ x. (And N b (get_or prev'' x 0) ≡ true) × (get_or next'' (get_or prev'' x 0) 0 ≡ x))
              (ap (And N b) prev_b ∙ of_old end a_node, ap (λ (y : ℕ). get_or next'' y 0) prev_b ∙ next_last)
              (λ x u. by_cases (eqb x c)
              (λ e. let n : get_or prev'' x 0 ≡ b = ap (λ (y : ℕ). get_or prev'' y 0) (eqb-true x c e) ∙ prev_first in
              (ap (And N b) n ∙ of_new, ap (λ (y : ℕ). get_or next'' y 0) n ∙ next_b ∙ sym (eqb-true x c e)))
              (λ e. let f = r.back x u in
              let n = prev_same x u (eqb-false x c e) in (
                ap (And N b) n ∙ of_old (get_or prev x 0) f.0,
                ap (λ (y : ℕ). get_or next'' y 0) n
                    ∙ next_same (get_or prev x 0) f.0
                    (λ z. eqb-false x c e (sym f.1 ∙ ap (λ (y : ℕ). get_or next y 0) z ∙ (r.back c t).1)) ∙ f.1,
              )));
          rise = each
              (λ x. x < blocks_most → get_or prev'' x 0 < blocks_most → rank'' (get_or prev'' x 0) < rank'' x)
              (λ _ _. omega (arith, ap rank'' prev_b, rank_same end a_node, put_here b (suc (r.rank end)) r.rank))
              (λ x u k g. let n = prev_same x u (λ z. omega (arith, z, k, h)) in
              omega (
                arith,
                ap rank'' n,
                rank_same (get_or prev x 0) (r.back x u).0,
                rank_same x u,
                r.rise x u k (omega (arith, n, g)),
              ));
          long_next = length-set (set next b c) end b ∙ length-set next b c ∙ r.long_next;
          long_prev = length-set (set prev b end) c b ∙ length-set prev b end ∙ r.long_prev;
        }

-- ---- the walk around a ring

module _ {N : ℕ → Bool} {home : ℕ → ℕ} {next prev : List ℕ} (r : Rings N home next prev) where
  -- the walk from c, where a ring begins, comes to every block of that home
  pub rings_all : (c : ℕ) → blocks_most ≤ c → ((x : ℕ) → N x ≡ true → blocks_most ≤ x → home x ≡ home c → x ≡ c)
      → (y : ℕ) → N y ≡ true → y < blocks_most → home y ≡ home c → Comes next (get_or next c 0) y
  rings_all c h only y t l e = upto (suc (r.rank y)) y (omega arith) t l e
    where
      upto : (m y : ℕ) → r.rank y < m → N y ≡ true → y < blocks_most → home y ≡ home c → Comes next (get_or next c 0) y
      upto zero y k t l e = absurd (omega arith)
      upto (suc m) y k t l e =
          let p = r.back y t in
          by_cases (ltb (get_or prev y 0) blocks_most)
          (λ u. let v = ltb-true (get_or prev y 0) blocks_most u in
          subst (Comes next (get_or next c 0)) p.1
          (comes_more next (get_or next c 0) (get_or prev y 0)
          (upto m (get_or prev y 0) (omega (arith, k, r.rise y t l v)) p.0 v (home_back r y t ∙ e)) v))
          (λ u. let i : get_or prev y 0 ≡ c =
          only (get_or prev y 0) p.0 (ltb-false (get_or prev y 0) blocks_most u) (home_back r y t ∙ e) in
          (0, walk_none next (get_or next c 0) ∙ ap (λ (j : ℕ). get_or next j 0) (sym i) ∙ p.1))

  -- the blocks that stand behind x
  abbrev behind : ℕ → ℕ → Bool
  behind x y = ltb (r.rank x) (r.rank y)

  fewer : (x z : ℕ) → z < blocks_most → r.rank x < r.rank z → count blocks_most (behind z) < count blocks_most (behind x)
  fewer x z l h =
      by_cases (ltb (count blocks_most (behind z)) (count blocks_most (behind x)))
      (λ t. ltb-true _ _ t)
      (λ t. absurd (differ
      (count_tight blocks_most (behind z) (behind x)
      (λ i _ u. lt-ltb (r.rank x) (r.rank i) (let v = ltb-true (r.rank z) (r.rank i) u in omega arith))
      (ltb-false _ _ t) z l (lt-ltb _ _ h))
      (le-ltb (r.rank z) (r.rank z) (omega arith))))

  steps_few : (m x k : ℕ) → N x ≡ true → count blocks_most (behind x) < m → hops next k x ≤ suc (count blocks_most (behind x))
  steps_few zero x k t h = absurd (omega arith)
  steps_few (suc m) x zero t h = omega (arith, hops_none next x)
  steps_few (suc m) x (suc k) t h =
      by_cases (ltb x blocks_most)
      (λ u. let l = ltb-true x blocks_most u in
      let f = r.forth x t in
      by_cases (ltb (get_or next x 0) blocks_most)
      (λ v. let i = ltb-true (get_or next x 0) blocks_most v in
      let g = r.rise (get_or next x 0) f.0 i (omega (arith, f.2, l)) in
      let s = fewer x (get_or next x 0) i (omega (arith, g, ap r.rank f.2)) in
      omega (arith, hops_step next k x l, steps_few m (get_or next x 0) k f.0 (omega (arith, s, h)), s))
      (λ v. omega (arith, hops_step next k x l, hops_stop next k (get_or next x 0) (ltb-false (get_or next x 0) blocks_most v))))
      (λ u. omega (arith, hops_stop next (suc k) x (ltb-false x blocks_most u)))

  -- the walk from any node ends
  pub rings_ends : (x : ℕ) → N x ≡ true → Ends next x
  rings_ends x t =
      omega (arith, steps_few (suc (count blocks_most (behind x))) x nodes_most t (omega arith), count_most blocks_most (behind x))

  -- the walk from a node comes to nodes of the same home
  pub rings_closed : (k x : ℕ) → N x ≡ true → (N (walk next k x) ≡ true) × (home (walk next k x) ≡ home x)
  rings_closed zero x t = (ap N (walk_none next x) ∙ t, ap home (walk_none next x))
  rings_closed (suc k) x t =
      by_cases (ltb x blocks_most)
      (λ u. let l = ltb-true x blocks_most u in
      let f = r.forth x t in
      let g = rings_closed k (get_or next x 0) f.0 in
      (ap N (walk_step next k x l) ∙ g.0, ap home (walk_step next k x l) ∙ g.1 ∙ f.1))
      (λ u. let e = walk_stop next (suc k) x (ltb-false x blocks_most u) in (ap N e ∙ t, ap home e))

-- the same nodes by another test
pub rings_same : {N N' : ℕ → Bool} {home : ℕ → ℕ} {next prev : List ℕ} → ((x : ℕ) → N' x ≡ N x) → Rings N home next prev
    → Rings N' home next prev
rings_same {next = next} {prev = prev} e r =
    record {
      rank = r.rank;
      small = λ x t. r.small x (sym (e x) ∙ t);
      forth = λ x t. let f = r.forth x (sym (e x) ∙ t) in (e (get_or next x 0) ∙ f.0, f.1, f.2);
      back = λ x t. let f = r.back x (sym (e x) ∙ t) in (e (get_or prev x 0) ∙ f.0, f.1);
      rise = λ x t. r.rise x (sym (e x) ∙ t);
      long_next = r.long_next;
      long_prev = r.long_prev;
    }
