-- Laws of walks.
--     walk_none, walk_step, walk_stop     no step; a step from a block; none from where a ring ends
--     hops_none, hops_step, hops_stop     the same for the number of steps
--     ends_next       the steps that are left fall with each step
--     bounded_set     no entry leads out of the lists after a store of a node
--     comes_more      one step more along a walk
use Prim.Native.Nat.{ℕ, zero, suc, ◌-◌, ◌≤◌, ◌<◌}
use mathlib.Core.Path.{◌≡◌, refl, sym, ap, subst, ◌∙◌}
use mathlib.Core.Bool.{Bool, cond}
use mathlib.Core.List.{List}
use native.Mathlib.Omega.{arith}
use lib.Dec.{eqb, ltb}
use lib.ListN.{get_or, set, length, length-set, get_or-eq_default}
use lib.Seq.{get_or-set_same, get_or-set_other}
use borrow.Author.Tests.{ltb-true, ltb-false, lt-ltb, le-ltb, eqb-true, eqb-false}
use Rattle.basics.proofs.Tests.{by_cases}
use Rattle.basics.specs.Limits.{blocks_most, nodes_most}
use Rattle.ring.specs.Walk.{walk, Comes, hops, Ends, Bounded}

pub walk_none : (next : List ℕ) (x : ℕ) → walk next 0 x ≡ x
unfolding walk
walk_none next x = refl

pub walk_step : (next : List ℕ) (k x : ℕ) → x < blocks_most → walk next (suc k) x ≡ walk next k (get_or next x 0)
unfolding walk
walk_step next k x l = ap (λ (t : Bool). cond t (walk next k (get_or next x 0)) x) (lt-ltb x blocks_most l)

pub walk_stop : (next : List ℕ) (k x : ℕ) → blocks_most ≤ x → walk next k x ≡ x
unfolding walk
walk_stop next zero x l = refl
walk_stop next (suc k) x l = ap (λ (t : Bool). cond t (walk next k (get_or next x 0)) x) (le-ltb x blocks_most l)

pub hops_none : (next : List ℕ) (x : ℕ) → hops next 0 x ≡ 0
unfolding hops
hops_none next x = refl

pub hops_step : (next : List ℕ) (k x : ℕ) → x < blocks_most → hops next (suc k) x ≡ suc (hops next k (get_or next x 0))
unfolding hops
hops_step next k x l = ap (λ (t : Bool). cond t (suc (hops next k (get_or next x 0))) 0) (lt-ltb x blocks_most l)

pub hops_stop : (next : List ℕ) (k x : ℕ) → blocks_most ≤ x → hops next k x ≡ 0
unfolding hops
hops_stop next zero x l = refl
hops_stop next (suc k) x l = ap (λ (t : Bool). cond t (suc (hops next k (get_or next x 0))) 0) (le-ltb x blocks_most l)

-- a walk that ends sooner takes no more steps where more are allowed
hops_more : (next : List ℕ) (k x : ℕ) → hops next k x < k → hops next (suc k) x ≡ hops next k x
hops_more next zero x h = absurd (omega arith)
hops_more next (suc k) x h =
    by_cases (ltb x blocks_most)
    (λ t. let l = ltb-true x blocks_most t in
    hops_step next (suc k) x l
    ∙ ap suc (hops_more next k (get_or next x 0) (omega (arith, h, hops_step next k x l)))
    ∙ sym (hops_step next k x l))
    (λ t. let l = ltb-false x blocks_most t in hops_stop next (suc (suc k)) x l ∙ sym (hops_stop next (suc k) x l))

pub ends_next : (next : List ℕ) (x : ℕ) → x < blocks_most → Ends next x → hops next nodes_most (get_or next x 0) < hops next nodes_most x
ends_next next x l e =
    let s = hops_step next (nodes_most - 1) x l in
    omega (arith, s, hops_more next (nodes_most - 1) (get_or next x 0) (omega (arith, s, e)))

-- no entry leads out of the lists after a store of a node
pub bounded_set : (l : List ℕ) (i x : ℕ) → Bounded l → x < nodes_most → Bounded (set l i x)
bounded_set l i x k h j =
    by_cases (eqb j i)
    (λ t. by_cases (ltb i (length l))
    (λ u. subst (λ (y : ℕ). y < nodes_most)
    (sym (ap (λ (m : ℕ). get_or (set l i x) m 0) (eqb-true j i t) ∙ get_or-set_same l i x 0 (ltb-true i (length l) u))) h)
    (λ u. subst (λ (y : ℕ). y < nodes_most)
    (sym (get_or-eq_default (set l i x) 0 {n = j} (let e = eqb-true j i t in let m = ltb-false i (length l) u in
    omega (arith, length-set l i x)))) (omega arith)))
    (λ t. subst (λ (y : ℕ). y < nodes_most) (sym (get_or-set_other l i j x 0 (eqb-false j i t))) (k j))

-- one step more along a walk
pub comes_more : (next : List ℕ) (f z : ℕ) → Comes next f z → z < blocks_most → Comes next f (get_or next z 0)
comes_more next f z w l = steps f w.0 w.1
  where
    steps : (f k : ℕ) → walk next k f ≡ z → Comes next f (get_or next z 0)
    steps f zero g =
        let i : f ≡ z = sym (walk_none next f) ∙ g in
        (1, walk_step next 0 f (omega (arith, i, l)) ∙ walk_none next (get_or next f 0) ∙ ap (λ (j : ℕ). get_or next j 0) i)
    steps f (suc k) g =
        by_cases (ltb f blocks_most)
        (λ t. let s = steps (get_or next f 0) k (sym (walk_step next k f (ltb-true f blocks_most t)) ∙ g) in
        (suc s.0, walk_step next s.0 f (ltb-true f blocks_most t) ∙ s.1))
        (λ t. let z' = walk_stop next (suc k) f (ltb-false f blocks_most t) in
        absurd (omega (arith, z', g, l, ltb-false f blocks_most t)))
