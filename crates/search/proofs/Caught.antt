-- A stuck block: those that have all copies on the reached disks are as many as those disks can read, and those of them on no disk.
--     caught_size     their number
use Prim.Native.Nat.{ℕ, ◌+◌, ◌<◌}
use mathlib.Core.Path.{◌≡◌, sym, ap, subst, ◌∙◌}
use mathlib.Core.Logic.{inr}
use mathlib.Core.Bool.{Bool, true, ◌&&◌}
use mathlib.Core.List.{List}
use native.Mathlib.Omega.{arith}
use lib.Dec.{eqb}
use lib.ListN.{get_or}
use borrow.Author.Tests.{eqb-true, ltb-false}
use Rattle.mask.specs.Has.{has}
use Rattle.basics.specs.Count.{sum, gate}
use Rattle.model.specs.Assignment.{reads, Partial, Within}
use Rattle.model.specs.Shortfall.{size}
use Rattle.basics.proofs.Tests.{by_cases, differ, and_left, and_right, and_both, same_test, not_here}
use Rattle.basics.proofs.Count.{gate_true, gate_false, sum_ext, count_ext, count_none}
use Rattle.model.proofs.Duality.{share, left, split}
use Rattle.places.specs.Places.{entry, holds, roomy, Placed}
use Rattle.places.specs.Among.{Inside}
use Rattle.search.specs.Search.{Caught}

module _ {n q b base : ℕ} {masks seats counts : List ℕ} {x : ℕ} (caps : List ℕ) (S : ℕ → Bool) (p : Placed n q masks seats counts)
    (w : Within n q (entry caps) (entry seats)) (c : Caught n q b base masks seats (roomy caps counts) x)
    (f : (i : ℕ) → i < q → S i ≡ true → Inside (get_or masks i 0) x) (g : (i : ℕ) → i < q → Inside (get_or masks i 0) x → S i ≡ true)
  where
    -- a reached disk reads its capacity, all of it blocks of S; another disk reads none of S
    shares : (d : ℕ) → d < n → share q (entry seats) S d ≡ gate (has x d) (get_or caps d 0)
    unfolding share reads Within Partial
    shares d l =
        by_cases (has x d)
        (λ t. let e = count_ext q (λ i. S i && eqb (get_or seats i 0) d) (λ i. eqb (get_or seats i 0) d)
        (λ i h. same_test (S i && eqb (get_or seats i 0) d) (eqb (get_or seats i 0) d)
        (λ u. and_right (S i) (eqb (get_or seats i 0) d) u)
        (λ u. and_both (S i) (eqb (get_or seats i 0) d)
        (g i h (c.owns i h (inr (ap (has x) (eqb-true (get_or seats i 0) d u) ∙ t)))) u)) in
        let k = ltb-false (get_or counts d 0) (get_or caps d 0) (c.full d t) in
        omega (arith, e, k, p.tally d (omega arith), w d l, gate_true (has x d) (get_or caps d 0) t))
        (λ t. count_none q (λ i. S i && eqb (get_or seats i 0) d)
        (λ i h. not_here (S i && eqb (get_or seats i 0) d) (λ u.
        let e : get_or seats i 0 ≡ d = eqb-true (get_or seats i 0) d (and_right (S i) (eqb (get_or seats i 0) d) u) in
        let k : holds masks i (get_or seats i 0) ≡ true = p.copies i h (subst (λ (j : ℕ). j < n) (sym e) l) in
        differ (ap (has x) (sym e) ∙ f i h (and_left (S i) (eqb (get_or seats i 0) d) u) (get_or seats i 0) k) t))
        ∙ sym (gate_false (has x d) (get_or caps d 0) t))

    pub caught_size : size q S ≡ sum n (λ d. gate (has x d) (get_or caps d 0)) + left n q (entry seats) S
    caught_size =
        omega (
          arith,
          split n q (entry seats) S,
          sum_ext n (λ d. share q (entry seats) S d) (λ d. gate (has x d) (get_or caps d 0)) shares,
        )
