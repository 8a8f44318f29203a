-- Closed sets and the greatest shortfall, under one assignment within capacities.
--     exact             a closed set's shortfall is the number of unplaced blocks
--     closed_greatest   a closed set has the greatest shortfall
--     greatest_closed   where one set is closed, every set with the greatest shortfall is
--     least_closed      a closed set contained in every closed set is the short set
--     short_unique      two short sets have the same blocks
use Prim.Native.Nat.{ℕ, ◌+◌, ◌≤◌, ◌<◌}
use mathlib.Core.Path.{◌≡◌, refl, ap, ◌∙◌}
use mathlib.Core.Bool.{Bool, true, ◌&&◌}
use native.Mathlib.Omega.{arith}
use lib.Dec.{leb, eqb}
use borrow.Author.Tests.{leb-true, le-leb, eqb-true, eq-eqb}
use Rattle.basics.specs.Count.{gate, sum}
use Rattle.model.specs.Assignment.{reads, Partial, Within}
use Rattle.model.specs.Shortfall.{touches, size, room, Sub, NoShorter, Greatest, ShortSet}
use Rattle.model.specs.Closed.{Closed}
use Rattle.model.specs.Order.{Agree}
use Rattle.basics.proofs.Tests.{by_cases, and_left, and_right, and_both, same_test}
use Rattle.basics.proofs.Count.{gate_true, gate_false, sum_ext, sum_le, sum_tight, count_ext, count_tight}
use Rattle.model.proofs.Duality.{share, left, unplaced, split, share_le, left_le, share_room, untouched, weak}

-- where all that a disk reads is in S, the share of S is all of it
share_whole : (q : ℕ) (a : ℕ → ℕ) (S : ℕ → Bool) (d : ℕ) → ((b : ℕ) → b < q → a b ≡ d → S b ≡ true) → share q a S d ≡ reads q a d
unfolding share reads
share_whole q a S d f =
    count_ext q (λ b. S b && eqb (a b) d) (λ b. eqb (a b) d)
    (λ b h. same_test (S b && eqb (a b) d) (eqb (a b) d) (and_right (S b) (eqb (a b) d))
    (λ t. and_both (S b) (eqb (a b) d) (f b h (eqb-true (a b) d t)) t))

module _ (n q : ℕ) (copy : ℕ → ℕ → Bool) (capacities a : ℕ → ℕ) (v : Partial n q copy a) (w : Within n q capacities a) where
  -- a closed set has all that is unplaced
  closed_left : (S : ℕ → Bool) → Closed n q copy capacities a S → left n q a S ≡ unplaced n q a
  unfolding left unplaced
  closed_left S c =
      count_ext q (λ b. S b && leb n (a b)) (λ b. leb n (a b))
      (λ b h. same_test (S b && leb n (a b)) (leb n (a b)) (and_right (S b) (leb n (a b)))
      (λ t. and_both (S b) (leb n (a b)) (c.unplaced b h (leb-true n (a b) t)) t))

  -- and all that a disk which it touches reads, which is that disk's capacity
  closed_share : (S : ℕ → Bool) → Closed n q copy capacities a S
      → (d : ℕ) → d < n → share q a S d ≡ gate (touches q copy S d) (capacities d)
  unfolding Within
  closed_share S c d l =
      by_cases (touches q copy S d)
      (λ e. let whole : share q a S d ≡ reads q a d =
      share_whole q a S d (λ b h t. c.owns b h (omega (arith, t)) (ap (touches q copy S) t ∙ e)) in
      omega (arith, whole, c.full d l e, w d l, gate_true (touches q copy S d) (capacities d) e))
      (λ e. omega (arith, untouched n q copy a S v d l e, gate_false (touches q copy S d) (capacities d) e))

  pub exact : (S : ℕ → Bool) → Closed n q copy capacities a S
      → size q S ≡ room n q copy capacities S + unplaced n q a
  unfolding room
  exact S c =
      omega (
        arith,
        split n q a S,
        closed_left S c,
        sum_ext n (λ d. share q a S d) (λ d. gate (touches q copy S d) (capacities d)) (closed_share S c),
      )

  -- no set's shortfall is more than the number of unplaced blocks
  pub shortfall_le : (S : ℕ → Bool) → size q S ≤ room n q copy capacities S + unplaced n q a
  shortfall_le S = omega (arith, weak n q copy capacities a S v w, left_le n q a S)

  pub closed_greatest : (S : ℕ → Bool) → Closed n q copy capacities a S → Greatest n q copy capacities S
  unfolding Greatest NoShorter
  closed_greatest S c S' = omega (arith, exact S c, shortfall_le S')

  -- a set whose shortfall is the number of unplaced blocks is closed
  pub exact_closed : (S : ℕ → Bool) → room n q copy capacities S + unplaced n q a ≤ size q S → Closed n q copy capacities a S
  unfolding Within room left unplaced share reads
  exact_closed S e =
      let shares : (d : ℕ) → d < n → share q a S d ≤ gate (touches q copy S d) (capacities d) = share_room n q copy capacities a S v w in
      let total : sum n (λ d. share q a S d) ≤ room n q copy capacities S =
      sum_le n (λ d. share q a S d) (λ d. gate (touches q copy S d) (capacities d)) shares in
      let each : (d : ℕ) → d < n → share q a S d ≡ gate (touches q copy S d) (capacities d) =
      sum_tight n (λ d. share q a S d) (λ d. gate (touches q copy S d) (capacities d)) shares
      (omega (arith, split n q a S, left_le n q a S)) in
      let whole : (d : ℕ) → d < n → touches q copy S d ≡ true → share q a S d ≡ capacities d =
      λ d l t. each d l ∙ gate_true (touches q copy S d) (capacities d) t in
      record {
        unplaced = λ b h l.
            and_left (S b) (leb n (a b))
            (count_tight q (λ b'. S b' && leb n (a b')) (λ b'. leb n (a b')) (λ b' h'. and_right (S b') (leb n (a b')))
            (omega (arith, split n q a S, total)) b h (le-leb n (a b) l));
        full = λ d l t. omega (arith, whole d l t, share_le q a S d);
        owns = λ b h l t.
            and_left (S b) (eqb (a b) (a b))
            (count_tight q (λ b'. S b' && eqb (a b') (a b)) (λ b'. eqb (a b') (a b)) (λ b' h'. and_right (S b') (eqb (a b') (a b)))
            (omega (arith, whole (a b) l t, w (a b) l)) b h (eq-eqb (a b) (a b) refl));
      }

  pub greatest_closed : (S S' : ℕ → Bool) → Closed n q copy capacities a S → Greatest n q copy capacities S'
      → Closed n q copy capacities a S'
  unfolding Greatest NoShorter
  greatest_closed S S' c g = exact_closed S' (omega (arith, exact S c, g S))

  pub least_closed : (S : ℕ → Bool) → Closed n q copy capacities a S
      → ((S' : ℕ → Bool) → Closed n q copy capacities a S' → Sub q S S') → ShortSet n q copy capacities S
  unfolding Sub
  least_closed S c f =
      record { greatest = closed_greatest S c; least = λ S' g b h. f S' (greatest_closed S S' c g) b (omega arith) }

pub short_unique : (n q : ℕ) (copy : ℕ → ℕ → Bool) (capacities : ℕ → ℕ) (S S' : ℕ → Bool)
    → ShortSet n q copy capacities S → ShortSet n q copy capacities S' → Agree q S S'
unfolding Agree Sub
short_unique n q copy capacities S S' s s' b h =
    same_test (S b) (S' b) (s.least S' s'.greatest b (omega arith)) (s'.least S s.greatest b (omega arith))
