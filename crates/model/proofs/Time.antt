-- The certificate: a schedule in time R and a set short at R - 1 make R the least time, and the greatest earliest time of any set
-- (demand 3). 001's Algorithm 2 stops on it: one step before, not all blocks fit.
--     in_time, room_at_grows    a schedule done by t leaves no set short at t; a later time has no less room
--     short_after, short_later a set short at t holds every schedule, and its own earliest time, back beyond t
--     certificate              both numbers of demand 3 are then R
--     time_unique, earliest_unique, greatest_unique     each number is one at most
--     certified_equal          where there is a certificate the two numbers are equal
use Prim.Native.Nat.{ℕ, ◌-◌, ◌≤◌, ◌<◌}
use mathlib.Core.Path.{◌≡◌, ◌∙◌}
use mathlib.Core.Bool.{Bool}
use native.Mathlib.Nat.{le_antisymm}
use native.Mathlib.Omega.{arith}
use Rattle.model.specs.Case.{Case, Priced, Schedule, response, capacity_at}
use Rattle.model.specs.Shortfall.{Short}
use Rattle.model.specs.Time.{LeastTime, members, room_at, ShortAt, Earliest, GreatestEarliest, Certificate}
use Rattle.basics.proofs.Tests.{below_or}
use Rattle.model.proofs.Capacity.{response_within, capacity_at_grows}
use Rattle.model.proofs.Duality.{weak_duality, room_grows}

-- within time t no set is short at t
pub in_time : (m : Case) (a : ℕ → ℕ) (t : ℕ) → Priced m → Schedule m a → response m a ≤ t
    → (S : ℕ → Bool) → members m S ≤ room_at m t S
unfolding Schedule members room_at
in_time m a t p v h S =
    weak_duality m.disks m.blocks m.copy (capacity_at m t) a v (response_within m a t p h) S

-- a later time has no less room
pub room_at_grows : (m : Case) (t u : ℕ) → Priced m → t ≤ u → (S : ℕ → Bool) → room_at m t S ≤ room_at m u S
unfolding room_at
room_at_grows m t u p h S =
    room_grows m.disks m.blocks m.copy (capacity_at m t) (capacity_at m u) S (capacity_at_grows m t u p h)

-- a set short at t holds every schedule back beyond t
pub short_after : (m : Case) (S : ℕ → Bool) (t : ℕ) → Priced m → ShortAt m t S
    → (a : ℕ → ℕ) → Schedule m a → t < response m a
unfolding ShortAt Short members room_at
short_after m S t p s a v =
    below_or t (response m a)
    (λ l. l)
    (λ l. let z : ⊥ = omega (arith, in_time m a t p v l S) in absurd z)

-- a set short at t has its earliest time beyond t
pub short_later : (m : Case) (S : ℕ → Bool) (t u : ℕ) → Priced m → ShortAt m t S → members m S ≤ room_at m u S → t < u
unfolding ShortAt Short members room_at
short_later m S t u p s e =
    below_or t u
    (λ l. l)
    (λ l. let z : ⊥ = omega (arith, room_at_grows m u t p l S) in absurd z)

-- R is at least 1: else the schedule would be in time where the set is short
certified_positive : (m : Case) (R : ℕ) (a : ℕ → ℕ) (S : ℕ → Bool) → Priced m → Certificate m R a S → 1 ≤ R
certified_positive m R a S p c =
    let h : R - 1 < response m a = short_after m S (R - 1) p c.short a c.schedule in
    omega (arith, c.by_then)

pub certificate_least : (m : Case) (R : ℕ) (a : ℕ → ℕ) (S : ℕ → Bool) → Priced m → Certificate m R a S → LeastTime m R
certificate_least m R a S p c =
    let one : 1 ≤ R = certified_positive m R a S p c in
    let after : (a' : ℕ → ℕ) → Schedule m a' → R ≤ response m a' =
    λ a' v. omega (arith, one, short_after m S (R - 1) p c.short a' v) in
    record { lower = after; reached = (a, c.schedule, le_antisymm c.by_then (after a c.schedule)) }

pub certificate_greatest : (m : Case) (R : ℕ) (a : ℕ → ℕ) (S : ℕ → Bool) → Priced m → Certificate m R a S → GreatestEarliest m R
unfolding ShortAt Short members room_at
certificate_greatest m R a S p c =
    let one : 1 ≤ R = certified_positive m R a S p c in
    let fits : (S' : ℕ → Bool) → members m S' ≤ room_at m R S' = in_time m a R p c.schedule c.by_then in
    record {
      upper = λ S' t s e. e.sooner R (fits S');
      attained = (
        S,
        omega (arith, c.short),
        record {
          enough = fits S;
          sooner = λ u e. omega (arith, one, short_later m S (R - 1) u p c.short e);
        },
      );
    }

pub certificate : (m : Case) (R : ℕ) (a : ℕ → ℕ) (S : ℕ → Bool) → Priced m → Certificate m R a S
    → LeastTime m R × GreatestEarliest m R
certificate m R a S p c = (certificate_least m R a S p c, certificate_greatest m R a S p c)

-- ---- each number is one at most

pub time_unique : (m : Case) (R R' : ℕ) → LeastTime m R → LeastTime m R' → R ≡ R'
time_unique m R R' l l' =
    let f = l.lower l'.reached.0 l'.reached.1 in
    let g = l'.lower l.reached.0 l.reached.1 in
    omega (arith, f, g, l.reached.2, l'.reached.2)

pub earliest_unique : (m : Case) (S : ℕ → Bool) (t t' : ℕ) → Earliest m S t → Earliest m S t' → t ≡ t'
earliest_unique m S t t' e e' = le_antisymm (e.sooner t' e'.enough) (e'.sooner t e.enough)

pub greatest_unique : (m : Case) (R R' : ℕ) → GreatestEarliest m R → GreatestEarliest m R' → R ≡ R'
greatest_unique m R R' g g' =
    le_antisymm
    (g'.upper g.attained.0 R g.attained.1 g.attained.2)
    (g.upper g'.attained.0 R' g'.attained.1 g'.attained.2)

-- where there is a certificate, the least time over schedules is the greatest earliest time over non-empty sets
pub certified_equal : (m : Case) (T : ℕ) (a : ℕ → ℕ) (S : ℕ → Bool) → Priced m → Certificate m T a S
    → (R R' : ℕ) → LeastTime m R → GreatestEarliest m R' → R ≡ R'
certified_equal m T a S p c R R' l g =
    time_unique m R T l (certificate_least m T a S p c) ∙ greatest_unique m T R' (certificate_greatest m T a S p c) g
