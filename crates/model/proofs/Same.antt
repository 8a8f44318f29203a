-- A plan is looked at for the blocks below Q alone; and its time has a bound.
--     short_same      any set of the same blocks is the short set
--     optimal_same    any functions that agree on the blocks are the plan
--     response_most, optimal_most    starts and costs bound every schedule's time, and so a plan's
use Prim.Native.Nat.{ℕ, zero, suc, ◌+◌, ◌*◌, ◌≤◌, ◌<◌}
use mathlib.Core.Path.{◌≡◌, sym, ap, ◌∙◌, subst}
use mathlib.Core.Bool.{Bool, true}
use native.Mathlib.Omega.{arith}
use native.Mathlib.Nat.{mul-le-mul}
use Rattle.model.specs.Assignment.{reads, Valid}
use Rattle.model.specs.Capacity.{end_time}
use Rattle.model.specs.Case.{Case, Schedule, end_of, response, HasTime}
use Rattle.model.specs.Order.{Agree}
use Rattle.model.specs.Plan.{Optimal}
use Rattle.model.specs.Shortfall.{size, Sub, NoShorter, Greatest, ShortSet}
use Rattle.basics.proofs.Count.{count_ext, count_most, latest_le, latest_ext}
use Rattle.model.proofs.Duality.{room_ext}
use Rattle.model.proofs.Move.{reads_ext}
use Rattle.model.proofs.Order.{first_lowest, lowest_keep, lowest_first}

pub short_same : (n q : ℕ) (copy : ℕ → ℕ → Bool) (capacities : ℕ → ℕ) (S S' : ℕ → Bool) → Agree q S' S
    → ShortSet n q copy capacities S → ShortSet n q copy capacities S'
unfolding Greatest NoShorter size Sub Agree
short_same n q copy capacities S S' e s =
    record {
      greatest = λ T. omega (arith, s.greatest T, room_ext n q copy capacities S' S e, count_ext q S' S e);
      least = λ T g b h t. s.least T g b h (sym (e b h) ∙ t);
    }

module _ (m : Case) where
  response_same : (a a' : ℕ → ℕ) → Agree m.blocks a' a → response m a' ≡ response m a
  unfolding response end_of Agree
  response_same a a' e =
      latest_ext m.disks _ _ (λ d l. ap (end_time (m.start d) (m.cost d)) (reads_ext m.blocks a' a e d))

  time_same : (R : ℕ) (a a' : ℕ → ℕ) → Agree m.blocks a' a → HasTime m R a → HasTime m R a'
  unfolding HasTime Schedule Valid Agree
  time_same R a a' e h = (
    λ b l. subst (λ (y : ℕ). (y < m.disks) × (m.copy b y ≡ true)) (sym (e b l)) (h.0 b l),
    response_same a a' e ∙ h.1,
  )

  pub optimal_same : {R : ℕ} (a a' : ℕ → ℕ) (S S' : ℕ → Bool) → Agree m.blocks a' a → Agree m.blocks S' S
      → Optimal m R a S → Optimal m R a' S'
  optimal_same {R} a a' S S' e f p =
      record {
        least = p.least;
        first = lowest_first (HasTime m R) m.blocks a'
            (lowest_keep (HasTime m R) m.blocks a a' (first_lowest (HasTime m R) m.blocks a p.first)
            (time_same R a a' e p.first.holds) e);
        short = short_same m.disks m.blocks m.copy _ S S' f p.short;
      }

  -- ---- a bound on the time

  module _ (start cost : ℕ) (s : (d : ℕ) → d < m.disks → m.start d ≤ start) (c : (d : ℕ) → d < m.disks → m.cost d ≤ cost) where
    end_most : (b d : ℕ) → d < m.disks → b ≤ m.blocks → end_time (m.start d) (m.cost d) b ≤ start + m.blocks * cost
    unfolding end_time
    end_most zero d l k = omega arith
    end_most (suc b) d l k = omega (arith, s d l, mul-le-mul k (c d l))

    pub response_most : (a : ℕ → ℕ) → response m a ≤ start + m.blocks * cost
    unfolding response end_of reads
    response_most a = latest_le m.disks _ _ (λ d l. end_most (reads m.blocks a d) d l (count_most m.blocks _))

    pub optimal_most : {R : ℕ} {a : ℕ → ℕ} {S : ℕ → Bool} → Optimal m R a S → R ≤ start + m.blocks * cost
    unfolding HasTime
    optimal_most {R} {a} p = omega (arith, p.first.holds.1, response_most a)
