-- A plan is unique; and what it is for no blocks.
--     plan_unique    two plans of one case have the same time, the same disk for every block, the same short set
--     idle_ends      a schedule of no blocks takes no time
--     no_blocks      with no blocks, everything is a plan of time 0, whose short set is empty
--     no_blocks_plan and nothing else is
use Prim.Native.Nat.{ℕ, ◌-◌, ◌≤◌, ◌<◌}
use mathlib.Core.Path.{◌≡◌, sym, ap, subst}
use mathlib.Core.Bool.{Bool}
use native.Mathlib.Nat.{le_antisymm}
use native.Mathlib.Omega.{arith}
use lib.Dec.{eqb}
use Rattle.model.specs.Assignment.{reads, Valid}
use Rattle.model.specs.Capacity.{end_time}
use Rattle.model.specs.Case.{Case, Schedule, end_of, response, HasTime, capacity_at}
use Rattle.model.specs.Shortfall.{size, Sub, NoShorter, Greatest, ShortSet}
use Rattle.model.specs.Order.{Agree, Before, FirstOf}
use Rattle.model.specs.Time.{members}
use Rattle.model.specs.Plan.{Optimal}
use Rattle.basics.proofs.Count.{latest_le, count_most}
use Rattle.model.proofs.Capacity.{end_time_idle}
use Rattle.model.proofs.Duality.{room_mono}
use Rattle.model.proofs.Time.{time_unique}
use Rattle.model.proofs.Closed.{short_unique}
use Rattle.model.proofs.Order.{first_unique}

pub plan_unique : (m : Case) (R R' : ℕ) (a a' : ℕ → ℕ) (S S' : ℕ → Bool) → Optimal m R a S → Optimal m R' a' S'
    → (R ≡ R') × Agree m.blocks a a' × Agree m.blocks S S'
plan_unique m R R' a a' S S' p p' =
    let e : R' ≡ R = time_unique m R' R p'.least p.least in (
      sym e,
      first_unique (HasTime m R) m.blocks a a' p.first (subst (λ (t : ℕ). FirstOf m.blocks (HasTime m t) a') e p'.first),
      short_unique m.disks m.blocks m.copy (capacity_at m (R - 1)) S S' p.short
          (subst (λ (t : ℕ). ShortSet m.disks m.blocks m.copy (capacity_at m (t - 1)) S') e p'.short),
    )

-- ---- no blocks

reads_most : (q : ℕ) (a : ℕ → ℕ) (d : ℕ) → reads q a d ≤ q
unfolding reads
reads_most q a d = count_most q (λ b. eqb (a b) d)

-- a schedule of no blocks takes no time
pub idle_ends : (m : Case) → m.blocks ≡ 0 → (a : ℕ → ℕ) → response m a ≡ 0
unfolding response end_of
idle_ends m e a =
    le_antisymm (latest_le m.disks (end_of m a) 0 (λ d h. go d (reads m.blocks a d) (idle d))) (omega arith)
  where
    idle : (d : ℕ) → reads m.blocks a d ≡ 0
    idle d = omega (arith, e, reads_most m.blocks a d)

    go : (d b : ℕ) → b ≡ 0 → end_time (m.start d) (m.cost d) b ≤ 0
    go d b z = omega (arith, ap (end_time (m.start d) (m.cost d)) z, end_time_idle (m.start d) (m.cost d))

pub no_blocks : (m : Case) (a : ℕ → ℕ) (S : ℕ → Bool) → m.blocks ≡ 0 → Optimal m 0 a S
unfolding HasTime Schedule Valid Before Greatest NoShorter Sub size
no_blocks m a S e =
    let none : (b : ℕ) → b < m.blocks → ⊥ = λ b h. omega (arith, e) in
    let any_schedule : (x : ℕ → ℕ) → Schedule m x = λ x b h. absurd (none b h) in
    record {
      least = record { lower = λ x v. omega arith; reached = (a, any_schedule a, idle_ends m e a) };
      first = record { holds = (any_schedule a, idle_ends m e a); none = λ x p f. none f.0 f.1 };
      short = record {
        greatest = λ S'.
            omega (
              arith,
              e,
              count_most m.blocks S',
              room_mono m.disks m.blocks m.copy (capacity_at m (0 - 1)) S S' (λ b h s. absurd (none b h)),
            );
        least = λ S' g b h s. absurd (none b h);
      };
    }

pub no_blocks_plan : (m : Case) (R : ℕ) (a : ℕ → ℕ) (S : ℕ → Bool) → m.blocks ≡ 0 → Optimal m R a S → (R ≡ 0) × (members m S ≡ 0)
unfolding members size
no_blocks_plan m R a S e p = (
  time_unique m R 0 p.least (no_blocks m a S e).least,
  omega (arith, e, count_most m.blocks S),
)
