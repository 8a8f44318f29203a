-- The engine on the figure P5, where all three blocks are short as well: the short set is block 0 alone.
use Prim.Native.Nat.{ℕ, zero, suc, ◌≤◌}
use mathlib.Core.List.{List, [], ◌∷◌}
use mathlib.Core.Path.{◌≡◌, refl, subst}
use native.Mathlib.Omega.{arith}
use lib.ListN.{get_or}
use Rattle.model.specs.Case.{Case, left, starting}
use Rattle.basics.specs.Choice.{pick}
use Rattle.basics.specs.Lists.{Rises, listed}
use Rattle.model.specs.Figures.{paper, asked}
use Rattle.model.specs.Plan.{Optimal}
use Rattle.engine.specs.Planned.{Planned}
use Rattle.engine.specs.Spelled.{spelled}
use Rattle.vectors.proofs.Figures.{join, starts as starts_by, same_case as figure_case, copies_p5, P5}

-- ---- the figure P5, spelled with masks and starts

-- 4 is disk 2, 1 is disk 0
abbrev pub copies : List ℕ
copies = 4 ∷ 1 ∷ 1 ∷ []

abbrev pub costs : List ℕ
costs = 4 ∷ 3 ∷ 10 ∷ []

-- a disk starts at delay plus load
abbrev pub starts : List ℕ
starts = 1 ∷ 2 ∷ 0 ∷ []

-- a buffer before, the disks and the short set after
abbrev pub blank : List ℕ
blank = 99 ∷ 99 ∷ 99 ∷ []

abbrev disks : List ℕ
disks = 2 ∷ 0 ∷ 0 ∷ []

abbrev short : List ℕ
short = 0 ∷ 99 ∷ 99 ∷ []

same_case : asked paper 0 copies_p5 ≡ spelled copies costs starts
unfolding join starts_by starting left pick
same_case = figure_case paper refl 0 copies_p5

-- ---- plan

-- R is 10, the disks are 2 0 0, the short set is block 0; its buffer is as it was beyond that
pub plan_p5 : Planned copies costs starts blank blank (2 ∷ 0 ∷ 0 ∷ []) (0 ∷ 99 ∷ 99 ∷ []) (record { time = 10; size = 1 })
unfolding Rises
plan_p5 =
    record {
      plan =
          subst (λ (m : Case). Optimal m 10 (λ b. get_or disks b 0) (listed (0 ∷ []))) same_case P5;
      set = record {
        few = omega arith;
        fits = omega arith;
        rises = (omega arith, omega arith, tt);
        short_rest = rest;
        short_long = refl;
      };
      disks_rest = none;
      disks_long = refl;
      time_within = omega arith;
    }
  where
    rest : (i : ℕ) → 1 ≤ i → get_or short i 0 ≡ get_or blank i 0
    rest zero h = absurd (omega arith)
    rest (suc i) h = refl

    none : (b : ℕ) → 3 ≤ b → get_or disks b 0 ≡ get_or blank b 0
    none zero h = absurd (omega arith)
    none (suc zero) h = absurd (omega arith)
    none (suc (suc zero)) h = absurd (omega arith)
    none (suc (suc (suc b))) h = refl
