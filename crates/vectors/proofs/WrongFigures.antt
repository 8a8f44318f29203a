-- Wrong figures ruled out: no answer but the table's is a plan of its request, by the theorem that a case has one plan.
--     soonest_copy                          each block on the copy that ends soonest (P4)
--     larger_short_set, other_short_set     all three blocks, short too; a block that is not short (P5)
--     later_schedule                        a schedule of the same time, not the first (P6)
--     later_time                            one microsecond more (P7)
--     rounded_up                            a block before its disk has read it (P9)
--     age_not_taken, age_wraps              the whole load; a load below the age, as a machine subtracts (P10)
--     load_and_delay_exchanged              the age off the delay (P10)
--     whole_load_taken                      nothing of a load that is above the age (P11)
--     age_off_the_start                     the age off delay and load together (P12)
--     larger_as_sum, the_smaller            the start by the other rule; by the smaller of delay and load (P13)
--     age_after_the_rule                    the age off the start, not off the load (P14)
--     idle_disk_charged                     the start of a disk that reads nothing (P15)
--     delay_alone, load_alone               the capacity by the delay, by the load, though the other is larger (P16, P17)
use Prim.Native.Nat.{ℕ}
use mathlib.Core.Bool.{true, false}
use mathlib.Core.List.{List, [], ◌∷◌, map}
use mathlib.Core.Path.{◌≡◌, refl, sym, ap, ◌∙◌}
use native.Mathlib.Omega.{arith}
use lib.ListN.{get_or}
use Rattle.basics.specs.Lists.{listed}
use Rattle.basics.proofs.Tests.{differ}
use Rattle.model.specs.Case.{base, capacity_at}
use Rattle.model.specs.Figures.{paper, overlapping, Answer, asked, Holds, AllHold, table}
use Rattle.model.specs.Order.{Agree}
use Rattle.model.specs.Plan.{Optimal}
use Rattle.model.proofs.Figures.{figures}
use Rattle.model.proofs.Plan.{plan_unique}
use Rattle.vectors.proofs.Figures.{copies_p5, P5, copies_p6, P6, copies_p7, P10, P13, copies_p14, P14, copies_p15, P15}

-- {0,1} {0}
abbrev copies_p4 : List (List ℕ)
copies_p4 = (0 ∷ 1 ∷ []) ∷ (0 ∷ []) ∷ []

P4 : Optimal (asked paper 0 copies_p4) 5 (λ b. get_or (1 ∷ 0 ∷ []) b 0) (listed (0 ∷ 1 ∷ []))
unfolding AllHold Holds table
P4 = figures.1.1.1.0.plan

P7 : Optimal (asked paper 0 copies_p7) 8 (λ b. get_or (0 ∷ 1 ∷ 1 ∷ []) b 0) (listed (0 ∷ 1 ∷ 2 ∷ []))
unfolding AllHold Holds table
P7 = figures.1.1.1.1.1.1.0.plan

-- disk 1 at some times
abbrev times : List ℕ
times = 1 ∷ 4 ∷ 5 ∷ 7 ∷ 8 ∷ []

P9 : map (λ t. capacity_at (asked paper 0 []) t 1) times ≡ 0 ∷ 0 ∷ 1 ∷ 1 ∷ 2 ∷ []
unfolding AllHold Holds table
P9 = figures.1.1.1.1.1.1.1.1.0

-- {1} at age 1, {0} at age 3
P11 : Optimal (asked paper 1 ((1 ∷ []) ∷ [])) 4 (λ b. get_or (1 ∷ []) b 0) (listed (0 ∷ []))
unfolding AllHold Holds table
P11 = figures.1.1.1.1.1.1.1.1.1.1.0.plan

P12 : Optimal (asked paper 3 ((0 ∷ []) ∷ [])) 5 (λ b. get_or (0 ∷ []) b 0) (listed (0 ∷ []))
unfolding AllHold Holds table
P12 = figures.1.1.1.1.1.1.1.1.1.1.1.0.plan

-- two disks at some times each
abbrev times_p16 : List ℕ
times_p16 = 2 ∷ 6 ∷ 7 ∷ 9 ∷ 11 ∷ []

P16 : map (λ t. capacity_at (asked overlapping 0 []) t 0) times_p16 ≡ 0 ∷ 0 ∷ 1 ∷ 1 ∷ 2 ∷ []
unfolding AllHold Holds table
P16 = figures.1.1.1.1.1.1.1.1.1.1.1.1.1.1.1.0

abbrev times_p17 : List ℕ
times_p17 = 5 ∷ 10 ∷ 11 ∷ 13 ∷ 14 ∷ []

P17 : map (λ t. capacity_at (asked overlapping 0 []) t 1) times_p17 ≡ 0 ∷ 0 ∷ 1 ∷ 1 ∷ 2 ∷ []
unfolding AllHold Holds table
P17 = figures.1.1.1.1.1.1.1.1.1.1.1.1.1.1.1.1.0

soonest_copy : Answer paper 0 copies_p4 9 (0 ∷ 0 ∷ []) (0 ∷ 1 ∷ []) → ⊥
soonest_copy w = omega (arith, (plan_unique (asked paper 0 copies_p4) 5 9 _ _ _ _ P4 w.plan).0)

larger_short_set : Answer paper 0 copies_p5 10 (2 ∷ 0 ∷ 0 ∷ []) (0 ∷ 1 ∷ 2 ∷ []) → ⊥
unfolding Agree asked base listed
larger_short_set w =
    let e : false ≡ true = (plan_unique (asked paper 0 copies_p5) 10 10 _ _ _ _ P5 w.plan).2 1 (omega arith) in
    differ e refl

other_short_set : Answer paper 0 copies_p5 10 (2 ∷ 0 ∷ 0 ∷ []) (1 ∷ []) → ⊥
unfolding Agree asked base listed
other_short_set w =
    let e : false ≡ true = (plan_unique (asked paper 0 copies_p5) 10 10 _ _ _ _ P5 w.plan).2 1 (omega arith) in
    differ e refl

later_schedule : Answer paper 0 copies_p6 9 (0 ∷ 1 ∷ 0 ∷ 1 ∷ []) (0 ∷ 1 ∷ 2 ∷ 3 ∷ []) → ⊥
unfolding Agree asked base
later_schedule w =
    let e : ◌≡◌ {A = ℕ} 0 1 = (plan_unique (asked paper 0 copies_p6) 9 9 _ _ _ _ P6 w.plan).1 1 (omega arith) in
    omega (arith, e)

later_time : Answer paper 0 copies_p7 9 (0 ∷ 1 ∷ 1 ∷ []) (0 ∷ 1 ∷ 2 ∷ []) → ⊥
later_time w = omega (arith, (plan_unique (asked paper 0 copies_p7) 8 9 _ _ _ _ P7 w.plan).0)

rounded_up : map (λ t. capacity_at (asked paper 0 []) t 1) times ≡ 0 ∷ 1 ∷ 1 ∷ 1 ∷ 2 ∷ [] → ⊥
rounded_up h = let z : ◌≡◌ {A = ℕ} 0 1 = ap (λ (l : List ℕ). get_or l 1 0) (sym P9 ∙ h) in omega (arith, z)

age_not_taken : Answer paper 3 copies_p7 8 (0 ∷ 1 ∷ 1 ∷ []) (0 ∷ 1 ∷ 2 ∷ []) → ⊥
age_not_taken w = omega (arith, (plan_unique (asked paper 3 copies_p7) 6 8 _ _ _ _ P10 w.plan).0)

-- disk 1 would start after everything else has ended
age_wraps : Answer paper 3 copies_p7 13 (0 ∷ 0 ∷ 0 ∷ []) (0 ∷ 1 ∷ 2 ∷ []) → ⊥
age_wraps w = omega (arith, (plan_unique (asked paper 3 copies_p7) 6 13 _ _ _ _ P10 w.plan).0)

load_and_delay_exchanged : Answer paper 3 copies_p7 8 (0 ∷ 0 ∷ 1 ∷ []) (0 ∷ 1 ∷ 2 ∷ []) → ⊥
load_and_delay_exchanged w = omega (arith, (plan_unique (asked paper 3 copies_p7) 6 8 _ _ _ _ P10 w.plan).0)

whole_load_taken : Answer paper 1 ((1 ∷ []) ∷ []) 3 (1 ∷ []) (0 ∷ []) → ⊥
whole_load_taken w = omega (arith, (plan_unique (asked paper 1 ((1 ∷ []) ∷ [])) 4 3 _ _ _ _ P11 w.plan).0)

age_off_the_start : Answer paper 3 ((0 ∷ []) ∷ []) 4 (0 ∷ []) (0 ∷ []) → ⊥
age_off_the_start w = omega (arith, (plan_unique (asked paper 3 ((0 ∷ []) ∷ [])) 5 4 _ _ _ _ P12 w.plan).0)

-- disk 0 would end at 9, 13 and disk 1 at 13
larger_as_sum : Answer overlapping 0 copies_p7 13 (0 ∷ 0 ∷ 1 ∷ []) (0 ∷ 1 ∷ 2 ∷ []) → ⊥
larger_as_sum w = omega (arith, (plan_unique (asked overlapping 0 copies_p7) 11 13 _ _ _ _ P13 w.plan).0)

-- both disks would start at 2
the_smaller : Answer overlapping 0 copies_p7 8 (0 ∷ 1 ∷ 1 ∷ []) (0 ∷ 1 ∷ 2 ∷ []) → ⊥
the_smaller w = omega (arith, (plan_unique (asked overlapping 0 copies_p7) 11 8 _ _ _ _ P13 w.plan).0)

-- disk 0 would start at 1 and disk 1 at 6
age_after_the_rule : Answer overlapping 2 copies_p14 9 (0 ∷ 0 ∷ []) (0 ∷ 1 ∷ []) → ⊥
age_after_the_rule w = omega (arith, (plan_unique (asked overlapping 2 copies_p14) 10 9 _ _ _ _ P14 w.plan).0)

-- disk 1 would end at its start
idle_disk_charged : Answer overlapping 0 copies_p15 8 (0 ∷ []) (0 ∷ []) → ⊥
idle_disk_charged w = omega (arith, (plan_unique (asked overlapping 0 copies_p15) 7 8 _ _ _ _ P15 w.plan).0)

delay_alone : map (λ t. capacity_at (asked overlapping 0 []) t 0) times_p16 ≡ 0 ∷ 1 ∷ 1 ∷ 1 ∷ 2 ∷ [] → ⊥
delay_alone h = let z : ◌≡◌ {A = ℕ} 0 1 = ap (λ (l : List ℕ). get_or l 1 0) (sym P16 ∙ h) in omega (arith, z)

load_alone : map (λ t. capacity_at (asked overlapping 0 []) t 1) times_p17 ≡ 1 ∷ 2 ∷ 3 ∷ 3 ∷ 4 ∷ [] → ⊥
load_alone h = let z : ◌≡◌ {A = ℕ} 0 1 = ap (λ (l : List ℕ). get_or l 0 0) (sym P17 ∙ h) in omega (arith, z)
