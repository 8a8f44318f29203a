-- Where the wait overlaps the queue: a unit with settings of kind 5 plans with the larger of delay and load, and by the sum after kind 1.
--     starts_larger, starts_sum, starts_aged     when the disks start by each rule, and by the larger at an age
--     answer_larger, answer_aged                 the figures P13 and P14, as sheets
--     by_sum, one_optimal                        one block with one copy, by the sum
--     answer_one, answer_one_sum                 one block by each rule: the figure P15 and two microseconds more
use Prim.Native.Nat.{ℕ, zero, suc, ◌-◌, ◌^◌, ◌≤◌, ◌<◌}
use mathlib.Core.Bool.{Bool, true}
use mathlib.Core.List.{List, [], ◌∷◌, ◌++◌, map}
use mathlib.Core.Path.{◌≡◌, refl, sym, ◌∙◌, subst}
use native.Mathlib.Omega.{arith}
use borrow.Author.Tests.{eqb-true, eq-eqb}
use lib.Dec.{eqb}
use lib.ListN.{length, get_or, replicate}
use Rattle.std.specs.Prelude.{Ok}
use Rattle.basics.specs.Choice.{pick}
use Rattle.basics.specs.Count.{bit, gate, sum, count, any, latest}
use Rattle.basics.specs.Lists.{Rises, listed}
use Rattle.basics.proofs.Count.{count_here, count_some, count_most, latest_term}
use Rattle.mask.specs.Has.{has}
use Rattle.mask.proofs.Bits.{has_pow}
use Rattle.model.specs.declared.Rule.TheVariants.{Sum, Larger}
use Rattle.model.specs.Assignment.{reads, Valid}
use Rattle.model.specs.Capacity.{end_time, capacity}
use Rattle.model.specs.Case.{Case, left, starting, Schedule, end_of, response, HasTime, capacity_at}
use Rattle.model.specs.Figures.{overlapping, asked}
use Rattle.model.specs.Order.{Before}
use Rattle.model.specs.Plan.{Optimal}
use Rattle.model.specs.Shortfall.{touches, size, room, Sub, NoShorter, Greatest}
use Rattle.engine.specs.Spelled.{spelled}
use Rattle.field.specs.Sheet.{got}
use Rattle.settings.specs.declared.Table.{Table}
use Rattle.settings.specs.Sheet.{settings_sheet}
use Rattle.settings.specs.Table.{table, disk_rows, costs}
use Rattle.settings.proofs.Accepted.{accepted_proper}
use Rattle.plan.specs.Plan.{Plan}
use Rattle.planner.proofs.Out.{as_named}
use Rattle.planner.specs.Asked.{start_of, table_case, PlanFor, asked as asked_case}
use Rattle.planner.proofs.Plannable.{asked_plannable, plan_for}
use Rattle.unit.specs.Request.{Replied}
use Rattle.console.specs.Bench.{bench_input, Line}
use Rattle.line.specs.Text.{ascii}
use Rattle.vectors.specs.Text.{bytes}
use Rattle.vectors.proofs.Opened.{unit_opened, plan_opened, program_opened}
use Rattle.vectors.proofs.Settings.{overlap, queued, busy, busy_in_use, read_overlap, read_queued}
use Rattle.vectors.proofs.Unit.{overlapped, summed}
use Rattle.vectors.proofs.Figures.{join, starts, same_case as figure_case, copies_p7, P13, copies_p14, P14, copies_p15, P15}

-- ---- when the disks start

-- 3 and 2, 2 and 8, 0 and 0
starts_larger : map (table_case (table 3 Larger busy) 0 []).start (0 ∷ 1 ∷ 2 ∷ []) ≡ 3 ∷ 8 ∷ 0 ∷ []
unfolding unit_opened table_case start_of starting left disk_rows
starts_larger = refl

starts_sum : map (table_case (table 3 Sum busy) 0 []).start (0 ∷ 1 ∷ 2 ∷ []) ≡ 5 ∷ 10 ∷ 0 ∷ []
unfolding unit_opened table_case start_of starting left disk_rows
starts_sum = refl

-- 2 off the loads first, which leaves 1 and 2, 0 and 8
starts_aged : map (table_case (table 3 Larger busy) 2 []).start (0 ∷ 1 ∷ 2 ∷ []) ≡ 2 ∷ 8 ∷ 0 ∷ []
unfolding unit_opened table_case start_of starting left disk_rows
starts_aged = refl

-- ---- by the larger

-- a plan of the model is the plan of a request that was accepted with such settings
pub plan_of_law : (sheet request : List ℕ) {t : Table} {m : Case} {i j : ℕ} → settings_sheet 7 300 sheet 0 ≡ got t i
    → asked_case 7 300 t request ≡ got m j → (p : Plan) → length p.disks ≡ m.blocks → length p.short ≤ m.blocks
    → Rises 0 (m.blocks - 1) p.short → Optimal m p.time (λ b. get_or p.disks b 0) (listed p.short) → PlanFor m p
plan_of_law sheet request {t} {m} {i} {j} s r p d k l o =
    plan_for (asked_plannable (accepted_proper 7 300 sheet t i s).0 7 300 request r) p d k l o

-- {0,1} {0,1} {0,1}
abbrev request_larger : List ℕ
request_larger = bytes "02 07 AC 02 03 02 00 01 02 00 01 02 00 01"

abbrev plan_larger : Plan
plan_larger = record { time = 11; disks = 0 ∷ 0 ∷ 1 ∷ []; short = 0 ∷ 1 ∷ 2 ∷ [] }

same_larger : asked overlapping 0 copies_p7 ≡ table_case (table 3 Larger busy) 0 (3 ∷ 3 ∷ 3 ∷ [])
unfolding unit_opened start_of starts starting disk_rows costs join
same_larger = figure_case overlapping refl 0 copies_p7 ∙ sym (as_named 3 Larger busy busy_in_use 0 (3 ∷ 3 ∷ 3 ∷ []))

larger_planned : PlanFor (table_case (table 3 Larger busy) 0 (3 ∷ 3 ∷ 3 ∷ [])) plan_larger
unfolding unit_opened table_case Rises
larger_planned =
    plan_of_law overlap request_larger read_overlap refl plan_larger refl (omega arith)
    (omega arith, omega arith, (omega arith, omega arith, (omega arith, omega arith, tt)))
    (subst (λ (m : Case). Optimal m 11 (λ b. get_or (0 ∷ 0 ∷ 1 ∷ []) b 0) (listed (0 ∷ 1 ∷ 2 ∷ []))) same_larger P13)

-- R is 11, the disks are 0 0 1, the short set is 0 1 2
pub answer_larger : Replied overlapped request_larger (replicate 14 0xEE) (record { answer = Ok 13; unit = overlapped })
    (bytes "03 07 AC 02 03 0B 00 00 01 03 00 01 02 EE")
unfolding unit_opened plan_opened
answer_larger = record {
  same = refl;
  reply = record { plan = got plan_larger 14; plans = (plan_larger, larger_planned, refl); sent = record { answer = refl; held = refl } };
}

-- {0,1} {0,1} at age 2
abbrev request_aged : List ℕ
request_aged = bytes "04 07 AC 02 02 02 02 00 01 02 00 01"

abbrev plan_aged : Plan
plan_aged = record { time = 10; disks = 0 ∷ 0 ∷ []; short = 0 ∷ 1 ∷ [] }

same_aged : asked overlapping 2 copies_p14 ≡ table_case (table 3 Larger busy) 2 (3 ∷ 3 ∷ [])
unfolding unit_opened start_of starts starting disk_rows costs join
same_aged = figure_case overlapping refl 2 copies_p14 ∙ sym (as_named 3 Larger busy busy_in_use 2 (3 ∷ 3 ∷ []))

aged_planned : PlanFor (table_case (table 3 Larger busy) 2 (3 ∷ 3 ∷ [])) plan_aged
unfolding unit_opened table_case Rises
aged_planned =
    plan_of_law overlap request_aged read_overlap refl plan_aged refl (omega arith)
    (omega arith, omega arith, (omega arith, omega arith, tt))
    (subst (λ (m : Case). Optimal m 10 (λ b. get_or (0 ∷ 0 ∷ []) b 0) (listed (0 ∷ 1 ∷ []))) same_aged P14)

-- the age is off the load before the rule is applied: R is 10, the disks are 0 0, the short set is 0 1
pub answer_aged : Replied overlapped request_aged (replicate 12 0xEE) (record { answer = Ok 11; unit = overlapped })
    (bytes "03 07 AC 02 02 0A 00 00 02 00 01 EE")
unfolding unit_opened plan_opened
answer_aged = record {
  same = refl;
  reply = record { plan = got plan_aged 12; plans = (plan_aged, aged_planned, refl); sent = record { answer = refl; held = refl } };
}

-- {0}
abbrev pub request_one : List ℕ
request_one = bytes "02 07 AC 02 01 01 00"

-- block 0 on a disk, with so much time
abbrev pub plan_one : ℕ → ℕ → Plan
plan_one d t = record { time = t; disks = d ∷ []; short = 0 ∷ [] }

same_one : asked overlapping 0 copies_p15 ≡ table_case (table 3 Larger busy) 0 (1 ∷ [])
unfolding unit_opened start_of starts starting disk_rows costs join
same_one = figure_case overlapping refl 0 copies_p15 ∙ sym (as_named 3 Larger busy busy_in_use 0 (1 ∷ []))

one_planned : PlanFor (table_case (table 3 Larger busy) 0 (1 ∷ [])) (plan_one 0 7)
unfolding unit_opened table_case Rises
one_planned =
    plan_of_law overlap request_one read_overlap refl (plan_one 0 7) refl (omega arith) (omega arith, omega arith, tt)
    (subst (λ (m : Case). Optimal m 7 (λ b. get_or (0 ∷ []) b 0) (listed (0 ∷ []))) same_one P15)

-- one block of cost 4 on a disk of load 3 and delay 2: R is 7
pub answer_one : Replied overlapped request_one (replicate 10 0xEE) (record { answer = Ok 9; unit = overlapped })
    (bytes "03 07 AC 02 01 07 00 01 00 EE")
unfolding unit_opened plan_opened
answer_one = record {
  same = refl;
  reply = record { plan = got (plan_one 0 7) 7; plans = (plan_one 0 7, one_planned, refl); sent = record { answer = refl; held = refl } };
}

-- the bench takes settings of kind 5 too
bench_one : Line (bench_input (bytes "07 AC 02 0E" ++ overlap ++ bytes "07" ++ request_one) 0) (ascii "plan 7 300 1 7 | 0 | 0\n")
unfolding program_opened
bench_one = record { plan = got (plan_one 0 7) 7; plans = (plan_one 0 7, one_planned, refl); says = refl }

-- ---- by the sum

-- the same disks by the sum, and one block
abbrev pub by_sum : ℕ → Case
by_sum mask = spelled (mask ∷ []) (4 ∷ 3 ∷ 10 ∷ []) (5 ∷ 10 ∷ 0 ∷ [])

-- disk d holds its only copy, and ends with it at R: that is the plan
module _ (d R : ℕ) (on : d < 3) (soon : (n : ℕ) → 0 < n → R ≤ end_time ((by_sum (2 ^ d)).start d) ((by_sum (2 ^ d)).cost d) n)
    (there_ends : response (by_sum (2 ^ d)) (λ b. get_or (d ∷ []) b 0) ≡ R)
    (no_room : room 3 1 (by_sum (2 ^ d)).copy (capacity_at (by_sum (2 ^ d)) (R - 1)) (listed (0 ∷ [])) ≡ 0) where
  abbrev one : Case
  one = by_sum (2 ^ d)

  on_disk : (a : ℕ → ℕ) → Schedule one a → a 0 ≡ d
  unfolding Schedule Valid
  on_disk a v = eqb-true (a 0) d (sym (has_pow d (a 0)) ∙ (v 0 (omega arith)).1)

  not_sooner : (a : ℕ → ℕ) → Schedule one a → R ≤ response one a
  unfolding end_of response reads
  not_sooner a v =
      omega (
        arith,
        latest_term 3 (end_of one a) d on,
        soon (reads 1 a d) (count_here 1 (λ b. eqb (a b) d) 0 (omega arith) (eq-eqb (a 0) d (on_disk a v))),
      )

  there_reads : Schedule one (λ b. get_or (d ∷ []) b 0)
  unfolding Schedule Valid
  there_reads zero h = (on, has_pow d d ∙ eq-eqb d d refl)
  there_reads (suc b) h = absurd (omega arith)

  one_member : size 1 (listed (0 ∷ [])) ≡ 1
  unfolding size count sum bit listed
  one_member = refl

  pub one_optimal : Optimal one R (λ b. get_or (d ∷ []) b 0) (listed (0 ∷ []))
  unfolding HasTime Before Greatest NoShorter Sub size
  one_optimal =
      record {
        least = record { lower = not_sooner; reached = (_, there_reads, there_ends) };
        first = record { holds = (there_reads, there_ends); none = none };
        short = record { greatest = λ S. omega (arith, no_room, one_member, count_most 1 S); least = within };
      }
    where
      none : (a : ℕ → ℕ) → HasTime one R a → Before 1 a (λ b. get_or (d ∷ []) b 0) → ⊥
      none a h (zero, _, _, l) = omega (arith, on_disk a h.0)
      none a h (suc b, l, _, _) = omega arith

      within : (S : ℕ → Bool) → Greatest 3 1 one.copy (capacity_at one (R - 1)) S → Sub 1 (listed (0 ∷ [])) S
      within S g zero l t =
          let s = count_some 1 S (omega (arith, g (listed (0 ∷ [])), no_room, one_member)) in
          let z : s.0 ≡ 0 = omega (arith, s.1) in
          subst (λ (i : ℕ). S i ≡ true) z s.2
      within S g (suc b) l t = absurd (omega arith)

-- disk 0 starts at 5, and holds the only copy of block 0
same_sum : by_sum 1 ≡ table_case (table 3 Sum busy) 0 (1 ∷ [])
unfolding unit_opened start_of starting left disk_rows costs
same_sum = sym (as_named 3 Sum busy busy_in_use 0 (1 ∷ []))

nine : (n : ℕ) → 0 < n → 9 ≤ end_time 5 4 n
unfolding end_time
nine zero h = absurd (omega arith)
nine (suc n) h = omega arith

sum_optimal : Optimal (by_sum 1) 9 (λ b. get_or (0 ∷ []) b 0) (listed (0 ∷ []))
unfolding end_of response reads end_time count sum bit latest room touches capacity_at capacity pick has listed any gate
sum_optimal = one_optimal 0 9 (omega arith) nine refl refl

sum_planned : PlanFor (table_case (table 3 Sum busy) 0 (1 ∷ [])) (plan_one 0 9)
unfolding unit_opened table_case Rises
sum_planned =
    plan_of_law queued request_one read_queued refl (plan_one 0 9) refl (omega arith) (omega arith, omega arith, tt)
    (subst (λ (m : Case). Optimal m 9 (λ b. get_or (0 ∷ []) b 0) (listed (0 ∷ []))) same_sum sum_optimal)

-- after settings of kind 1 for the same disks the block starts at 5: R is 9
pub answer_one_sum : Replied summed request_one (replicate 10 0xEE) (record { answer = Ok 9; unit = summed })
    (bytes "03 07 AC 02 01 09 00 01 00 EE")
unfolding unit_opened plan_opened
answer_one_sum = record {
  same = refl;
  reply = record { plan = got (plan_one 0 9) 7; plans = (plan_one 0 9, sum_planned, refl); sent = record { answer = refl; held = refl } };
}
