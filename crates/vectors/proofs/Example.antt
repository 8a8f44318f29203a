-- Document 01's example from end to end: its settings and its request give its plan, the figure P6; a request at an age gives P10's.
use Prim.Native.Nat.{ℕ, zero, suc, ◌≤◌, ◌<◌}
use mathlib.Core.Bool.{true, false}
use mathlib.Core.List.{List, [], ◌∷◌, ◌++◌}
use mathlib.Core.Path.{◌≡◌, refl, sym, ◌∙◌, subst}
use native.Mathlib.Omega.{arith}
use borrow.Author.Tests.{eqb-true, eq-eqb}
use lib.Dec.{eqb}
use lib.ListN.{get_or, take, replicate}
use Rattle.std.specs.Prelude.{Ok}
use Rattle.model.specs.Assignment.{reads, Valid}
use Rattle.model.specs.Capacity.{end_time}
use Rattle.model.specs.declared.Rule.TheVariants.{Sum}
use Rattle.model.specs.Case.{Case, left, starting, base, Schedule, end_of, response, HasTime}
use Rattle.model.specs.Figures.{paper, asked}
use Rattle.model.specs.Plan.{Optimal}
use Rattle.model.specs.Time.{LeastTime}
use Rattle.basics.specs.Choice.{pick}
use Rattle.basics.specs.Count.{bit, sum, count, latest}
use Rattle.basics.specs.Lists.{All, Rises, listed}
use Rattle.basics.proofs.Count.{count_here, latest_term}
use Rattle.field.specs.Sheet.{note, unplaced, got, refused}
use Rattle.settings.specs.Table.{table, disk_rows, costs}
use Rattle.planner.proofs.Out.{as_named}
use Rattle.planner.specs.Asked.{start_of, table_case, PlanFor}
use Rattle.unit.specs.Request.{Replied}
use Rattle.console.specs.Bench.{bench_input, Line}
use Rattle.reason.specs.declared.Reason.{Reason}
use Rattle.reason.specs.declared.Reason.TheVariants.{NoCopy, Later, Chosen}
use Rattle.reason.specs.Reason.{forced, Could, Why, Reasons}
use Rattle.hire.specs.Calls.{planned, explained}
use Rattle.line.specs.Text.{ascii}
use Rattle.service.specs.declared.Next.TheVariants.{Served}
use Rattle.service.specs.Shelf.{due, shelf_of, Comes}
use Rattle.vectors.specs.Text.{bytes}
use Rattle.vectors.proofs.Opened.{plan_opened, unit_opened, program_opened}
use Rattle.vectors.proofs.Settings.{three, three_in_use}
use Rattle.plan.specs.Plan.{Plan}
use Rattle.vectors.proofs.Request.{copies, example as request, aged_copies, aged_example}
use Rattle.vectors.proofs.Plan.{plan}
use Rattle.vectors.proofs.Unit.{ready}
use Rattle.vectors.proofs.Program.{example as input}
use Rattle.vectors.proofs.Figures.{join, starts, same_case as figure_case, copies_p6, P6, copies_p7, P10}

-- the settings and the request are the case of P6
same_case : asked paper 0 copies_p6 ≡ table_case (table 3 Sum three) 0 copies
unfolding unit_opened start_of starts starting disk_rows costs join
same_case = figure_case paper refl 0 copies_p6 ∙ sym (as_named 3 Sum three three_in_use 0 copies)

-- R is 9, the disks are 0 0 1 1, the short set is 0 1 2 3
plan_example : PlanFor (table_case (table 3 Sum three) 0 copies) plan
unfolding unit_opened plan_opened table_case All Rises
plan_example =
    record {
      range = record {
        few = omega arith;
        time_from = omega arith;
        time_to = omega arith;
        disks = (omega arith, (omega arith, (omega arith, (omega arith, tt))));
        size_from = omega arith;
        size_to = omega arith;
        blocks = (omega arith, omega arith, (omega arith, omega arith, (omega arith, omega arith, (omega arith, omega arith, tt))));
      };
      blocks = refl;
      optimal =
          subst (λ (m : Case). Optimal m 9 (λ b. get_or (0 ∷ 0 ∷ 1 ∷ 1 ∷ []) b 0) (listed (0 ∷ 1 ∷ 2 ∷ 3 ∷ []))) same_case P6;
    }

-- the unit answers document 01's request with document 01's plan sheet
pub request_example : Replied ready request (replicate 16 0xEE) (record { answer = Ok 15; unit = ready })
    (bytes "03 07 AC 02 04 09 00 00 01 01 04 00 01 02 03 EE")
unfolding unit_opened plan_opened
request_example = record {
  same = refl;
  reply = record { plan = got plan 17; plans = (plan, plan_example, refl); sent = record { answer = refl; held = refl } };
}

-- ---- at an age

same_aged : asked paper 3 copies_p7 ≡ table_case (table 3 Sum three) 3 aged_copies
unfolding unit_opened start_of starts starting disk_rows costs join
same_aged = figure_case paper refl 3 copies_p7 ∙ sym (as_named 3 Sum three three_in_use 3 aged_copies)

abbrev aged_plan : Plan
aged_plan = record { time = 6; disks = 0 ∷ 1 ∷ 1 ∷ []; short = 0 ∷ 1 ∷ 2 ∷ [] }

-- R is 6, the disks are 0 1 1, the short set is 0 1 2
plan_aged : PlanFor (table_case (table 3 Sum three) 3 aged_copies) aged_plan
unfolding unit_opened plan_opened table_case All Rises
plan_aged =
    record {
      range = record {
        few = omega arith;
        time_from = omega arith;
        time_to = omega arith;
        disks = (omega arith, (omega arith, (omega arith, tt)));
        size_from = omega arith;
        size_to = omega arith;
        blocks = (omega arith, omega arith, (omega arith, omega arith, (omega arith, omega arith, tt)));
      };
      blocks = refl;
      optimal = subst (λ (m : Case). Optimal m 6 (λ b. get_or (0 ∷ 1 ∷ 1 ∷ []) b 0) (listed (0 ∷ 1 ∷ 2 ∷ []))) same_aged P10;
    }

-- the unit answers a request of kind 4 with the plan of the loads that are left
pub request_aged : Replied ready aged_example (replicate 14 0xEE) (record { answer = Ok 13; unit = ready })
    (bytes "03 07 AC 02 03 06 00 01 01 03 00 01 02 EE")
unfolding unit_opened plan_opened
request_aged = record {
  same = refl;
  reply = record { plan = got aged_plan 15; plans = (aged_plan, plan_aged, refl); sent = record { answer = refl; held = refl } };
}

-- and the bench takes it as it takes document 01's
bench_aged : Line (bench_input (take 18 input ++ bytes "0F" ++ aged_example) 0) (ascii "plan 7 300 3 6 | 0 1 1 | 0 1 2\n")
unfolding program_opened
bench_aged = record { plan = got aged_plan 15; plans = (aged_plan, plan_aged, refl); says = refl }

-- ---- programs

abbrev plan_sheet_law : List ℕ
plan_sheet_law = bytes "03 07 AC 02 04 09 00 00 01 01 04 00 01 02 03"

-- the bench prints document 01's line
bench_example : Line (bench_input input 0) (ascii "plan 7 300 4 9 | 0 0 1 1 | 0 1 2 3\n")
unfolding program_opened
bench_example = record { plan = got plan 17; plans = (plan, plan_example, refl); says = refl }

-- the shelf prints document 01's plan sheet, where fifteen bytes are lent for it
serve_example : Comes (shelf_of ready) (bytes "03 0F 11" ++ request) false (due true (bytes "03 0F 11" ++ request) 0) Served 20
    (ascii "plan 0307ac020409000001010400010203\n") (shelf_of ready)
unfolding program_opened plan_opened
serve_example = (refl, refl, (planned (got tt 15) plan_sheet_law, ready, (got plan 17, (plan, plan_example, refl), refl, refl), refl, refl))

-- and 11 where fourteen are, with the fifteen that are needed
serve_no_room : Comes (shelf_of ready) (bytes "03 0E 11" ++ request) false (due true (bytes "03 0E 11" ++ request) 0) Served 20
    (ascii "refused 11 15\n") (shelf_of ready)
unfolding program_opened plan_opened
serve_no_room = (
  refl,
  refl,
  (
    planned (refused (note 11 15)) (replicate 14 0),
    ready,
    (got plan 17, (plan, plan_example, refl), refl, refl),
    refl,
    refl,
  ),
)

-- a reason of document 01's plan
because : (b d : ℕ) (r : Reason) → Why (table_case (table 3 Sum three) 0 copies) 9 (λ i. get_or (0 ∷ 0 ∷ 1 ∷ 1 ∷ []) i 0) b d r
    → Reasons (table_case (table 3 Sum three) 0 copies) b d r
because b d r h = record { time = 9; schedule = _; set = _; plan = plan_example.optimal; why = h }

-- why block 0 is read from disk 0: it is the one chosen
serve_chosen : Comes (shelf_of ready) (bytes "05 00 00 11" ++ request) false (due true (bytes "05 00 00 11" ++ request) 0) Served 21
    (ascii "reason 5 0\n") (shelf_of ready)
unfolding program_opened table_case disk_rows costs Why
serve_chosen =
    (refl, refl, (explained (got Chosen 0), ready, (got Chosen 0, (Chosen, because 0 0 Chosen refl, refl), refl, refl), refl, refl))

-- and not from disk 2: it holds no copy
serve_no_copy : Comes (shelf_of ready) (bytes "05 00 02 11" ++ request) false (due true (bytes "05 00 02 11" ++ request) 0) Served 21
    (ascii "reason 1 0\n") (shelf_of ready)
unfolding program_opened table_case disk_rows costs Why
serve_no_copy =
    (refl, refl, (explained (got NoCopy 0), ready, (got NoCopy 0, (NoCopy, because 0 2 NoCopy refl, refl), refl, refl), refl, refl))

-- disk 2, of cost 10, is in with a block after 10 at the soonest
ten : (n : ℕ) → 0 < n → 10 ≤ end_time 0 10 n
unfolding end_time
ten zero h = absurd (omega arith)
ten (suc n) h = omega arith

on_two : (a : ℕ → ℕ) → a 3 ≡ 2 → 10 ≤ response (asked paper 0 copies_p6) a
unfolding asked left starting pick base end_of response reads
on_two a q =
    omega (
      arith,
      latest_term 3 (end_of (asked paper 0 copies_p6) a) 2 (omega arith),
      ten (reads 4 a 2) (count_here 4 (λ b. eqb (a b) 2) 3 (omega arith) (eq-eqb (a 3) 2 q)),
    )

-- block 3 read there, and the others as in the plan
abbrev there : ℕ → ℕ
there b = get_or (0 ∷ 0 ∷ 1 ∷ 2 ∷ []) b 0

there_reads : Schedule (forced (asked paper 0 copies_p6) 3 2) there
unfolding Schedule Valid forced asked base listed pick
there_reads zero h = (omega arith, refl)
there_reads (suc zero) h = (omega arith, refl)
there_reads (suc (suc zero)) h = (omega arith, refl)
there_reads (suc (suc (suc zero))) h = (omega arith, refl)
there_reads (suc (suc (suc (suc b)))) h = absurd (omega arith)

there_ends : response (forced (asked paper 0 copies_p6) 3 2) there ≡ 10
unfolding forced asked left starting pick base end_of response reads end_time count sum bit latest
there_ends = refl

forced_least : LeastTime (forced (asked paper 0 copies_p6) 3 2) 10
unfolding Schedule Valid forced asked left starting base pick response end_of
forced_least =
    record {
      lower = λ a h. on_two a (eqb-true (a 3) 2 (h 3 (omega arith)).1);
      reached = (there, there_reads, there_ends);
    }

not_in_nine : Could (asked paper 0 copies_p6) 9 3 2 → ⊥
unfolding Could HasTime
not_in_nine x = omega (arith, on_two x.0 x.2, x.1.1)

-- block 3 is not read from disk 2: it holds a copy, but no schedule of time 9 does so; the least time if it were read there is 10
serve_later : Comes (shelf_of ready) (bytes "05 03 02 11" ++ request) false (due true (bytes "05 03 02 11" ++ request) 0) Served 21
    (ascii "reason 2 10\n") (shelf_of ready)
unfolding program_opened table_case disk_rows costs Why asked base listed
serve_later =
    let w : Why (table_case (table 3 Sum three) 0 copies) 9 (λ i. get_or (0 ∷ 0 ∷ 1 ∷ 1 ∷ []) i 0) 3 2 (Later 10) =
    subst (λ (m : Case). Why m 9 (λ i. get_or (0 ∷ 0 ∷ 1 ∷ 1 ∷ []) i 0) 3 2 (Later 10)) same_case (refl, not_in_nine, forced_least) in
    let r : Reasons (table_case (table 3 Sum three) 0 copies) 3 2 (Later 10) = because 3 2 (Later 10) w in
    (refl, refl, (explained (got (Later 10) 0), ready, (got (Later 10) 0, (Later 10, r, refl), refl, refl), refl, refl))

-- there is no block 4, and no disk 3
serve_no_block : Comes (shelf_of ready) (bytes "05 04 00 11" ++ request) false (due true (bytes "05 04 00 11" ++ request) 0) Served 21
    (ascii "refused 16 0\n") (shelf_of ready)
unfolding program_opened table_case disk_rows costs
serve_no_block = (refl, refl, (explained (refused (unplaced 16)), ready, (refused (unplaced 16), refl, refl, refl), refl, refl))

serve_no_disk : Comes (shelf_of ready) (bytes "05 00 03 11" ++ request) false (due true (bytes "05 00 03 11" ++ request) 0) Served 21
    (ascii "refused 16 0\n") (shelf_of ready)
unfolding program_opened table_case disk_rows costs
serve_no_disk = (refl, refl, (explained (refused (unplaced 16)), ready, (refused (unplaced 16), refl, refl, refl), refl, refl))
