-- A disk pulled out: a unit with settings of kind 6 reads no block from it and does not count its capacity; of it the first reason is told.
--     request_out, answer_out     one block on disks 0 and 2 where disk 0 is out, though it would be sooner
use Prim.Native.Nat.{ℕ, zero, suc, ◌^◌, ◌≤◌, ◌<◌}
use mathlib.Core.Bool.{Bool, true, false}
use mathlib.Core.List.{List, [], ◌∷◌, ◌++◌}
use mathlib.Core.Path.{◌≡◌, refl, sym, ap, ◌∙◌, subst, fun_ext}
use native.Mathlib.Omega.{arith}
use lib.ListN.{get_or, replicate}
use Rattle.std.specs.Prelude.{Ok}
use Rattle.basics.specs.Choice.{pick}
use Rattle.basics.specs.Count.{bit, gate, sum, count, any, latest}
use Rattle.basics.specs.Lists.{Rises, listed}
use Rattle.basics.proofs.Tests.{first_false}
use Rattle.mask.specs.Has.{has}
use Rattle.mask.proofs.Has.{has_zero, has_above}
use Rattle.model.specs.declared.Rule.TheVariants.{Sum}
use Rattle.model.specs.Assignment.{reads}
use Rattle.model.specs.Capacity.{end_time, capacity}
use Rattle.model.specs.Case.{Case, left, starting, end_of, response, capacity_at}
use Rattle.model.specs.Plan.{Optimal}
use Rattle.model.specs.Shortfall.{touches, room}
use Rattle.field.specs.Sheet.{note, got, refused}
use Rattle.settings.specs.Row.{disk}
use Rattle.settings.specs.Table.{table, disk_rows, costs}
use Rattle.planner.specs.Asked.{start_of, table_case, PlanFor, asked as asked_case}
use Rattle.unit.specs.Request.{Replied}
use Rattle.console.specs.Bench.{bench_input, Line}
use Rattle.reason.specs.declared.Reason.TheVariants.{NoCopy}
use Rattle.reason.specs.Reason.{Why, Reasons}
use Rattle.hire.specs.Calls.{explained}
use Rattle.line.specs.Text.{ascii}
use Rattle.service.specs.declared.Next.TheVariants.{Served}
use Rattle.service.specs.Shelf.{due, shelf_of, Comes}
use Rattle.vectors.specs.Text.{bytes}
use Rattle.vectors.proofs.Opened.{unit_opened, plan_opened, program_opened}
use Rattle.vectors.proofs.Settings.{marked as marking, pulled, read_marked}
use Rattle.vectors.proofs.Unit.{marked}
use Rattle.vectors.proofs.Overlap.{by_sum, one_optimal, plan_of_law, plan_one}

-- {0,2}
abbrev pub request_out : List ℕ
request_out = bytes "02 07 AC 02 01 02 00 02"

same_out : by_sum 4 ≡ table_case (table 3 Sum pulled) 0 (5 ∷ [])
unfolding unit_opened table_case start_of starting left disk_rows costs
same_out = ap on (fun_ext λ b. fun_ext λ d. cut b d)
  where
    on : (ℕ → ℕ → Bool) → Case
    on c = record { disks = 3; blocks = 1; start = (by_sum 4).start; cost = (by_sum 4).cost; copy = c }

    above : (m d : ℕ) → m < 2 ^ 3 → has m (suc (suc (suc d))) ≡ false
    above m d l = has_above 3 l (omega arith)

    -- 5 without disk 0 is 4
    cut : (b d : ℕ) → has (get_or (4 ∷ []) b 0) d ≡ (table_case (table 3 Sum pulled) 0 (5 ∷ [])).copy b d
    cut (suc b) d = has_zero d ∙ sym (first_false _ (has_zero d))
    cut zero zero = refl
    cut zero (suc zero) = refl
    cut zero (suc (suc zero)) = refl
    cut zero (suc (suc (suc d))) = above 4 d (omega arith) ∙ sym (first_false _ (above 5 d (omega arith)))

-- disk 2 starts at 0
ten : (n : ℕ) → 0 < n → 10 ≤ end_time 0 10 n
unfolding end_time
ten zero h = absurd (omega arith)
ten (suc n) h = omega arith

out_optimal : Optimal (by_sum 4) 10 (λ b. get_or (2 ∷ []) b 0) (listed (0 ∷ []))
unfolding end_of response reads end_time count sum bit latest room touches capacity_at capacity pick has listed any gate
out_optimal = one_optimal 2 10 (omega arith) ten refl refl

out_planned : PlanFor (table_case (table 3 Sum pulled) 0 (5 ∷ [])) (plan_one 2 10)
unfolding unit_opened table_case Rises
out_planned =
    plan_of_law marking request_out read_marked refl (plan_one 2 10) refl (omega arith) (omega arith, omega arith, tt)
    (subst (λ (m : Case). Optimal m 10 (λ b. get_or (2 ∷ []) b 0) (listed (0 ∷ []))) same_out out_optimal)

-- R is 10 on disk 2, where disk 0 would end at 9; at 9 block 0 is short, since the capacity of disk 0 does not count
pub answer_out : Replied marked request_out (replicate 10 0xEE) (record { answer = Ok 9; unit = marked })
    (bytes "03 07 AC 02 01 0A 02 01 00 EE")
unfolding unit_opened plan_opened
answer_out = record {
  same = refl;
  reply = record { plan = got (plan_one 2 10) 8; plans = (plan_one 2 10, out_planned, refl); sent = record { answer = refl; held = refl } };
}

-- the bench takes settings of kind 6 too
bench_out : Line (bench_input (bytes "07 AC 02 12" ++ marking ++ bytes "08" ++ request_out) 0) (ascii "plan 7 300 1 10 | 2 | 0\n")
unfolding program_opened
bench_out = record { plan = got (plan_one 2 10) 8; plans = (plan_one 2 10, out_planned, refl); says = refl }

-- why not disk 0: it is out, and answers as holding no copy
serve_out : Comes (shelf_of marked) (bytes "05 00 00 08" ++ request_out) false (due true (bytes "05 00 00 08" ++ request_out) 0) Served 12
    (ascii "reason 1 0\n") (shelf_of marked)
unfolding program_opened table_case disk_rows costs Why
serve_out =
    let r : Reasons (table_case (table 3 Sum pulled) 0 (5 ∷ [])) 0 0 NoCopy =
    record { time = 10; schedule = _; set = _; plan = out_planned.optimal; why = refl } in
    (refl, refl, (explained (got NoCopy 0), marked, (got NoCopy 0, (NoCopy, r, refl), refl, refl), refl, refl))

-- a block on disk 0 alone is 20, at its copy
asked_out : asked_case 7 300 (table 3 Sum pulled) (bytes "02 07 AC 02 01 01 00") ≡ refused (note 20 6)
unfolding unit_opened
asked_out = refl

-- every disk out: a request of no blocks is accepted
all_out : asked_case 7 300 (table 1 Sum (disk 4 3 2 1 ∷ [])) (bytes "02 07 AC 02 00")
    ≡ got (table_case (table 1 Sum (disk 4 3 2 1 ∷ [])) 0 []) 5
unfolding unit_opened
all_out = refl
