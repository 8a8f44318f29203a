-- Wrong answers ruled out: none but the one worked out satisfies the promise, by the theorem that no second answer does.
use Prim.Native.Nat.{ℕ, ◌+◌, ◌*◌, ◌^◌}
use mathlib.Core.Bool.{true}
use mathlib.Core.List.{List, [], ◌∷◌}
use mathlib.Core.Path.{◌≡◌, sym, ap, ◌∙◌}
use native.Mathlib.Omega.{arith}
use lib.ListN.{get_or, replicate}
use Rattle.std.specs.Prelude.{Ok, Err}
use Rattle.field.specs.declared.Refusal.TheVariants.{NoRoom}
use Rattle.field.specs.Sheet.{note, unplaced, Out, got, refused}
use Rattle.field.specs.Refusal.{fault_at}
use Rattle.field.specs.Send.{Draft, sheet, none, Sent}
use Rattle.field.proofs.Sends.{sent_unique}
use Rattle.model.specs.declared.Rule.{Rule}
use Rattle.model.specs.declared.Rule.TheVariants.{Sum, Larger}
use Rattle.settings.specs.declared.Table.{Table}
use Rattle.settings.specs.Draft.{settings_draft}
use Rattle.settings.specs.Row.{disk}
use Rattle.settings.specs.Sheet.{settings_sheet}
use Rattle.settings.specs.Table.{table, no_table}
use Rattle.request.specs.Draft.{request_draft}
use Rattle.request.specs.Request.{request_sheet}
use Rattle.plan.specs.Draft.{plan_draft}
use Rattle.plan.specs.Plan.{plan_sheet}
use Rattle.plan.specs.Receive.{Received}
use Rattle.plan.proofs.Unique.{read_unique}
use Rattle.engine.specs.Planned.{Planned}
use Rattle.engine.proofs.Unique.{planned_unique}
use Rattle.unit.specs.Life.{Verdict, Outcome, accepted, rent, set, give_back}
use Rattle.unit.specs.Life.{refused as refused_with}
use Rattle.unit.specs.Request.{Replied}
use Rattle.unit.proofs.Unique.{request_unique}
use Rattle.desk.specs.Desk.{settings_draft_of_bytes, request_draft_of_bytes, PlanRead}
use Rattle.desk.proofs.Unique.{plan_read_unique}
use Rattle.stream.specs.Call.{asked, rents, returns}
use Rattle.vectors.specs.Text.{bytes}
use Rattle.vectors.proofs.Opened.{desk_opened}
use Rattle.vectors.proofs.Settings as settings
use Rattle.vectors.proofs.Request as request
use Rattle.vectors.proofs.Plan as plan
use Rattle.vectors.proofs.Unit as unit
use Rattle.vectors.proofs.Example.{request_example, request_aged}
use Rattle.vectors.proofs.Overlap.{request_one, answer_one, answer_one_sum}
use Rattle.vectors.proofs.Out.{request_out, answer_out}
use Rattle.vectors.proofs.Engine.{copies, costs, starts, blank, plan_p5}
use Rattle.vectors.proofs.Desk as desk
use Rattle.vectors.proofs.Call as call

-- what tells two answers apart: the refusal's number and place, or 0; the verdict's; the bytes of a draft, entry by entry; a table's rule
unfoldable numbered : {A : Type 0} → Out A → ℕ
numbered (got a e) = 0
numbered (refused n) = n.number

unfoldable placed : {A : Type 0} → Out A → ℕ
placed (got a e) = 0
placed (refused n) = n.place

unfoldable by : Verdict → ℕ
by accepted = 0
by (refused_with n) = n.number

unfoldable judged : Outcome → ℕ
judged o = by o.verdict

unfoldable byte : ℕ → Draft → ℕ
byte i (sheet bs) = get_or bs i 0
byte i (none e) = 1000 + e.number

unfoldable by_rule : Rule → ℕ
by_rule Sum = 1
by_rule Larger = 2

unfoldable ruled : Out Table → ℕ
ruled (got t e) = by_rule t.rule
ruled (refused n) = 0

-- two answers to one question that differ in some number
apart : {A : Type 0} {x y z : A} (f : A → ℕ) → x ≡ y → x ≡ z → f y ≡ f z
apart f p q = ap f (sym p ∙ q)

-- ---- settings

other_tenancy_accepted : settings_sheet 7 301 settings.example 0 ≡ got (table 3 Sum settings.three) 14 → ⊥
unfolding desk_opened numbered judged by byte
other_tenancy_accepted h = let z : ◌≡◌ {A = ℕ} 5 0 = apart numbered settings.other_tenancy h in omega (arith, z)

load_and_delay_exchanged : settings_draft Sum 7 300 (4 ∷ 3 ∷ 10 ∷ []) (0 ∷ 2 ∷ 0 ∷ []) (1 ∷ 0 ∷ 0 ∷ [])
    ≡ sheet (bytes "01 07 AC 02 03 04 01 00 03 00 02 0A 00 00") → ⊥
unfolding desk_opened numbered judged by byte
load_and_delay_exchanged h = let z : ◌≡◌ {A = ℕ} 0 1 = apart (byte 6) settings.draft_example h in omega (arith, z)

settings_eleven_that_already_wrote : Sent (settings_draft Sum 7 300 (4 ∷ []) (0 ∷ []) (1 ∷ [])) (replicate 7 0xEE)
    (Err (fault_at NoRoom 8)) (bytes "01 07 AC 02 01 04 00") → ⊥
unfolding desk_opened numbered judged by byte
settings_eleven_that_already_wrote w =
    let e = (sent_unique _ _ _ _ _ _ settings.write_no_room w).1 in
    let z : ◌≡◌ {A = ℕ} 238 1 = ap (λ (l : List ℕ). get_or l 0 0) e in omega (arith, z)

kind_five_read_as_the_sum : settings_sheet 7 300 settings.overlap 0 ≡ got (table 3 Sum settings.busy) 14 → ⊥
unfolding desk_opened ruled by_rule
kind_five_read_as_the_sum h = let z : ◌≡◌ {A = ℕ} 2 1 = apart ruled settings.read_overlap h in omega (arith, z)

mark_two_accepted : settings_sheet 7 300 (bytes "06 07 AC 02 01 01 04 03 02 02") 0 ≡ got (table 1 Sum (disk 4 3 2 2 ∷ [])) 10 → ⊥
unfolding desk_opened numbered judged by byte
mark_two_accepted h = let z : ◌≡◌ {A = ℕ} 15 0 = apart numbered settings.mark_two h in omega (arith, z)

kind_five_written_as_one : settings_draft Larger 7 300 (4 ∷ 3 ∷ 10 ∷ []) (3 ∷ 2 ∷ 0 ∷ []) (2 ∷ 8 ∷ 0 ∷ []) ≡ sheet settings.queued → ⊥
unfolding desk_opened numbered judged by byte
kind_five_written_as_one h = let z : ◌≡◌ {A = ℕ} 5 1 = apart (byte 0) settings.draft_overlap h in omega (arith, z)

-- ---- request

no_copies_read_as_six : request_sheet 7 300 3 request.in_use (bytes "02 07 AC 02 01 00") 0 ≡ refused (note 6 5) → ⊥
unfolding desk_opened numbered judged by byte
no_copies_read_as_six h = let z : ◌≡◌ {A = ℕ} 7 6 = apart numbered request.no_copies h in omega (arith, z)

sixteen_and_eight_exchanged : request_sheet 7 300 3 request.in_use (bytes "02 07 AC 02 01 01 03") 0 ≡ refused (note 8 6) → ⊥
unfolding desk_opened numbered judged by byte
sixteen_and_eight_exchanged h = let z : ◌≡◌ {A = ℕ} 16 8 = apart numbered request.disk_at_n h in omega (arith, z)

twenty_before_eight : request_sheet 7 300 3 (λ _. true) (bytes "02 07 AC 02 01 02 01 01") 0 ≡ refused (note 20 7) → ⊥
unfolding desk_opened numbered judged by byte
twenty_before_eight h = let z : ◌≡◌ {A = ℕ} 8 20 = apart numbered request.out_after_eight h in omega (arith, z)

twenty_while_one_is_in_use : request_sheet 7 300 3 request.first_out (bytes "02 07 AC 02 01 02 00 01") 0 ≡ refused (note 20 7) → ⊥
unfolding desk_opened numbered judged by byte
twenty_while_one_is_in_use h = let z : ◌≡◌ {A = ℕ} 0 20 = apart numbered request.one_in_use h in omega (arith, z)

no_copies_written_as_six : request_draft 2 7 300 0 3 (3 ∷ 0 ∷ []) ≡ none (unplaced 6) → ⊥
unfolding desk_opened numbered judged by byte
no_copies_written_as_six h = let z : ◌≡◌ {A = ℕ} 1007 1006 = apart (byte 0) request.draft_no_copies h in omega (arith, z)

ten_after_the_age : request_sheet 7 300 0 request.in_use (bytes "04 07 AC 02") 0 ≡ refused (note 1 4) → ⊥
unfolding desk_opened numbered judged by byte
ten_after_the_age h = let z : ◌≡◌ {A = ℕ} 10 1 = apart numbered request.ten_before_the_age h in omega (arith, z)

three_after_the_tenancy : request_draft 3 7 0 1 0 (0 ∷ []) ≡ none (unplaced 6) → ⊥
unfolding desk_opened numbered judged by byte
three_after_the_tenancy h = let z : ◌≡◌ {A = ℕ} 1003 1006 = apart (byte 0) request.write_kind h in omega (arith, z)

age_zero_as_kind_two : request_draft 4 7 300 0 3 (3 ∷ []) ≡ sheet (bytes "02 07 AC 02 01 02 00 01") → ⊥
unfolding desk_opened numbered judged by byte
age_zero_as_kind_two h = let z : ◌≡◌ {A = ℕ} 4 2 = apart (byte 0) request.write_age_zero h in omega (arith, z)

fifteen_after_n : request_draft 2 7 300 1 0 (0 ∷ []) ≡ none (unplaced 6) → ⊥
unfolding desk_opened numbered judged by byte
fifteen_after_n h = let z : ◌≡◌ {A = ℕ} 1015 1006 = apart (byte 0) request.write_age_of_two h in omega (arith, z)

-- ---- plan

sixteen_as_eight : plan_sheet 7 300 (bytes "03 07 AC 02 02 09 00 01 01 02") 0 ≡ refused (note 8 9) → ⊥
unfolding desk_opened numbered judged by byte
sixteen_as_eight h = let z : ◌≡◌ {A = ℕ} 16 8 = apart numbered plan.block_at_q h in omega (arith, z)

q_for_m : plan_draft 7 300 (record { time = 10; disks = 2 ∷ 0 ∷ 0 ∷ []; short = 0 ∷ [] })
    ≡ sheet (bytes "03 07 AC 02 03 0A 02 00 00 03 00") → ⊥
unfolding desk_opened numbered judged by byte
q_for_m h = let z : ◌≡◌ {A = ℕ} 1 3 = apart (byte 9) plan.draft_smaller_set h in omega (arith, z)

entries_beyond_m : Received (plan_sheet 7 300 plan.example 0) 15 (replicate 6 99) (replicate 5 99)
    (Ok (record { blocks = 4; time = 9; size = 4 })) (0 ∷ 0 ∷ 1 ∷ 1 ∷ 99 ∷ 99 ∷ []) (0 ∷ 1 ∷ 2 ∷ 3 ∷ 0 ∷ []) → ⊥
unfolding desk_opened numbered judged by byte
entries_beyond_m w =
    let e = (read_unique _ _ _ _ _ _ _ _ _ _ plan.lists_filled w).2 in
    let z : ◌≡◌ {A = ℕ} 99 0 = ap (λ (l : List ℕ). get_or l 4 0) e in omega (arith, z)

exact_room_refused : Sent (plan_draft 7 300 plan.plan) (replicate 15 0xEE) (Err (fault_at NoRoom 15)) (replicate 15 0xEE) → ⊥
unfolding desk_opened numbered judged by byte
exact_room_refused w =
    let e = (sent_unique _ _ _ _ _ _ plan.write_exact w).1 in
    let z : ◌≡◌ {A = ℕ} 3 238 = ap (λ (l : List ℕ). get_or l 0 0) e in omega (arith, z)

-- ---- engine

-- all three blocks, short too, for the short set
any_short_set : Planned copies costs starts blank blank (2 ∷ 0 ∷ 0 ∷ []) (0 ∷ 1 ∷ 2 ∷ []) (record { time = 10; size = 3 }) → ⊥
any_short_set w =
    let e = (planned_unique copies costs starts blank blank _ _ _ _ _ _ plan_p5 w).2 in
    let z : ◌≡◌ {A = ℕ} 99 1 = ap (λ (l : List ℕ). get_or l 1 0) e in omega (arith, z)

fixed_time : Planned copies costs starts blank blank (2 ∷ 0 ∷ 0 ∷ []) (0 ∷ 99 ∷ 99 ∷ []) (record { time = 9; size = 1 }) → ⊥
fixed_time w =
    let e = (planned_unique copies costs starts blank blank _ _ _ _ _ _ plan_p5 w).0 in
    let z : ◌≡◌ {A = ℕ} 10 9 = ap (λ r. r.time) e in omega (arith, z)

made_up_size : Planned copies costs starts blank blank (2 ∷ 0 ∷ 0 ∷ []) (0 ∷ 99 ∷ 99 ∷ []) (record { time = 10; size = 2 }) → ⊥
made_up_size w =
    let e = (planned_unique copies costs starts blank blank _ _ _ _ _ _ plan_p5 w).0 in
    let z : ◌≡◌ {A = ℕ} 1 2 = ap (λ r. r.size) e in omega (arith, z)

-- ---- unit

module _ (after : List ℕ)
    (w : Replied unit.ready request.example (replicate 16 0xEE) (record { answer = Ok 15; unit = unit.ready }) after) where
  -- whatever is answered with that length, its bytes are document 01's
  the_sheet : bytes "03 07 AC 02 04 09 00 00 01 01 04 00 01 02 03 EE" ≡ after
  the_sheet = (request_unique request_example w).1

  time_made_up : get_or after 5 0 ≡ 8 → ⊥
  unfolding desk_opened numbered judged by byte
  time_made_up h = let z : ◌≡◌ {A = ℕ} 9 (get_or after 5 0) = ap (λ (l : List ℕ). get_or l 5 0) the_sheet in omega (arith, z, h)

  later_schedule : get_or after 7 0 ≡ 1 → ⊥
  unfolding desk_opened numbered judged by byte
  later_schedule h = let z : ◌≡◌ {A = ℕ} 0 (get_or after 7 0) = ap (λ (l : List ℕ). get_or l 7 0) the_sheet in omega (arith, z, h)

  size_made_up : get_or after 10 0 ≡ 3 → ⊥
  unfolding desk_opened numbered judged by byte
  size_made_up h = let z : ◌≡◌ {A = ℕ} 4 (get_or after 10 0) = ap (λ (l : List ℕ). get_or l 10 0) the_sheet in omega (arith, z, h)

-- the loads of a request at age 3, whole
age_forgotten : (after : List ℕ)
    → Replied unit.ready request.aged_example (replicate 14 0xEE) (record { answer = Ok 13; unit = unit.ready }) after
    → get_or after 5 0 ≡ 8 → ⊥
unfolding desk_opened numbered judged by byte
age_forgotten after w h =
    let z : ◌≡◌ {A = ℕ} 6 (get_or after 5 0) = ap (λ (l : List ℕ). get_or l 5 0) (request_unique request_aged w).1 in omega (arith, z, h)

-- one block on a unit with settings of kind 5, by the sum
larger_as_sum : (after : List ℕ)
    → Replied unit.overlapped request_one (replicate 10 0xEE) (record { answer = Ok 9; unit = unit.overlapped }) after
    → get_or after 5 0 ≡ 9 → ⊥
unfolding desk_opened numbered judged by byte
larger_as_sum after w h =
    let z : ◌≡◌ {A = ℕ} 7 (get_or after 5 0) = ap (λ (l : List ℕ). get_or l 5 0) (request_unique answer_one w).1 in omega (arith, z, h)

-- and by the larger, on one with settings of kind 1
sum_as_larger : (after : List ℕ)
    → Replied unit.summed request_one (replicate 10 0xEE) (record { answer = Ok 9; unit = unit.summed }) after
    → get_or after 5 0 ≡ 7 → ⊥
unfolding desk_opened numbered judged by byte
sum_as_larger after w h =
    let z : ◌≡◌ {A = ℕ} 9 (get_or after 5 0) = ap (λ (l : List ℕ). get_or l 5 0) (request_unique answer_one_sum w).1 in omega (arith, z, h)

-- one block on disks 0 and 2, of which disk 0 is out
module _ (after : List ℕ)
    (w : Replied unit.marked request_out (replicate 10 0xEE) (record { answer = Ok 9; unit = unit.marked }) after) where
  out_sheet : bytes "03 07 AC 02 01 0A 02 01 00 EE" ≡ after
  out_sheet = (request_unique answer_out w).1

  out_disk_read : get_or after 6 0 ≡ 0 → ⊥
  unfolding desk_opened numbered judged by byte
  out_disk_read h = let z : ◌≡◌ {A = ℕ} 2 (get_or after 6 0) = ap (λ (l : List ℕ). get_or l 6 0) out_sheet in omega (arith, z, h)

  -- with the capacity of disk 0 the block is not short
  out_disk_counted : get_or after 7 0 ≡ 0 → ⊥
  unfolding desk_opened numbered judged by byte
  out_disk_counted h = let z : ◌≡◌ {A = ℕ} 1 (get_or after 7 0) = ap (λ (l : List ℕ). get_or l 7 0) out_sheet in omega (arith, z, h)

rented_as_13 : rent unit.ready 299 ≡ record { verdict = refused_with (unplaced 13); unit = unit.ready } → ⊥
unfolding desk_opened numbered judged by byte
rented_as_13 h = let z : ◌≡◌ {A = ℕ} 12 13 = apart judged unit.rent_rented h in omega (arith, z)

same_tenancy_again : rent unit.back 300 ≡ record { verdict = accepted; unit = unit.let_out } → ⊥
unfolding desk_opened numbered judged by byte
same_tenancy_again h = let z : ◌≡◌ {A = ℕ} 13 0 = apart judged unit.rent_again h in omega (arith, z)

settings_while_free : set unit.back settings.example ≡ record { verdict = accepted; unit = unit.ready } → ⊥
unfolding desk_opened numbered judged by byte
settings_while_free h = let z : ◌≡◌ {A = ℕ} 5 0 = apart judged unit.set_free h in omega (arith, z)

another_tenancy_returns : give_back unit.ready 299 ≡ record { verdict = accepted; unit = unit.back } → ⊥
unfolding desk_opened numbered judged by byte
another_tenancy_returns h = let z : ◌≡◌ {A = ℕ} 14 0 = apart judged unit.return_other h in omega (arith, z)

return_keeps_the_table : (give_back unit.ready 300).unit.table ≡ table 3 Sum settings.three → ⊥
unfolding desk_opened no_table table
return_keeps_the_table h =
    let z : ◌≡◌ {A = ℕ} 0 3 = ap (λ (t : Table). t.disks) (sym (ap (λ (o : Outcome). o.unit.table) unit.return_300) ∙ h) in
    omega (arith, z)

return_keeps_larger : (give_back unit.overlapped 300).unit.table.rule ≡ Larger → ⊥
unfolding desk_opened no_table table by_rule
return_keeps_larger h =
    let z : ◌≡◌ {A = ℕ} 1 2 = ap by_rule (sym (ap (λ (o : Outcome). o.unit.table.rule) unit.return_overlapped) ∙ h) in omega (arith, z)

-- ---- desk

odd_byte_used : (d m : List ℕ)
    → PlanRead 7 300 plan.example (replicate 4 0xEE) (replicate 7 0xEE) (4 * 2 ^ 8 + 9 * 2 ^ 19 + 4 * 2 ^ 50) d m → ⊥
unfolding desk_opened numbered judged by byte
odd_byte_used d m w = let z = (plan_read_unique _ _ _ _ _ _ _ _ _ _ _ desk.plan_odd_byte w).0 in omega (arith, z)

time_in_wrong_bits : (d m : List ℕ)
    → PlanRead 7 300 plan.example (bytes "EE EE EE EE EE") (replicate 10 0xEE) (4 * 2 ^ 8 + 9 * 2 ^ 18 + 4 * 2 ^ 50) d m → ⊥
unfolding desk_opened numbered judged by byte
time_in_wrong_bits d m w = let z = (plan_read_unique _ _ _ _ _ _ _ _ _ _ _ desk.plan_example w).0 in omega (arith, z)

broken_copies_accepted : request_draft_of_bytes 2 7 300 0 3 (bytes "03 00 00 00") ≡ sheet (bytes "02 07 AC 02 00") → ⊥
unfolding desk_opened numbered judged by byte
broken_copies_accepted h = let z : ◌≡◌ {A = ℕ} 1006 2 = apart (byte 0) desk.request_broken h in omega (arith, z)

halves_swapped : request_draft_of_bytes 2 7 300 0 64 (bytes "01 00 00 00 00 00 00 80") ≡ sheet (bytes "02 07 AC 02 01 02 1F 20") → ⊥
unfolding desk_opened numbered judged by byte
halves_swapped h = let z : ◌≡◌ {A = ℕ} 0 31 = apart (byte 6) desk.request_disk_63 h in omega (arith, z)

broken_costs_accepted : settings_draft_of_bytes Sum 7 300 (bytes "04 00 00 00 03") (bytes "00 00 00 00") (bytes "01 00 00 00")
    ≡ sheet (bytes "01 07 AC 02 01 04 00 01") → ⊥
unfolding desk_opened numbered judged by byte
broken_costs_accepted h = let z : ◌≡◌ {A = ℕ} 1006 1 = apart (byte 0) desk.settings_broken h in omega (arith, z)

-- ---- stream

return_for_rent : asked (bytes "04 AC 02") 0 ≡ got (rents 300) 3 → ⊥
unfolding desk_opened numbered judged by byte
return_for_rent h =
    let q : got (returns 300) 3 ≡ got (rents 300) 3 = sym call.call_return ∙ h in absurd (let o : ◌≡◌ {A = ℕ} 0 1 = cc in omega arith)

length_awaited : asked (bytes "02 93 48") 0 ≡ refused (note 1 3) → ⊥
unfolding desk_opened numbered judged by byte
length_awaited h = let z : ◌≡◌ {A = ℕ} 6 1 = apart numbered call.call_length h in omega (arith, z)
