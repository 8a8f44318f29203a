-- What the promises mean to a caller.
--     written_taken, written_accepted     what a caller takes out of a writer's answer; 0 in the lowest bits says accepted
--     written_placed                      no place but with 11
--     written_enough                      a buffer of the length that 11 told
--     Handed, plan_handed                 the plan of a sheet comes out of the answer and the two lists
--     plan_refused, plan_accepted         the same of the plan reader's answer: a refusal's number and place; 0 says accepted
--     plan_placed                         a byte of the sheet, or its end
--     plan_enough                         lists of the entries that 11 told
--     plan_taken, set_taken   what it takes out of the plan reader's answer, and out of the bytes of the short set
--     settings_of_numbers, marked_of_numbers, request_of_numbers     lists laid out as bytes give the sheets of those lists
use mathlib.Core.Path.{◌≡◌, refl, sym, ap, ◌∙◌, subst}
use mathlib.Core.Bool.{false}
use mathlib.Core.List.{List}
use Prim.Native.Nat.{ℕ, ◌*◌, ◌%◌, ◌^◌, ◌≤◌, ◌<◌}
use native.Mathlib.Omega.{arith}
use native.Mathlib.Nat.{mul-mod_right}
use borrow.Author.Tests.{le-leb, le-ltb}
use lib.Dec.{leb, lit<}
use lib.ListN.{length, take}
use Rattle.number.specs.Bytes.{Bytes}
use Rattle.basics.proofs.Choice.{pick_true, pick_false, pick_elim}
use Rattle.basics.proofs.Tests.{by_cases}
use Rattle.field.specs.Put.{spell_all}
use Rattle.field.specs.Send.{Draft, sheet, none, answer_to}
use Rattle.field.specs.Sheet.{Note, note, Out, got, refused}
use Rattle.field.proofs.Known.{Known, Answers}
use Rattle.basics.specs.Lists.{All}
use Rattle.model.specs.declared.Rule.{Rule}
use Rattle.settings.specs.Draft.{settings_draft, marked_draft}
use Rattle.request.specs.Draft.{request_draft}
use Rattle.plan.specs.Plan.{Plan, plan_sheet}
use Rattle.plan.proofs.Known.{numbered_plan}
use Rattle.plan.proofs.Room.{room_both}
use Rattle.plan.proofs.Placed.{room_placed, room_near, room_wants, room_enough}
use Rattle.plan.specs.Receive.{if_room, heads, disks_left}
use Rattle.basics.specs.Buffer.{over}
use Rattle.basics.proofs.Buffer.{over_front}
use Rattle.lent.specs.Numbers.{bytes_of, numbers, broken}
use Rattle.lent.specs.Packed.{lengths, pack_refused, writer_answer, reader_answer, refusal_in, place_in, length_in}
use Rattle.desk.specs.Desk.{broken_rows, settings_draft_of_bytes, marked_draft_of_bytes, tenancy_with, request_draft_of_bytes}
use Rattle.desk.specs.Desk.{Exported, plan_if_room, set_left, PlanRead}
use Rattle.lent.proofs.Numbers.{spell_length, numbers_length, numbers_spell}
use Rattle.lent.proofs.Packed.{Unpacked, Refuses, written_unpacks, plan_unpacks, refusal_unpacks, refusal_number}
use Rattle.desk.proofs.Reading.{Packable, plan_packable_room}
use Rattle.desk.proofs.Writing.{Answerable}

-- ---- the writers' answer

-- no refusal and the length, or one of the table's refusals, which is not 0, and its place
unfoldable pub Taken : Out Unit → ℕ → Type 0
Taken (got u n) r = (refusal_in r ≡ 0) × (length_in r ≡ n)
Taken (refused e) r = Known e.number × Refuses e r

refusal_taken : (e : Note) → Known e.number → e.place < lengths → Taken (refused e) (pack_refused e)
unfolding Taken
refusal_taken e h l = (h, refusal_unpacks e (omega (arith, h.1)) l)

taken_of : (d : Draft) (out : List ℕ) → Answerable d → Taken (answer_to d out) (writer_answer (answer_to d out))
unfolding Answerable Taken answer_to writer_answer
taken_of (none e) out h = refusal_taken e h.known (omega (arith, h.nowhere))
taken_of (sheet bs) out h =
    pick_elim (λ (o : Out Unit). Taken o (writer_answer o)) _ _ _
    (λ _. let u : _ = written_unpacks (length bs) h in (u.1, u.2))
    (λ _. refusal_taken (note 11 (length bs)) (omega arith, omega arith) h)

pub written_taken : (d : Draft) (out : List ℕ) (r : ℕ) (after : List ℕ) → Answerable d → Exported d out r after → Taken (answer_to d out) r
written_taken d out r after h w = subst (Taken (answer_to d out)) (sym w.answer) (taken_of d out h)

-- 0 in bits 0 to 7 says accepted, and nothing else does
pub written_accepted : (o : Out Unit) (r : ℕ) → Taken o r → refusal_in r ≡ 0 → (n : ℕ) × (o ≡ got tt n)
unfolding Taken
written_accepted (got tt n) r h z = (n, refl)
written_accepted (refused e) r h z = absurd (omega (arith, h.0.0, h.1.refusal, z))

-- a refusal other than 11 has no place
placed_of : (d : Draft) (out : List ℕ) (e : Note) → Answerable d → answer_to d out ≡ refused e → (e.number ≡ 11 → ⊥) → e.place ≡ 0
unfolding Answerable answer_to
placed_of (none k) out e h q o = let m : e ≡ k = cc in ap (λ (x : Note). x.place) m ∙ h.nowhere
placed_of (sheet bs) out e h q o =
    by_cases (leb (length bs) (length out))
    (λ t. let v : got tt (length bs) ≡ refused e = sym (pick_true _ _ t) ∙ q in absurd (let z : ◌≡◌ {A = ℕ} 0 1 = cc in omega arith))
    (λ f. let v : refused (note 11 (length bs)) ≡ refused e = sym (pick_false _ _ f) ∙ q in
    let m : e ≡ note 11 (length bs) = cc in absurd (o (ap (λ (x : Note). x.number) m)))

placed_out : (d : Draft) (out : List ℕ) (r : ℕ) (o : Out Unit) → Answerable d → answer_to d out ≡ o → Taken o r → (refusal_in r ≡ 0 → ⊥)
    → (refusal_in r ≡ 11 → ⊥) → place_in r ≡ 0
unfolding Taken
placed_out d out r (got u n) h q k z o = absurd (z k.0)
placed_out d out r (refused e) h q k z o =
    k.1.place ∙ placed_of d out e h q (λ n. o (k.1.refusal ∙ n))

pub written_placed : (d : Draft) (out : List ℕ) (r : ℕ) (after : List ℕ) → Answerable d → Exported d out r after → (refusal_in r ≡ 0 → ⊥)
    → (refusal_in r ≡ 11 → ⊥) → place_in r ≡ 0
written_placed d out r after h w z o = placed_out d out r (answer_to d out) h refl (written_taken d out r after h w) z o

-- 11 tells the sheet's length, so a buffer of so many bytes is enough
enough_of : (d : Draft) (out out' : List ℕ) → Answerable d → refusal_in (writer_answer (answer_to d out)) ≡ 11
    → place_in (writer_answer (answer_to d out)) ≤ length out' → answer_to d out' ≡ got tt (place_in (writer_answer (answer_to d out)))
unfolding Answerable answer_to writer_answer
enough_of (none e) out out' h q l =
    absurd (h.other (sym (refusal_number e (omega (arith, h.known.1))) ∙ q))
enough_of (sheet bs) out out' h q l =
    by_cases (leb (length bs) (length out))
    (λ t. absurd (omega (
      arith,
      (written_unpacks (length bs) h).1,
      ap (λ (o : Out Unit). refusal_in (writer_answer o)) (pick_true (got tt (length bs)) (refused (note 11 (length bs))) t),
      q,
    )))
    (λ f.
    let p : place_in (writer_answer (answer_to (sheet bs) out)) ≡ length bs =
    ap (λ (o : Out Unit). place_in (writer_answer o)) (pick_false (got tt (length bs)) (refused (note 11 (length bs))) f)
    ∙ (refusal_unpacks (note 11 (length bs)) (omega arith) h).place in
    pick_true _ _ (le-leb (length bs) (length out') (omega (arith, p, l))) ∙ ap (got tt) (sym p))

pub written_enough : (d : Draft) (out out' : List ℕ) (r : ℕ) (after : List ℕ) → Answerable d → Exported d out r after
    → refusal_in r ≡ 11 → place_in r ≤ length out' → answer_to d out' ≡ got tt (place_in r)
written_enough d out out' r after h w q l =
    enough_of d out out' h (ap refusal_in (sym w.answer) ∙ q) (omega (arith, ap place_in w.answer, l))
    ∙ ap (λ x. got tt (place_in x)) (sym w.answer)

-- ---- the plan reader's answer

-- with 11 for the lists, a number of the table
unfoldable Tabled : Out Plan → Type 0
Tabled (got p e) = Unit
Tabled (refused n) = Known n.number

room_answers : (o : Out Plan) (disks short : List ℕ) → Answers o → Tabled (if_room o disks short)
unfolding if_room Tabled
room_answers (got p e) disks short h =
    pick_elim Tabled _ _ _ (λ _. pick_elim Tabled _ _ _ (λ _. tt) (λ _. (omega arith, omega arith))) (λ _. (omega arith, omega arith))
room_answers (refused n) disks short h = h.0

refused_known : (o : Out Plan) (n : Note) → o ≡ refused n → Tabled o → Known n.number
unfolding Tabled
refused_known o n h a = subst Tabled h a

got_unless : (o : Out Plan) → ((n : Note) → o ≡ refused n → ⊥) → (p : Plan) × (e : ℕ) × (o ≡ got p e)
got_unless (got p e) f = (p, e, refl)
got_unless (refused n) f = absurd (f n refl)

-- Q, R and m of what the sheet says, and no refusal
pub plan_taken : (unit t : ℕ) (s disks set : List ℕ) (r : ℕ) (disks' set' : List ℕ) (p : Plan) (e : ℕ) → Bytes s
    → PlanRead unit t s disks set r disks' set' → plan_if_room unit t s disks set ≡ got p e
    → Unpacked (length p.disks) p.time (length p.short) r
unfolding heads reader_answer
plan_taken unit t s disks set r disks' set' p e b w h =
    let g : Packable p = plan_packable_room unit t s disks set p e b h in
    subst (Unpacked (length p.disks) p.time (length p.short)) (sym (w.answer ∙ ap (λ (o : Out Plan). reader_answer (heads o)) h))
    (plan_unpacks (length p.disks) p.time (length p.short) (omega (arith, g.blocks)) (omega (arith, g.time))
    (omega (arith, g.size)))

-- a refusal of the plan sheet is one of the table's
pub plan_known : (unit t : ℕ) (s disks set : List ℕ) (n : Note) → plan_if_room unit t s disks set ≡ refused n → Known n.number
unfolding plan_if_room
plan_known unit t s disks set n h =
    refused_known _ n h (room_answers (plan_sheet unit t s 0) disks (numbers 2 set) ((numbered_plan unit t).answers s 0))

-- its number is what is answered in bits 0 to 7
pub plan_number : (unit t : ℕ) (s disks set : List ℕ) (r : ℕ) (disks' set' : List ℕ) (n : Note)
    → PlanRead unit t s disks set r disks' set' → plan_if_room unit t s disks set ≡ refused n
    → (r ≡ pack_refused n) × (refusal_in r ≡ n.number)
unfolding heads reader_answer
plan_number unit t s disks set r disks' set' n w h =
    let e : r ≡ pack_refused n = w.answer ∙ ap (λ (o : Out Plan). reader_answer (heads o)) h in
    (e, ap refusal_in e ∙ refusal_number n (omega (arith, (plan_known unit t s disks set n h).1)))

-- and its place, which is near however long the sheet is, is all that is answered beside it
pub plan_refused : (unit t : ℕ) (s disks set : List ℕ) (r : ℕ) (disks' set' : List ℕ) (n : Note) → Bytes s
    → PlanRead unit t s disks set r disks' set' → plan_if_room unit t s disks set ≡ refused n → Known n.number × Refuses n r
unfolding plan_if_room
plan_refused unit t s disks set r disks' set' n b w h =
    let k : Known n.number = plan_known unit t s disks set n h in (
      k,
      subst (Refuses n) (sym (plan_number unit t s disks set r disks' set' n w h).0)
          (refusal_unpacks n (omega (arith, k.1)) (omega (arith, room_near unit t s disks (numbers 2 set) h b))),
    )

-- 0 in bits 0 to 7 says accepted, and nothing else does
pub plan_accepted : (unit t : ℕ) (s disks set : List ℕ) (r : ℕ) (disks' set' : List ℕ)
    → PlanRead unit t s disks set r disks' set' → refusal_in r ≡ 0 → (p : Plan) × (e : ℕ) × (plan_if_room unit t s disks set ≡ got p e)
plan_accepted unit t s disks set r disks' set' w z =
    got_unless (plan_if_room unit t s disks set)
    (λ n h. omega (arith, (plan_known unit t s disks set n h).0, (plan_number unit t s disks set r disks' set' n w h).1, z))

-- any refusal but 11 tells a byte of the sheet, or its end
pub plan_placed : (unit t : ℕ) (s disks set : List ℕ) (r : ℕ) (disks' set' : List ℕ) (n : Note) → Bytes s
    → PlanRead unit t s disks set r disks' set' → plan_if_room unit t s disks set ≡ refused n → (refusal_in r ≡ 11 → ⊥)
    → place_in r ≤ length s
unfolding plan_if_room
plan_placed unit t s disks set r disks' set' n b w h o =
    let u : Refuses n r = (plan_refused unit t s disks set r disks' set' n b w h).1 in
    omega (arith, u.place, room_placed unit t s disks (numbers 2 set) h (λ e. o (u.refusal ∙ e)))

-- 11 tells the entries that a list needs: lists of so many, the first no shorter than before, are enough
pub plan_enough : (unit t : ℕ) (s disks set : List ℕ) (r : ℕ) (disks' set' more_disks more_set : List ℕ) → Bytes s
    → PlanRead unit t s disks set r disks' set' → refusal_in r ≡ 11 → length disks ≤ length more_disks → place_in r ≤ length more_disks
    → 2 * place_in r ≤ length more_set → (p : Plan) × (e : ℕ) × (plan_if_room unit t s more_disks more_set ≡ got p e)
unfolding plan_if_room
plan_enough unit t s disks set r disks' set' more_disks more_set b w q i j k = enough_why (plan_if_room unit t s disks set) refl
  where
    enough_why : (o : Out Plan) → plan_if_room unit t s disks set ≡ o
        → (p : Plan) × (e : ℕ) × (if_room (plan_sheet unit t s 0) more_disks (numbers 2 more_set) ≡ got p e)
    enough_why (got p e) h = absurd (omega (arith, (plan_taken unit t s disks set r disks' set' p e b w h).refusal, q))
    enough_why (refused n) h =
        let u = (plan_refused unit t s disks set r disks' set' n b w h).1 in
        let v = room_wants unit t s disks (numbers 2 set) h (sym u.refusal ∙ q) in (
          v.plan,
          v.end,
          room_enough unit t s disks (numbers 2 set) more_disks (numbers 2 more_set) b v i (omega (arith, u.place, j))
              (omega (arith, u.place, k, numbers_length 2 more_set)),
        )

-- the short set is what the first bytes of the lent list say
pub set_taken : (unit t : ℕ) (s disks set : List ℕ) (r : ℕ) (disks' set' : List ℕ) (p : Plan) (e : ℕ) → Bytes s
    → PlanRead unit t s disks set r disks' set' → plan_if_room unit t s disks set ≡ got p e
    → numbers 2 (take (2 * length p.short) set') ≡ p.short
unfolding set_left
set_taken unit t s disks set r disks' set' p e b w h =
    let g : Packable p = plan_packable_room unit t s disks set p e b h in
    let held : set' ≡ over (spell_all (bytes_of 2) p.short) set = w.members ∙ ap (λ (o : Out Plan). set_left o set) h in
    ap (λ (x : List ℕ). numbers 2 (take (2 * length p.short) x)) held
    ∙ ap (numbers 2) (over_front (spell_all (bytes_of 2) p.short) set (2 * length p.short) (spell_length 2 p.short))
    ∙ numbers_spell 2 p.short (lit< tt) g.members

-- a plan sheet, read with room for it: its plan comes out of the answer and the two lists
pub record Handed (p : Plan) (r : ℕ) (disks set : List ℕ) : Type 0 where
  pub answer : Unpacked (length p.disks) p.time (length p.short) r
  pub blocks : take (length p.disks) disks ≡ p.disks
  pub members : numbers 2 (take (2 * length p.short) set) ≡ p.short

pub plan_handed : {unit t : ℕ} {s disks set : List ℕ} {r : ℕ} {disks' set' : List ℕ} (p : Plan) (e : ℕ) → Bytes s
    → plan_sheet unit t s 0 ≡ got p e → length p.disks ≤ length disks → 2 * length p.short ≤ length set
    → PlanRead unit t s disks set r disks' set' → Handed p r disks' set'
unfolding plan_if_room disks_left
plan_handed {unit} {t} {s} {disks} {set} {r} {disks'} {set'} p e b h l m w =
    let fits : length p.short ≤ length (numbers 2 set) = omega (arith, numbers_length 2 set) in
    let q : plan_if_room unit t s disks set ≡ got p e =
    ap (λ (o : Out Plan). if_room o disks (numbers 2 set)) h ∙ room_both p e disks (numbers 2 set) l fits in
    record {
      answer = plan_taken unit t s disks set r disks' set' p e b w q;
      blocks = ap (take (length p.disks)) (w.blocks ∙ ap (λ (o : Out Plan). disks_left o disks) q)
          ∙ over_front p.disks disks (length p.disks) refl;
      members = set_taken unit t s disks set r disks' set' p e b w q;
    }

-- ---- lists laid out as bytes

whole_spell : (w : ℕ) (xs : List ℕ) → broken w (spell_all (bytes_of w) xs) ≡ false
unfolding broken
whole_spell w xs = le-ltb 0 (length (spell_all (bytes_of w) xs) % w)
    (omega (arith, ap (λ (k : ℕ). k % w) (spell_length w xs), mul-mod_right w (length xs)))

rows_spell : (cs ls ds : List ℕ) → broken_rows (spell_all (bytes_of 4) cs) (spell_all (bytes_of 4) ls) (spell_all (bytes_of 4) ds) ≡ false
unfolding broken_rows
rows_spell cs ls ds = rw (whole_spell 4 cs, whole_spell 4 ls, whole_spell 4 ds)

pub settings_of_numbers : (r : Rule) (unit t : ℕ) (cs ls ds : List ℕ) → All (λ (x : ℕ). x < 256 ^ 4) cs → All (λ (x : ℕ). x < 256 ^ 4) ls
    → All (λ (x : ℕ). x < 256 ^ 4) ds
    → settings_draft_of_bytes r unit t (spell_all (bytes_of 4) cs) (spell_all (bytes_of 4) ls) (spell_all (bytes_of 4) ds)
    ≡ settings_draft r unit t cs ls ds
unfolding settings_draft_of_bytes
settings_of_numbers r unit t cs ls ds c l d =
    pick_false _ _ (rows_spell cs ls ds)
    ∙ rw (numbers_spell 4 cs (lit< tt) c, numbers_spell 4 ls (lit< tt) l, numbers_spell 4 ds (lit< tt) d)

pub marked_of_numbers : (unit t r : ℕ) (cs ls ds ms : List ℕ) → All (λ (x : ℕ). x < 256 ^ 4) cs → All (λ (x : ℕ). x < 256 ^ 4) ls
    → All (λ (x : ℕ). x < 256 ^ 4) ds → All (λ (x : ℕ). x < 256 ^ 4) ms
    → marked_draft_of_bytes unit t r (spell_all (bytes_of 4) cs) (spell_all (bytes_of 4) ls) (spell_all (bytes_of 4) ds)
    (spell_all (bytes_of 4) ms)
    ≡ marked_draft unit t r cs ls ds ms
unfolding marked_draft_of_bytes
marked_of_numbers unit t r cs ls ds ms c l d m =
    pick_false _ _ (rw (rows_spell cs ls ds) (whole_spell 4 ms))
    ∙ rw (numbers_spell 4 cs (lit< tt) c, numbers_spell 4 ls (lit< tt) l, numbers_spell 4 ds (lit< tt) d, numbers_spell 4 ms (lit< tt) m)

pub request_of_numbers : (k unit t a n : ℕ) (ms : List ℕ) → All (λ (x : ℕ). x < 256 ^ 8) ms
    → request_draft_of_bytes k unit t a n (spell_all (bytes_of 8) ms) ≡ request_draft k unit t a n ms
unfolding request_draft_of_bytes tenancy_with
request_of_numbers k unit t a n ms p =
    ap (λ (x : ℕ). request_draft k unit x a n (numbers 8 (spell_all (bytes_of 8) ms))) (pick_false _ _ (whole_spell 8 ms))
    ∙ ap (request_draft k unit t a n) (numbers_spell 8 ms (lit< tt) p)
