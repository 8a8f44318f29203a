-- Where a plan sheet is refused, and what is enough where 11 is told.
--     place_most        the greatest place: five bytes at the most for each of six numbers and for each entry of both lists
--     sheet_placed     a byte of the sheet, or its end
--     sheet_near       and no further on than the greatest place, however long the sheet is
--     Lacks            which list is too short for a plan, and the entries that it needs
--     room_lacks       what 11 says of the two lists
--     disks_enough, short_enough     a list of the entries that 11 told is no cause any more
--     Wants            an accepted sheet whose plan needs as many entries as 11 told
--     room_placed, room_near, room_wants, room_enough     the places of a sheet and two lists; what 11 tells is near too
--     read_placed, read_near, read_wants     the same of what `read` answers
--     read_enough      lists of the entries that 11 told, and no shorter than before, are filled
--     write_enough     a buffer of the length that 11 told
use mathlib.Core.Path.{◌≡◌, refl, sym, ap, subst, ◌∙◌}
use mathlib.Core.List.{List, [], ◌∷◌}
use Prim.Native.Nat.{ℕ, ◌+◌, ◌-◌, ◌*◌, ◌≤◌, ◌<◌}
use native.Mathlib.Omega.{arith}
use lib.ListN.{length}
use Rattle.std.specs.Prelude.{Result, Ok, Err}
use Rattle.basics.specs.Limits.{blocks_most}
use Rattle.basics.proofs.Choice.{pick_elim}
use Rattle.number.specs.Bytes.{Bytes}
use Rattle.field.specs.declared.Fault.{Fault}
use Rattle.field.specs.declared.Refusal.TheVariants.{NoRoom}
use Rattle.field.specs.Refusal.{number_of, note_of}
use Rattle.field.specs.Send.{answer_to, Sent}
use Rattle.field.specs.Sheet.{Note, Out, got, refused}
use Rattle.field.proofs.Known.{Answers}
use Rattle.field.proofs.Sends.{Roomless, sent_enough}
use Rattle.field.proofs.Unique.{number_injective, not_refused}
use Rattle.field.proofs.Values.{between_range}
use Rattle.field.proofs.Within.{Within, within_bind, within_then, within_bounded, within_pure, within_more, within_between, within_opening}
use Rattle.field.proofs.Within.{within_times, within_ascending, within_whole, place_inside, place_near}
use Rattle.plan.specs.declared.Head.{Head}
use Rattle.plan.specs.Plan.{Plan, if_any, time_of, size_of, lists_of, plan_fields, plan_sheet}
use Rattle.plan.specs.Range.{InRange}
use Rattle.plan.specs.Receive.{if_room, heads, Received}
use Rattle.plan.specs.Told.{told_plan}
use Rattle.plan.specs.Draft.{counted, plan_draft}
use Rattle.plan.proofs.Known.{numbered_plan}
use Rattle.plan.proofs.Room.{room_disks, room_short, room_both, room_either}
use Rattle.plan.proofs.RoundTrip.{sheet_exact}

-- ---- how far a plan sheet is read

abbrev lists_most : ℕ
lists_most = blocks_most * 5 + (5 + blocks_most * 5)

abbrev pub place_most : ℕ
place_most = 6 * 5 + 2 * blocks_most * 5

within_lists : (q r : ℕ) → q ≤ blocks_most → Within lists_most (lists_of q r)
unfolding lists_of size_of
within_lists q r l =
    within_more {j = q * 5 + (5 + (blocks_most * 5 + 0))} (omega arith)
    (within_bind (within_times q (within_between _ _ _ _))
    (λ ds. within_bounded blocks_most (within_between (if_any q 1) q 6 6)
    (λ s at m e h. omega (arith, between_range (if_any q 1) q 6 6 s at h))
    (λ m k. within_bind {j = blocks_most * 5} (within_more (omega arith) (within_ascending m 0 (q - 1))) (λ bs. within_pure _))))

within_fields : (unit t : ℕ) → Within place_most (plan_fields unit t)
unfolding plan_fields time_of
within_fields unit t =
    within_more {j = 15 + (5 + (5 + lists_most))} (omega arith)
    (within_then (within_opening (3 ∷ []) unit t)
    (within_bounded blocks_most (within_between 0 blocks_most 6 6) (λ s at q e h. (between_range 0 blocks_most 6 6 s at h).1)
    (λ q l. within_bind (within_between _ _ _ _) (λ r. within_lists q r l))))

pub within_sheet : (unit t : ℕ) → Within place_most (plan_sheet unit t)
unfolding plan_sheet
within_sheet unit t = within_whole (within_fields unit t)

module _ (unit t : ℕ) (s : List ℕ) {n : Note} (h : plan_sheet unit t s 0 ≡ refused n) where
  pub sheet_placed : n.place ≤ length s
  sheet_placed = place_inside (within_sheet unit t) h

  pub sheet_near : n.place ≤ place_most
  sheet_near = place_near (within_sheet unit t) h

-- ---- what 11 says of the two lists

pub data Lacks (p : Plan) (disks short : List ℕ) (n : ℕ) : Type 0 where
  first : n ≡ length p.disks → length disks < n → Lacks p disks short n
  second : length p.disks ≤ length disks → n ≡ length p.short → length short < n → Lacks p disks short n

same_note : {A : Type 0} {o : Out A} {n m : Note} → o ≡ refused n → o ≡ refused m → n ≡ m
same_note h g = cc

module _ (p : Plan) (e : ℕ) (disks short : List ℕ) where
  pub room_lacks : {n : Note} → if_room (got p e) disks short ≡ refused n → (n.number ≡ 11) × Lacks p disks short n.place
  room_lacks {n} h =
      room_either p e disks short
      (λ l. let q = same_note h (room_disks p e disks short l) in
      let k : n.place ≡ length p.disks = ap (λ (x : Note). x.place) q in
      (ap (λ (x : Note). x.number) q, first k (omega (arith, k))))
      (λ m l. let q = same_note h (room_short p e disks short m l) in
      let k : n.place ≡ length p.short = ap (λ (x : Note). x.place) q in
      (ap (λ (x : Note). x.number) q, second m k (omega (arith, k))))
      (λ k l. absurd (not_refused (sym (room_both p e disks short k l) ∙ h)))

  module _ (k : length p.disks ≤ length disks) where
    set_lacks : {n : ℕ} → Lacks p disks short n → (n ≡ length p.short) × (length short < n)
    set_lacks (first q l) = absurd (omega (arith, q, l, k))
    set_lacks (second m q l) = (q, l)

    -- with so many entries in the first list, 11 is for the second
    pub disks_enough : {n : Note} → if_room (got p e) disks short ≡ refused n → (n.place ≡ length p.short) × (length short < n.place)
    disks_enough h = set_lacks (room_lacks h).1

    -- and with so many in the second, there is none
    pub short_enough : length p.short ≤ length short → if_room (got p e) disks short ≡ got p e
    short_enough l = room_both p e disks short k l

-- why a sheet is refused: itself, or a list
room_why : {C : Type 0} (disks short : List ℕ) {n : Note} (o : Out Plan) → if_room o disks short ≡ refused n → (o ≡ refused n → C)
    → ((p : Plan) (e : ℕ) → o ≡ got p e → if_room (got p e) disks short ≡ refused n → C) → C
unfolding if_room
room_why disks short (got p e) h x y = y p e refl h
room_why disks short (refused m) h x y = x h

-- an accepted sheet whose plan needs more entries than a list has
pub record Wants (sheet : Out Plan) (disks short : List ℕ) (n : ℕ) : Type 0 where
  pub plan : Plan
  pub end : ℕ
  pub says : sheet ≡ got plan end
  pub lacks : Lacks plan disks short n

-- no list lacks more entries than a plan may have
lacks_most : (p : Plan) (disks short : List ℕ) (n : ℕ) → InRange p → Lacks p disks short n → n ≤ blocks_most
lacks_most p disks short n w (first q l) = omega (arith, q, w.few)
lacks_most p disks short n w (second k q l) = omega (arith, q, w.few, w.size_to)

-- lists of the entries told, and no shorter than before
lacks_no_more : (p : Plan) (disks short more_disks more-short : List ℕ) (n : ℕ) → InRange p → Lacks p disks short n
    → length disks ≤ length more_disks → n ≤ length more_disks → n ≤ length more-short
    → (length p.disks ≤ length more_disks) × (length p.short ≤ length more-short)
lacks_no_more p disks short more_disks more-short n w (first q l) a b c = (omega (arith, q, b), omega (arith, q, c, w.size_to))
lacks_no_more p disks short more_disks more-short n w (second k q l) a b c = (omega (arith, k, a), omega (arith, q, c))

module _ (unit t : ℕ) (s disks short : List ℕ) where
  module _ {n : Note} (h : if_room (plan_sheet unit t s 0) disks short ≡ refused n) where
    pub room_placed : (n.number ≡ 11 → ⊥) → n.place ≤ length s
    room_placed o =
        room_why disks short (plan_sheet unit t s 0) h (λ g. sheet_placed unit t s g)
        (λ p e _ g. absurd (o (room_lacks p e disks short g).0))

    pub room_wants : n.number ≡ 11 → Wants (plan_sheet unit t s 0) disks short n.place
    unfolding Answers
    room_wants q =
        room_why disks short (plan_sheet unit t s 0) h
        (λ g. let o : Answers {A = Plan} (refused n) = subst Answers g ((numbered_plan unit t).answers s 0) in absurd (o.1 q))
        (λ p e y g. record { plan = p; end = e; says = y; lacks = (room_lacks p e disks short g).1 })

    pub room_near : Bytes s → n.place ≤ place_most
    room_near b =
        room_why disks short (plan_sheet unit t s 0) h (λ g. sheet_near unit t s g)
        (λ p e y g. omega (
          arith,
          lacks_most p disks short n.place (sheet_exact s b unit t p e y).1 (room_lacks p e disks short g).1,
        ))

  pub room_enough : {n : ℕ} (more_disks more-short : List ℕ) → Bytes s → (w : Wants (plan_sheet unit t s 0) disks short n)
      → length disks ≤ length more_disks → n ≤ length more_disks → n ≤ length more-short
      → if_room (plan_sheet unit t s 0) more_disks more-short ≡ got w.plan w.end
  room_enough {n} more_disks more-short b w i j k =
      let y : InRange w.plan = (sheet_exact s b unit t w.plan w.end w.says).1 in
      let l = lacks_no_more w.plan disks short more_disks more-short n y w.lacks i j k in
      ap (λ (o : Out Plan). if_room o more_disks more-short) w.says
      ∙ room_both w.plan w.end more_disks more-short l.0 l.1

-- ---- what `read` answers

heads_refused : (o : Out Plan) {n : Note} → refused n ≡ heads o → o ≡ refused n
unfolding heads
heads_refused (got p e) h = absurd (not_refused (sym h))
heads_refused (refused m) h = cc

accepted_by : (bytes : ℕ) (x : Result Head Fault) {h : Head} {e : ℕ} → told_plan bytes x ≡ got h e → (k : Head) × (x ≡ Ok k)
accepted_by bytes (Ok k) q = (k, refl)
accepted_by bytes (Err f) q = absurd (not_refused (sym q))

module _ (unit t : ℕ) (s : List ℕ) {disks short disks' short' : List ℕ} {f : Fault}
    (r : Received (plan_sheet unit t s 0) (length s) disks short (Err f) disks' short') where
  read_refused : if_room (plan_sheet unit t s 0) disks short ≡ refused (note_of f)
  read_refused = heads_refused (if_room (plan_sheet unit t s 0) disks short) r.answer

  pub read_placed : (f.refusal ≡ NoRoom → ⊥) → f.place ≤ length s
  read_placed o = room_placed unit t s disks short read_refused (λ e. o (number_injective f.refusal NoRoom e))

  pub read_near : Bytes s → f.place ≤ place_most
  read_near b = room_near unit t s disks short read_refused b

  pub read_wants : f.refusal ≡ NoRoom → Wants (plan_sheet unit t s 0) disks short f.place
  read_wants q = room_wants unit t s disks short read_refused (ap number_of q)

  pub read_enough : Bytes s → f.refusal ≡ NoRoom → {more_disks more-short d m : List ℕ} {x : Result Head Fault}
      → length disks ≤ length more_disks
      → f.place ≤ length more_disks → f.place ≤ length more-short
      → Received (plan_sheet unit t s 0) (length s) more_disks more-short x d m → (h : Head) × (x ≡ Ok h)
  unfolding heads
  read_enough b q {more_disks} {more-short} {x = x} i j k v =
      accepted_by (length s) x (v.answer ∙ ap heads (room_enough unit t s disks short more_disks more-short b (read_wants q) i j k))

-- ---- what `write` answers

module _ (unit t : ℕ) (p : Plan) where
  pub roomless : Roomless (plan_draft unit t p)
  unfolding plan_draft Roomless
  roomless = pick_elim Roomless (counted p) _ _ (λ _. tt) (λ _ z. omega (arith, z))

  pub write_enough : (out out' : List ℕ) (f : Fault) (after : List ℕ) → Sent (plan_draft unit t p) out (Err f) after
      → f.refusal ≡ NoRoom → f.place ≤ length out' → answer_to (plan_draft unit t p) out' ≡ got tt f.place
  write_enough out out' f after w q l = sent_enough (plan_draft unit t p) out out' f after roomless w q l
