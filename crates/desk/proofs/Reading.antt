-- Laws of the plan reader.
--     plan_packable     Q, R and m of an accepted sheet, and its short set
--     packs     what is packed has room in its bits
--     plan_read, set_put, set_kept     what is answered, and what the two lists hold
use mathlib.Core.Path.{◌≡◌, refl, sym, ap, ◌∙◌, subst}
use mathlib.Core.Bool.{Bool}
use mathlib.Core.List.{List, [], ◌∷◌, ◌++◌}
use Prim.Native.Nat.{ℕ, ◌+◌, ◌*◌, ◌-◌, ◌/◌, ◌^◌, ◌≤◌, ◌<◌}
use native.Mathlib.Omega.{arith}
use borrow.Author.Tests.{le-leb, leb-true}
use lib.ListN.{length, take, drop, length-append}
use lib.Dec.{leb}
use lib.Seq.{take-take, length-take-le}
use Rattle.number.specs.Bytes.{Bytes}
use Rattle.basics.specs.Limits.{blocks_most, time_most}
use Rattle.basics.specs.Choice.{pick}
use Rattle.basics.proofs.Tests.{by_cases}
use Rattle.std.specs.Prelude.{Result, Ok, Err}
use Rattle.field.specs.declared.Fault.{Fault}
use Rattle.field.proofs.Unique.{not_refused}
use Rattle.field.specs.Put.{spell_all}
use Rattle.field.specs.Sheet.{Note, note, Out, got, refused}
use Rattle.basics.specs.Lists.{All, Rises}
use Rattle.plan.specs.declared.Head.{Head}
use Rattle.plan.specs.Plan.{Plan, plan_sheet}
use Rattle.plan.specs.Range.{InRange}
use Rattle.plan.specs.Receive.{if_room, heads, disks_left, short_left, Received}
use Rattle.basics.specs.Buffer.{over}
use Rattle.plan.specs.Told.{told_plan}
use Rattle.plan.proofs.Reading.{any_most}
use Rattle.basics.proofs.Buffer.{over_front}
use Rattle.plan.proofs.RoundTrip.{sheet_exact}
use Rattle.plan.proofs.Room.{room_disks, room_short, room_both, room_either}
use Rattle.plan.proofs.Placed.{read_near}
use Rattle.lent.specs.Numbers.{bytes_of, numbers, Room}
use Rattle.lent.specs.Packed.{reader_answer, FitsBits}
use Rattle.desk.specs.Desk.{plan_if_room, set_left, PlanRead}
use Rattle.lent.proofs.Numbers.{numbers_length}

-- ---- how large the values of an accepted sheet are

-- a plan whose values have room in their bits
pub record Packable (p : Plan) : Type 0 where
  pub blocks : length p.disks ≤ blocks_most
  pub time : p.time ≤ time_most
  pub size : length p.short ≤ blocks_most
  pub members : All (λ (b : ℕ). b < 256 ^ 2) p.short

below_all : (floor high : ℕ) (vs : List ℕ) → high < 256 ^ 2 → Rises floor high vs → All (λ (b : ℕ). b < 256 ^ 2) vs
unfolding Rises All
below_all floor high [] l r = tt
below_all floor high (v ∷ vs) l r = (omega (arith, r.1), below_all (v + 1) high vs l r.2)

pub plan_packable : (unit t : ℕ) (s : List ℕ) (p : Plan) (e : ℕ) → Bytes s → plan_sheet unit t s 0 ≡ got p e → Packable p
plan_packable unit t s p e b h =
    let r : InRange p = (sheet_exact s b unit t p e h).1 in
    record {
      blocks = r.few;
      time = omega (arith, r.time_to, any_most (length p.disks) time_most);
      size = omega (arith, r.size_to, r.few);
      members = below_all 0 (length p.disks - 1) p.short (omega (arith, r.few)) r.blocks;
    }

-- ---- room for a short set

leb_same : (m x y : ℕ) → (m ≤ x → m ≤ y) → (m ≤ y → m ≤ x) → leb m x ≡ leb m y
leb_same m x y f g =
    by_cases (leb m y)
    (λ t. le-leb m x (g (leb-true _ _ t)) ∙ sym t)
    (λ n. by_cases (leb m x) (λ t. t ∙ sym (le-leb m y (f (leb-true _ _ t)))) (λ k. k ∙ sym n))

room_alike : (o : Out Plan) (disks a b : List ℕ)
    → ((p : Plan) (e : ℕ) → o ≡ got p e → leb (length p.short) (length a) ≡ leb (length p.short) (length b))
    → if_room o disks a ≡ if_room o disks b
unfolding if_room
room_alike (refused n) disks a b h = refl
room_alike (got p e) disks a b h =
    ap (λ (x : Bool). pick (leb (length p.disks) (length disks))
    (pick x (got p e) (refused (note 11 (length p.short)))) (refused (note 11 (length p.disks)))) (h p e refl)

-- a list of 1,024 numbers has room for as many as any longer one
pub room_same : (unit t : ℕ) (s disks short set : List ℕ) → Bytes s → Room (length set / 2) (length short)
    → if_room (plan_sheet unit t s 0) disks short ≡ plan_if_room unit t s disks set
unfolding plan_if_room
room_same unit t s disks short set b r =
    room_alike (plan_sheet unit t s 0) disks short (numbers 2 set)
    (λ p e h.
    let k : length p.short ≤ blocks_most = (plan_packable unit t s p e b h).size in
    let n : length (numbers 2 set) ≡ length set / 2 = numbers_length 2 set in
    leb_same (length p.short) (length short) (length (numbers 2 set)) (λ x. omega (arith, r.below))
    (λ x. r.enough (length p.short) k (omega arith)))

-- what is handed out stands on the sheet
room_got : (o : Out Plan) (disks short : List ℕ) (p : Plan) (e : ℕ) → if_room o disks short ≡ got p e → o ≡ got p e
unfolding if_room
room_got (refused n) disks short p e h = absurd (not_refused (sym h))
room_got (got x n) disks short p e h =
    room_either x n disks short
    (λ l. absurd (not_refused (sym h ∙ room_disks x n disks short l)))
    (λ k l. absurd (not_refused (sym h ∙ room_short x n disks short k l)))
    (λ k l. sym (room_both x n disks short k l) ∙ h)

pub plan_packable_room : (unit t : ℕ) (s disks set : List ℕ) (p : Plan) (e : ℕ) → Bytes s → plan_if_room unit t s disks set ≡ got p e
    → Packable p
unfolding plan_if_room
plan_packable_room unit t s disks set p e b h = plan_packable unit t s p e b (room_got (plan_sheet unit t s 0) disks (numbers 2 set) p e h)

-- ---- the sheet is accepted

pub record Plans (unit t : ℕ) (s disks short : List ℕ) (h : Head) : Type 0 where
  pub plan : Plan
  pub end : ℕ
  pub is : if_room (plan_sheet unit t s 0) disks short ≡ got plan end
  pub range : Packable plan
  pub room : length plan.short ≤ length short
  pub blocks : h.blocks ≡ length plan.disks
  pub time : h.time ≡ plan.time
  pub size : h.size ≡ length plan.short

plans_of : (unit t : ℕ) (s disks short : List ℕ) (h : Head) (n : ℕ) (o : Out Plan) → Bytes s → plan_sheet unit t s 0 ≡ o
    → got h n ≡ heads (if_room o disks short) → Plans unit t s disks short h
unfolding if_room heads
plans_of unit t s disks short h n (refused m) b q w = absurd (not_refused w)
plans_of unit t s disks short h n (got p e) b q w =
    room_either p e disks short
    (λ l. absurd (not_refused (w ∙ ap heads (room_disks p e disks short l))))
    (λ k l. absurd (not_refused (w ∙ ap heads (room_short p e disks short k l))))
    (λ k l.
    let x : if_room (got p e) disks short ≡ got p e = room_both p e disks short k l in
    let v : got h n ≡ got (record { blocks = length p.disks; time = p.time; size = length p.short }) e = w ∙ ap heads x in
    let i : h ≡ record { blocks = length p.disks; time = p.time; size = length p.short } = cc in
    record {
      plan = p;
      end = e;
      is = ap (λ (z : Out Plan). if_room z disks short) q ∙ x;
      range = plan_packable unit t s p e b q;
      room = l;
      blocks = ap (λ (z : Head). z.blocks) i;
      time = ap (λ (z : Head). z.time) i;
      size = ap (λ (z : Head). z.size) i;
    })

-- what is packed has room in its bits
pub plans_small : {unit t : ℕ} {s disks short : List ℕ} {h : Head} → Plans unit t s disks short h → FitsBits (Ok h)
plans_small p = (omega (arith, p.blocks, p.range.blocks), omega (arith, p.time, p.range.time), omega (arith, p.size, p.range.size))

-- a part of so many numbers
pub room_part : (xs : List ℕ) {n k : ℕ} → Room n k → k ≤ length xs → Room n (length (take k xs))
room_part xs {n} {k} r h = subst (Room n) (sym (length-take-le k xs h)) r

-- the short set has room where it was read and where it goes
pub pairs_fit : (zeros ys set : List ℕ) (k : ℕ) {unit t : ℕ} {s disks : List ℕ} {h : Head} → Plans unit t s disks (take k zeros) h
    → Room (length set / 2) k → k ≤ length zeros → length ys ≡ length (take k zeros) → (h.size ≤ length (ys ++ drop k zeros))
    × (2 * h.size ≤ length set)
pairs_fit zeros ys set k p r l e =
    let n : length (take k zeros) ≡ k = length-take-le k zeros l in
    (omega (arith, length-append ys (drop k zeros), p.size, p.room), omega (arith, p.size, p.room, r.below))

-- a refusal leaves the short set as it was
unset : (o : Out Plan) (set : List ℕ) {n : Note} → refused n ≡ heads o → set ≡ set_left o set
unfolding heads set_left
unset (got p e) set h = absurd (not_refused (sym h))
unset (refused m) set h = refl

module _ (unit t : ℕ) (s : List ℕ) {disks short disks' short' : List ℕ} {a : Result Head Fault} (b : Bytes s)
    (g : Received (plan_sheet unit t s 0) (length s) disks short a disks' short') where
  pub accepted : {h : Head} → a ≡ Ok h → Plans unit t s disks short h
  accepted {h} e = plans_of unit t s disks short h (length s) (plan_sheet unit t s 0) b refl (ap (told_plan (length s)) (sym e) ∙ g.answer)

  -- what is packed has room in its bits; so has a refusal's place, whatever is lent
  pub packs : FitsBits a
  packs = packs_of a refl
    where
      packs_of : (x : Result Head Fault) → a ≡ x → FitsBits x
      packs_of (Ok h) e = plans_small (accepted e)
      packs_of (Err f) e =
          omega (
            arith,
            read_near unit t s
                (subst (λ (y : Result Head Fault). Received (plan_sheet unit t s 0) (length s) disks short y disks' short') e g) b,
          )

  module _ (set : List ℕ) (room : Room (length set / 2) (length short)) where
    same : if_room (plan_sheet unit t s 0) disks short ≡ plan_if_room unit t s disks set
    same = room_same unit t s disks short set b room

    -- the answer and the first list
    pub plan_read : {r : ℕ} {set' : List ℕ} → r ≡ reader_answer (told_plan (length s) a)
        → set' ≡ set_left (plan_if_room unit t s disks set) set → PlanRead unit t s disks set r disks' set'
    plan_read answer left = record {
      answer = answer ∙ ap reader_answer (g.answer ∙ ap heads same);
      blocks = g.blocks ∙ ap (λ (o : Out Plan). disks_left o disks) same;
      members = left;
    }

    -- the second list: the short set, or as it was
    pub set_put : (blocks : List ℕ) {h : Head} → a ≡ Ok h → take (length short) blocks ≡ short'
        → over (spell_all (bytes_of 2) (take h.size blocks)) set ≡ set_left (plan_if_room unit t s disks set) set
    unfolding set_left short_left
    set_put blocks {h} e held =
        let p : Plans unit t s disks short h = accepted e in
        let members : short' ≡ over p.plan.short short = g.members ∙ ap (λ (o : Out Plan). short_left o short) p.is in
        let first : take h.size blocks ≡ p.plan.short =
        sym (take-take h.size (length short) blocks (omega (arith, p.size, p.room)))
        ∙ ap (take h.size) (held ∙ members)
        ∙ over_front p.plan.short short h.size (sym p.size) in
        ap (λ (x : List ℕ). over (spell_all (bytes_of 2) x) set) first ∙ ap (λ (o : Out Plan). set_left o set) (sym p.is ∙ same)

    pub set_kept : {f : Fault} → a ≡ Err f → set ≡ set_left (plan_if_room unit t s disks set) set
    set_kept e = unset (plan_if_room unit t s disks set) set (ap (told_plan (length s)) (sym e) ∙ g.answer ∙ ap heads same)
