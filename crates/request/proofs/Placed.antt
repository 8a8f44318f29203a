-- Where a read request is refused, and what is enough where 11 is told.
--     sheet_placed, read_placed     a byte of the sheet, or its end
--     unset_placed     10 stands at the byte after the tenancy, whatever follows it
--     LastCopy, last_copy, read_last_copy     20 stands at the last copy of a block whose copies are all out: its last disk is the number
--         there, of one byte, and the block ends behind it
--     write_enough     a buffer of the length that 11 told
use mathlib.Core.Path.{◌≡◌, refl, sym, ap, ◌∙◌}
use mathlib.Core.Bool.{Bool, true, false}
use mathlib.Core.List.{List}
use Prim.Native.Nat.{ℕ, suc, ◌+◌, ◌-◌, ◌*◌, ◌≤◌, ◌<◌}
use native.Mathlib.Omega.{arith}
use borrow.Author.Tests.{eqb-false}
use lib.Dec.{eqb}
use lib.ListN.{length, get_or}
use Rattle.basics.specs.Limits.{disks_most, blocks_most, copies_most}
use Rattle.basics.specs.Lists.{All}
use Rattle.basics.proofs.Choice.{pick_elim}
use Rattle.field.specs.declared.Fault.{Fault}
use Rattle.field.specs.declared.Refusal.TheVariants.{NoRoom, AllOut}
use Rattle.std.specs.Prelude.{Err}
use Rattle.field.specs.Field.{number, between, ascending, opening as opened}
use Rattle.field.specs.Refusal.{number_of}
use Rattle.field.specs.Send.{answer_to, Sent}
use Rattle.field.specs.Sheet.{Note, got, refused, note, Parser, and_then, ◌>>=◌, ◌>>◌, pure, here, require, times}
use Rattle.field.proofs.Known.{Says, Refuses, Shared, says_after, refused_so, refuses_between, refuses_ascending}
use Rattle.field.proofs.OneByte.{ascending_last}
use Rattle.field.proofs.Sends.{Roomless, sent_enough}
use Rattle.field.proofs.Values.{between_range}
use Rattle.field.proofs.Within.{Within, within_bind, within_then, within_known, within_bounded, within_pure, within_more, within_number}
use Rattle.field.proofs.Within.{within_between, within_opening, within_due, within_times, within_ascending, within_whole, place_inside}
use Rattle.request.specs.declared.Head.{Head}
use Rattle.request.specs.Told.{Told}
use Rattle.request.specs.Request.{kinds, last_disk, used, block, opening, age, heading, body, request_sheet}
use Rattle.request.specs.Draft.{request_draft}
use Rattle.request.proofs.Accepted.{refused_sheet}
use Rattle.request.proofs.Known.{refuses_request}
use Rattle.request.proofs.Used.{unused_all}
use Rattle.request.proofs.Reading.{last_under, opening_unset, heading_stops, heading_within, sheet_stops}
use Rattle.request.proofs.Writing.{draft_elim}

-- ---- the places of a sheet

-- a test at the present place, and what follows it; it refuses there or before it
within_tested : {A : Type 0} {k : ℕ} (b : Bool) (m : ℕ) (f : ℕ → ℕ) → ((at : ℕ) → f at ≤ at) → {q : Parser A} → Within k q
    → Within k (here >>= λ at. require b (note m (f at)) >> q)
unfolding ◌>>=◌ ◌>>◌ here and_then
within_tested {k = k} b m f l w = within_more {j = 0 + k} (omega arith) (within_then (within_due b m f l) w)

-- the copy count and eight disks, five bytes each at the most
within_block : (high : ℕ) (out : ℕ → Bool) → Within ((1 + copies_most) * 5) (block high out)
unfolding block
within_block high out =
    within_more {j = 5 + copies_most * 5} (omega arith) (within_bounded {k = copies_most * 5} copies_most (within_between 1 copies_most 7 6)
    (λ s at k e h. (between_range 1 copies_most 7 6 s at h).1)
    (λ k l. within_more {j = k * 5 + 0} (omega arith) (within_bind (within_ascending k 0 high)
    (λ ds. within_tested (used out ds) 20 (λ next. next - 1) (λ next. omega arith) (within_pure _)))))

within_blocks : (q high : ℕ) (out : ℕ → Bool) → q ≤ blocks_most → Within (blocks_most * ((1 + copies_most) * 5)) (times q (block high out))
within_blocks q high out l = within_more (omega arith) (within_times q (within_block high out))

within_open : (unit t n : ℕ) → Within 15 (opening unit t n)
unfolding opening
within_open unit t n =
    within_bind {j = 15} {k = 0} (within_opening kinds unit t) (λ k. within_tested _ 10 (λ at. at) (λ at. omega arith) (within_pure k))

within_age : (k : ℕ) → Within 5 (age k)
unfolding age
within_age k =
    pick_elim (λ (p : Parser ℕ). Within 5 p) (eqb k 4) _ _ (λ _. within_number) (λ _. within_more (omega arith) (within_pure 0))

within_heading : (unit t n : ℕ) → Within 25 (heading unit t n)
unfolding heading
within_heading unit t n =
    within_bind {j = 15} (within_open unit t n) (λ k. within_bind {j = 5} (within_age k) (λ a.
    within_bind {j = 5} (within_between 0 blocks_most 6 6) (λ q. within_pure _)))

within_body : (h : Head) (high : ℕ) (out : ℕ → Bool) → h.blocks ≤ blocks_most
    → Within (blocks_most * ((1 + copies_most) * 5)) (body h high out)
unfolding body
within_body h high out l = within_more (omega arith) (within_bind (within_blocks h.blocks high out l) (λ ms. within_pure _))

pub within_sheet : (unit t n : ℕ) (out : ℕ → Bool) → Within (25 + blocks_most * ((1 + copies_most) * 5)) (request_sheet unit t n out)
unfolding request_sheet
within_sheet unit t n out =
    within_whole (within_known (λ h. h.blocks ≤ blocks_most) (within_heading unit t n) (λ s at h e w. heading_within unit t n s at w)
    (λ h l. within_body h (last_disk n) out l))

pub sheet_placed : (unit t n : ℕ) (out : ℕ → Bool) (s : List ℕ) {m : Note} → request_sheet unit t n out s 0 ≡ refused m
    → m.place ≤ length s
sheet_placed unit t n out s h = place_inside (within_sheet unit t n out) h

-- a unit without settings refuses behind the tenancy, before it looks at an age
pub unset_placed : (unit t : ℕ) (out : ℕ → Bool) (s : List ℕ) {k e : ℕ} → opened kinds unit t s 0 ≡ got k e
    → request_sheet unit t 0 out s 0 ≡ refused (note 10 e)
unset_placed unit t out s h = sheet_stops unit t 0 out s (heading_stops unit t 0 s (opening_unset unit t 0 s h refl))

-- the same of what `read` answers
pub read_placed : (unit t n : ℕ) (out : ℕ → Bool) (s : List ℕ) (k : ℕ) (f : Fault)
    → Told k (request_sheet unit t n out s 0) (Err f) → f.place ≤ length s
read_placed unit t n out s k f w = sheet_placed unit t n out s (refused_sheet k (request_sheet unit t n out s 0) f w)

-- ---- where all copies of a block are out

-- a block that stands at `at`, all of whose disks are out: the number at p is its last disk, and the block ends one byte on
pub record LastCopy (high : ℕ) (out : ℕ → Bool) (s : List ℕ) (p : ℕ) : Type 0 where
  pub at : ℕ
  pub count : ℕ
  pub mid : ℕ
  pub disks : List ℕ
  pub first : between 1 copies_most 7 6 s at ≡ got count mid
  pub rest : ascending count 0 high s mid ≡ got disks (p + 1)
  pub gone : All (λ d. out d ≡ true) disks
  pub last : number s p ≡ got (get_or disks (count - 1) 0) (p + 1)

-- of any refusal: if it is 20
abbrev IfTwenty : ℕ → (ℕ → Bool) → List ℕ → Note → Type 0
IfTwenty high out s n = n.number ≡ 20 → LastCopy high out s n.place

module _ (high : ℕ) (few : high < disks_most) (out : ℕ → Bool) where
  other : (m : ℕ) → eqb m 20 ≡ false → (s : List ℕ) (p : ℕ) → IfTwenty high out s (note m p)
  other m z s p q = absurd (eqb-false m 20 z q)

  others : Shared (IfTwenty high out)
  others = record {
    ends = other 1 refl;
    bad = other 2 refl;
    kind = other 3 refl;
    unit = other 4 refl;
    tenancy = other 5 refl;
    falls = other 8 refl;
    extra = other 9 refl;
    beyond = other 16 refl;
  }

  gone_at : (s : List ℕ) (at k mid : ℕ) (ds : List ℕ) (e : ℕ) → between 1 copies_most 7 6 s at ≡ got k mid
      → ascending k 0 high s mid ≡ got ds e → used out ds ≡ false → LastCopy high out s (e - 1)
  gone_at s at k mid ds e f r z =
      let some : 1 ≤ k = (between_range 1 copies_most 7 6 s at f).0 in
      let more : k ≡ suc (k - 1) = omega arith in
      let l = ascending_last high (omega arith) s (k - 1) 0 mid ds e (ap (λ (i : ℕ). ascending i 0 high s mid) (sym more) ∙ r) in
      let back : e ≡ e - 1 + 1 = omega (arith, l.0) in
      record {
        at = at;
        count = k;
        mid = mid;
        disks = ds;
        first = f;
        rest = r ∙ ap (got ds) back;
        gone = unused_all out ds z;
        last = l.1 ∙ ap (got (get_or ds (k - 1) 0)) back;
      }

  refuses_block : Refuses (IfTwenty high out) (block high out)
  unfolding block ◌>>=◌ ◌>>◌ here require pure
  refuses_block = record {
    answers = λ s at.
        says_after (IfTwenty high out s) (between 1 copies_most 7 6 s at) _
        ((refuses_between others 1 copies_most 7 6 (other 7 refl) (other 6 refl)).answers s at)
        (λ k mid f. says_after (IfTwenty high out s) (ascending k 0 high s mid) _ ((refuses_ascending others k 0 high).answers s mid)
        (λ ds e r. says_after (IfTwenty high out s) (require (used out ds) (note 20 (e - 1)) s e) _
        (pick_elim (Says (IfTwenty high out s)) (used out ds) _ _ (λ _. tt) (λ z _. gone_at s at k mid ds e f r z))
        (λ _ _ _. tt)));
  }

pub last_copy : (unit t n : ℕ) (out : ℕ → Bool) (s : List ℕ) {m : Note} → request_sheet unit t n out s 0 ≡ refused m → m.number ≡ 20
    → LastCopy (last_disk n) out s m.place
last_copy unit t n out s h =
    let few = last_under n in
    refused_so (refuses_request (others (last_disk n) few out) (other _ few out 6 refl)
    (other _ few out 10 refl) unit t n out (refuses_block (last_disk n) few out)) s 0 h

-- the same of what `read` answers
pub read_last_copy : (unit t n : ℕ) (out : ℕ → Bool) (s : List ℕ) (k : ℕ) (f : Fault)
    → Told k (request_sheet unit t n out s 0) (Err f) → f.refusal ≡ AllOut → LastCopy (last_disk n) out s f.place
read_last_copy unit t n out s k f w q =
    last_copy unit t n out s (refused_sheet k (request_sheet unit t n out s 0) f w) (ap number_of q)

-- ---- what is enough

module _ (k unit t a n : ℕ) (ms : List ℕ) where
  roomless : Roomless (request_draft k unit t a n ms)
  unfolding Roomless
  roomless = draft_elim Roomless (λ m own. own.1) k unit t a n ms tt

  pub write_enough : (out out' : List ℕ) (f : Fault) (after : List ℕ) → Sent (request_draft k unit t a n ms) out (Err f) after
      → f.refusal ≡ NoRoom → f.place ≤ length out' → answer_to (request_draft k unit t a n ms) out' ≡ got tt f.place
  write_enough out out' f after w q l = sent_enough (request_draft k unit t a n ms) out out' f after roomless w q l
