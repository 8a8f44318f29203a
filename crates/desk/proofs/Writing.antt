-- Laws of the writers: settings by a start rule, settings with marks, and requests.
--     Plain, Answerable             what a writer may answer: a refusal without a place, or a length of 32 bits
--     short_sent                    so its length and its place have room in their bits
--     exported                      what a writer did, packed
--     sent_six, sent_as             a list that is no list of numbers; another name of a draft
--     costs_unusable, loads_unusable, delays_unusable, rows_unusable     lists that are broken or too long
--     costs_usable, loads_usable, delays_usable     lists of which none is
--     settings_unusable, marked_unusable, marks_unusable     they are 6
--     settings_usable, marked_usable     else the sheet is that of the numbers
--     tenancy_broken, tenancy_whole     the tenancy that the request's writer takes
--     request_few, request_whole, request_refused     what was judged of a request's fields before the blocks
--     sheet_drafted, settings_drafted, request_drafted     every draft is answerable
--     settings_answerable, marked_answerable, request_answerable     of bytes too
use mathlib.Core.Path.{◌≡◌, refl, sym, ap, ◌∙◌, subst}
use mathlib.Core.Bool.{Bool, true, false}
use mathlib.Core.Logic.{◌⊎◌, inl, inr, ⊎_elim}
use mathlib.Core.List.{List}
use Prim.Native.Nat.{ℕ, ◌/◌, ◌%◌, ◌≤◌, ◌<◌}
use native.Mathlib.Omega.{arith}
use borrow.Author.Tests.{lt-ltb, le-ltb}
use lib.Dec.{eqb}
use lib.ListN.{length, take, replicate}
use Rattle.basics.specs.Choice.{pick}
use Rattle.basics.specs.Limits.{disks_most, blocks_most}
use Rattle.basics.specs.Buffer.{over}
use Rattle.basics.proofs.Choice.{pick_true, pick_false, pick_elim}
use Rattle.basics.proofs.Count.{bit_le}
use Rattle.basics.proofs.Tests.{by_cases, both, differ, or_left, or_right}
use Rattle.field.specs.declared.Fault.{Fault}
use Rattle.field.specs.declared.Refusal.TheVariants.{OutOfRange}
use Rattle.std.specs.Prelude.{Result, Ok, Err}
use Rattle.field.specs.Refusal.{fault_at, note_of}
use Rattle.field.specs.Send.{Draft, sheet, none, told_written, answer_to, Sent}
use Rattle.field.specs.Sheet.{Note, refused, unplaced}
use Rattle.field.proofs.Known.{Known, Own, own_six, own_fifteen}
use Rattle.field.proofs.Unique.{not_refused}
use Rattle.field.proofs.Sends.{sent_bytes, sent_not, sent_refused}
use Rattle.model.specs.declared.Rule.{Rule}
use Rattle.settings.specs.Draft.{kind_of, sheet_draft, settings_draft, marked_draft}
use Rattle.settings.proofs.Longest.{longest_written as longest_settings}
use Rattle.settings.proofs.Rules.{kind_listed, kind_small}
use Rattle.settings.proofs.Writing.{ListsFit, unfit_lists}
use Rattle.request.specs.Draft.{request_draft}
use Rattle.request.specs.Judged.{Judged}
use Rattle.request.proofs.Writing.{draft_elim, judged_got}
use Rattle.request.proofs.Longest.{longest_written as longest_request}
use Rattle.lent.specs.Numbers.{numbers, broken, usable}
use Rattle.lent.specs.Packed.{lengths, writer_answer, Fits32}
use Rattle.desk.specs.Desk.{broken_rows, settings_draft_of_bytes, marked_draft_of_bytes}
use Rattle.desk.specs.Desk.{tenancy_with, request_draft_of_bytes, Exported}
use Rattle.desk.specs.Parts.{usable_rows}
use Rattle.lent.proofs.Numbers.{numbers_length}
use Rattle.lent.proofs.Over.{part_numbers}
use Rattle.lent.proofs.Tests.{is_usable, not_usable}

-- ---- a length and a place have room in their bits

-- why there is no sheet: a refusal of the table, not 11, and at no place of a sheet
pub record Plain (e : Note) : Type 0 where
  pub known : Known e.number
  pub other : e.number ≡ 11 → ⊥
  pub nowhere : e.place ≡ 0

unfoldable pub Answerable : Draft → Type 0
Answerable (sheet bs) = length bs < lengths
Answerable (none e) = Plain e

-- so what is told, a length or a place, is of 32 bits
pub short_sent : (d : Draft) (out : List ℕ) (w : Result ℕ Fault) (after : List ℕ) → Sent d out w after → Answerable d → Fits32 w
unfolding answer_to Answerable
short_sent (none k) out (Err f) after s few =
    let q : refused (note_of f) ≡ refused k = s.answer in let m : note_of f ≡ k = cc in
    omega (arith, ap (λ (x : Note). x.place) m, few.nowhere)
short_sent (none k) out (Ok n) after s few = absurd (not_refused s.answer)
short_sent (sheet bs) out (Err f) after s few = omega (arith, ap (λ (x : Note). x.place) (sent_not bs out f after s).1, few)
short_sent (sheet bs) out (Ok n) after s few = omega (arith, (sent_bytes bs out n after s).0, few)

-- what a writer did, packed
pub exported : {d : Draft} {out : List ℕ} {w : Result ℕ Fault} {r : ℕ} {after : List ℕ} → Sent d out w after
    → r ≡ writer_answer (told_written w) → Exported d out r after
exported s a = record { answer = a ∙ ap writer_answer s.answer; held = s.held }

plain : {n : ℕ} → Own n → Plain (unplaced n)
plain o = record { known = o.0; other = o.1; nowhere = refl }

-- ---- lists of costs, loads and delays

-- a list that is no list of numbers: 6, and nothing has changed
pub sent_six : {d : Draft} (out : List ℕ) {w : Result ℕ Fault} {f : Fault} → w ≡ Err f → f ≡ fault_at OutOfRange 0
    → d ≡ none (unplaced 6) → Sent d out w out
sent_six out q k e = rw (q, k, e) (sent_refused (fault_at OutOfRange 0) out)

-- another name of a draft
pub sent_as : {d e : Draft} {out : List ℕ} {w : Result ℕ Fault} {after : List ℕ} → d ≡ e → Sent e out w after → Sent d out w after
sent_as {out = out} {w = w} {after = after} q s = subst (λ (x : Draft). Sent x out w after) (sym q) s

-- lists of which one is broken, or that are no lists of a sheet
abbrev Unusable : ℕ → List ℕ → List ℕ → List ℕ → List ℕ → Type 0
Unusable t costs loads delays ms =
    (broken_rows costs loads delays ≡ true) ⊎ (ListsFit t (numbers 4 costs) (numbers 4 loads) (numbers 4 delays) ms → ⊥)

module _ (t : ℕ) (costs loads delays ms : List ℕ) where
  pub costs_unusable : usable 4 disks_most costs ≡ false → Unusable t costs loads delays ms
  unfolding broken_rows
  costs_unusable h =
      ⊎_elim (λ b. inl (or_left (broken 4 costs) _ b)) (λ m. inr (λ w. omega (arith, w.few))) (not_usable 4 disks_most costs h)

  pub loads_unusable : usable 4 disks_most loads ≡ false → Unusable t costs loads delays ms
  unfolding broken_rows
  loads_unusable h =
      ⊎_elim (λ b. inl (or_right (broken 4 costs) _ (or_left (broken 4 loads) _ b)))
      (λ m. inr (λ w. omega (arith, w.few, w.level.loads)))
      (not_usable 4 disks_most loads h)

  pub delays_unusable : usable 4 disks_most delays ≡ false → Unusable t costs loads delays ms
  unfolding broken_rows
  delays_unusable h =
      ⊎_elim (λ b. inl (or_right (broken 4 costs) _ (or_right (broken 4 loads) _ b)))
      (λ m. inr (λ w. omega (arith, w.few, w.level.delays)))
      (not_usable 4 disks_most delays h)

  -- one of them
  pub rows_unusable : usable_rows costs loads delays ≡ false → Unusable t costs loads delays ms
  rows_unusable h =
      by_cases (usable 4 disks_most costs)
      (λ c. by_cases (usable 4 disks_most loads)
      (λ l. delays_unusable (sym (rw (c, l) refl) ∙ h))
      loads_unusable)
      costs_unusable

-- lists of which each is usable
module _ (costs loads delays : List ℕ) (h : usable_rows costs loads delays ≡ true) where
  pub costs_usable : usable 4 disks_most costs ≡ true
  costs_usable = (both (usable 4 disks_most costs) _ h).0

  pub loads_usable : usable 4 disks_most loads ≡ true
  loads_usable = (both (usable 4 disks_most loads) _ (both (usable 4 disks_most costs) _ h).1).0

  pub delays_usable : usable 4 disks_most delays ≡ true
  delays_usable = (both (usable 4 disks_most loads) _ (both (usable 4 disks_most costs) _ h).1).1

-- 6 before the rest, or among it
six_either : (b : Bool) (d : Draft) → (b ≡ true) ⊎ (d ≡ none (unplaced 6)) → pick b (none (unplaced 6)) d ≡ none (unplaced 6)
six_either b d h = pick_elim (λ (x : Draft). x ≡ none (unplaced 6)) b _ _ (λ _. refl) (λ f. ⊎_elim (λ t. absurd (differ t f)) (λ e. e) h)

sheet_unfit : (k unit t r : ℕ) {cs ls ds ms : List ℕ} → (ListsFit t cs ls ds ms → ⊥)
    → sheet_draft k unit t r cs ls ds ms ≡ none (unplaced 6)
unfolding sheet_draft
sheet_unfit k unit t r f = pick_false _ _ (sym (unfit_lists f))

-- lists that are usable: the sheet is that of their numbers
abbrev Listed : List ℕ → List ℕ → Type 0
Listed bytes xs = (usable 4 disks_most bytes ≡ true) × (xs ≡ numbers 4 bytes)

pub listed : (bytes : List ℕ) {xs ys : List ℕ} → Listed bytes xs → ys ≡ xs → Listed bytes ys
listed bytes l e = (l.0, e ∙ l.1)

module _ (costs loads delays : List ℕ) {xs ys zs : List ℕ} (c : Listed costs xs) (l : Listed loads ys) (d : Listed delays zs) where
  rows_whole : broken_rows costs loads delays ≡ false
  unfolding broken_rows
  rows_whole = rw ((is_usable 4 disks_most costs c.0).0, (is_usable 4 disks_most loads l.0).0) (is_usable 4 disks_most delays d.0).0

  pub settings_usable : (r : Rule) (unit t : ℕ)
      → settings_draft_of_bytes r unit t costs loads delays ≡ settings_draft r unit t xs ys zs
  unfolding settings_draft_of_bytes
  settings_usable r unit t = pick_false _ _ rows_whole ∙ rw (sym c.1, sym l.1, sym d.1) refl

  pub marked_usable : (marks : List ℕ) {vs : List ℕ} → Listed marks vs → (unit t r : ℕ)
      → marked_draft_of_bytes unit t r costs loads delays marks ≡ marked_draft unit t r xs ys zs vs
  unfolding marked_draft_of_bytes
  marked_usable marks m unit t r =
      pick_false _ _ (rw rows_whole (is_usable 4 disks_most marks m.0).0) ∙ rw (sym c.1, sym l.1, sym d.1, sym m.1) refl

-- and lists that are not
module _ (r : Rule) (unit t : ℕ) (costs loads delays : List ℕ) where
  pub settings_unusable : Unusable t costs loads delays (replicate (length (numbers 4 costs)) 0)
      → settings_draft_of_bytes r unit t costs loads delays ≡ none (unplaced 6)
  unfolding settings_draft_of_bytes settings_draft
  settings_unusable h = six_either _ _ (⊎_elim (λ b. inl b) (λ f. inr (sheet_unfit _ unit t _ f)) h)

module _ (unit t r : ℕ) (costs loads delays marks : List ℕ) where
  pub marked_unusable : Unusable t costs loads delays (numbers 4 marks)
      → marked_draft_of_bytes unit t r costs loads delays marks ≡ none (unplaced 6)
  unfolding marked_draft_of_bytes
  marked_unusable h =
      six_either _ _
      (⊎_elim (λ b. inl (or_left (broken_rows costs loads delays) _ b)) (λ f. inr (sheet_unfit 6 unit t r f)) h)

  pub marks_unusable : usable 4 disks_most marks ≡ false → marked_draft_of_bytes unit t r costs loads delays marks ≡ none (unplaced 6)
  unfolding marked_draft_of_bytes
  marks_unusable h =
      six_either _ _ (⊎_elim (λ b. inl (or_right (broken_rows costs loads delays) _ b))
      (λ m. inr (sheet_unfit 6 unit t r (λ w. omega (arith, w.few, w.level.marks))))
      (not_usable 4 disks_most marks h))

-- no settings sheet has more than 717 bytes
pub sheet_drafted : (k unit t r : ℕ) (cs ls ds ms : List ℕ) → k < 128 → Answerable (sheet_draft k unit t r cs ls ds ms)
unfolding sheet_draft Answerable
sheet_drafted k unit t r cs ls ds ms small =
    pick_elim Answerable _ _ _
    (λ f. pick_elim Answerable _ _ _
    (λ g. omega (arith, longest_settings k unit t r cs ls ds ms _ small (pick_true _ _ f ∙ pick_true _ _ g), bit_le (eqb k 6)))
    (λ _. plain own_fifteen))
    (λ _. plain own_six)

pub settings_drafted : (r : Rule) (unit t : ℕ) (cs ls ds : List ℕ) → Answerable (settings_draft r unit t cs ls ds)
unfolding settings_draft
settings_drafted r unit t cs ls ds = sheet_drafted (kind_of r) unit t _ cs ls ds _ (kind_small (kind_of r) (kind_listed r))

-- ---- lists of copy numbers

-- document 02's longest read request has 9,234 bytes
pub request_drafted : (k unit t a n : ℕ) (ms : List ℕ) → Answerable (request_draft k unit t a n ms)
unfolding Answerable
request_drafted k unit t a n ms =
    draft_elim (λ (d : Draft). request_draft k unit t a n ms ≡ d → Answerable d) (λ m own _. plain own) k unit t a n ms
    (λ h. omega (arith, longest_request k unit t a n ms _ h)) refl

module _ (t : ℕ) (copies : List ℕ) where
  pub tenancy_broken : 0 < length copies % 8 → 0 ≡ tenancy_with t copies
  unfolding tenancy_with broken
  tenancy_broken h = sym (pick_true _ _ (lt-ltb 0 (length copies % 8) h))

  pub tenancy_whole : length copies % 8 ≤ 0 → t ≡ tenancy_with t copies
  unfolding tenancy_with broken
  tenancy_whole h = sym (pick_false _ _ (le-ltb 0 (length copies % 8) h))

  -- one that is not 0 is the request's own
  tenancy_own : (tenancy_with t copies ≡ 0 → ⊥) → tenancy_with t copies ≡ t
  unfolding tenancy_with
  tenancy_own h = by_cases (broken 8 copies) (λ b. absurd (h (pick_true _ _ b))) (λ w. pick_false _ _ w)

-- ---- of bytes

pub settings_answerable : (r : Rule) (unit t : ℕ) (costs loads delays : List ℕ)
    → Answerable (settings_draft_of_bytes r unit t costs loads delays)
unfolding settings_draft_of_bytes Answerable
settings_answerable r unit t costs loads delays = pick_elim Answerable _ _ _ (λ _. plain own_six) (λ _. settings_drafted r unit t _ _ _)

pub marked_answerable : (unit t r : ℕ) (costs loads delays marks : List ℕ)
    → Answerable (marked_draft_of_bytes unit t r costs loads delays marks)
unfolding marked_draft_of_bytes Answerable
marked_answerable unit t r costs loads delays marks =
    pick_elim Answerable _ _ _ (λ _. plain own_six) (λ _. sheet_drafted 6 unit t r _ _ _ _ (omega arith))

pub request_answerable : (k unit t a n : ℕ) (copies : List ℕ) → Answerable (request_draft_of_bytes k unit t a n copies)
unfolding request_draft_of_bytes
request_answerable k unit t a n copies = request_drafted k unit (tenancy_with t copies) a n (numbers 8 copies)

-- ---- what was judged of a request before its list was read

fields : (k t a n : ℕ) (copies : List ℕ) {u : ℕ} (v : Result Unit Fault) → u ≡ tenancy_with t copies → Judged k u a n (length copies / 8) v
    → Judged k (tenancy_with t copies) a n (length (numbers 8 copies)) v
fields k t a n copies v e j = rw (numbers_length 8 copies, sym e) j

module _ (k t a n : ℕ) (copies : List ℕ) {u : ℕ} (e : u ≡ tenancy_with t copies) where
  -- accepted: the list is not too long, and whole
  module _ (j : Judged k u a n (length copies / 8) (Ok tt)) where
    pub request_few : length copies / 8 ≤ blocks_most
    request_few = (judged_got k u a n (length copies / 8) j).count

    pub request_whole : (unit : ℕ) (xs : List ℕ) → xs ≡ over (numbers 8 copies) (replicate blocks_most 0)
        → request_draft_of_bytes k unit t a n copies ≡ request_draft k unit t a n (take (length copies / 8) xs)
    unfolding request_draft_of_bytes
    request_whole unit xs h =
        ap (λ (x : ℕ). request_draft k unit x a n (numbers 8 copies))
        (tenancy_own t copies
        (judged_got k (tenancy_with t copies) a n (length (numbers 8 copies)) (fields k t a n copies (Ok tt) e j)).rented)
        ∙ ap (request_draft k unit t a n) (sym (part_numbers 8 copies _ xs h))

  -- refused: so is the draft
  pub request_refused : (unit : ℕ) (out : List ℕ) {w : Result ℕ Fault} {f : Fault} → w ≡ Err f → Judged k u a n (length copies / 8) (Err f)
      → Sent (request_draft_of_bytes k unit t a n copies) out w out
  unfolding request_draft_of_bytes request_draft
  request_refused unit out {f = f} q j =
      rw (q, fields k t a n copies (Err f) e j _) (sent_refused f out)
