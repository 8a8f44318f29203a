-- Laws of writing a plan sheet.
--     spelt_none, width_more, numbers_bound     the numbers of a list, one after another
--     width_small, widths_small                    a width that was found is small
--     lists_bytes, bytes_parts                      the bytes of a sheet, part by part
--     heading_length, bytes_length  how many they are
--     draft, many_disks, many_members, long_sent, laid_sent     the draft in each case
--     numbers_length               how many the numbers of a sheet take
--     sheet_lays                   its parts, one behind the other
--     plan_drafted, sent_all, sent_none            a plan in range that is sent
use mathlib.Core.Path.{◌≡◌, refl, sym, ap, ◌∙◌, subst}
use mathlib.Core.List.{List, [], ◌∷◌, ◌++◌, append_assoc}
use Prim.Native.Nat.{ℕ, ◌+◌, ◌*◌, ◌≤◌, ◌<◌}
use native.Mathlib.Omega.{arith}
use lib.ListN.{length, take, get_or, length-append}
use Rattle.number.specs.Encode.{encode, width_of}
use Rattle.number.proofs.Encode.{width_one, width_bounds}
use Rattle.field.specs.Put.{spell_all, opening_bytes, Laid}
use Rattle.field.specs.Pen.{Puts, Lays}
use Rattle.field.specs.declared.Pen.{Pen}
use Rattle.field.proofs.Spell.{spell_append, spell_more, spell_bound}
use mathlib.Core.Bool.{false}
use borrow.Author.Tests.{le-leb, lt-leb}
use lib.Dec.{leb}
use Rattle.basics.proofs.Choice.{pick_true, pick_false}
use Rattle.basics.proofs.Tests.{and_both, first_false, second_false}
use Rattle.std.specs.Prelude.{Result, Ok, Err}
use Rattle.field.specs.declared.Refusal.TheVariants.{OutOfRange, NoRoom}
use Rattle.field.specs.Refusal.{fault_at, note_of}
use Rattle.field.specs.Sheet.{note, unplaced}
use Rattle.field.specs.Send.{Draft, sheet, none, Sent}
use Rattle.field.proofs.Pens.{lays_one, lays_join, lays_same}
use Rattle.field.proofs.Opened.{opening_length}
use Rattle.field.proofs.Sends.{sent_refused, sent_long, sent_fits, sent_bytes, sent_not}
use Rattle.plan.specs.Plan.{Plan}
use Rattle.plan.specs.Draft.{plan_numbers, plan_bytes, counted, plan_draft}
use Rattle.plan.specs.Parts.{numbers_of}
use Rattle.field.specs.declared.Fault.{Fault}
use Rattle.plan.specs.Range.{InRange}
use Rattle.basics.specs.Limits.{blocks_most}

-- ---- number after number of a list, whatever the numbers are spelt from

module _ {A : Type 0} (value : A → ℕ) where
  -- no number yet
  pub spelt_none : length (spell_all (λ x. encode (value x)) []) ≡ 0
  unfolding spell_all
  spelt_none = refl

  module _ (xs : List A) (i : ℕ) (x : A) (l : i < length xs) (is : x ≡ get_or xs i x) where
    one_more : spell_all (λ x. encode (value x)) (take i xs) ++ encode (value x) ≡ spell_all (λ x. encode (value x)) (take (i + 1) xs)
    one_more =
        ap (λ (y : A). spell_all (λ x. encode (value x)) (take i xs) ++ encode (value y)) is
        ∙ spell_more (λ x. encode (value x)) xs i x l

    -- one more: its width
    pub width_more : (n : ℕ) → n ≡ length (spell_all (λ x. encode (value x)) (take i xs))
        → n + width_of (value x) ≡ length (spell_all (λ x. encode (value x)) (take (i + 1) xs))
    unfolding width_of
    width_more n e =
        ap (λ (k : ℕ). k + length (encode (value x))) e
        ∙ sym (length-append (spell_all (λ x. encode (value x)) (take i xs)) (encode (value x))) ∙ ap length one_more

  -- five bytes at the most for each number
  pub numbers_bound : (xs : List A) → length (spell_all (λ x. encode (value x)) xs) ≤ 5 * length xs
  unfolding width_of
  numbers_bound xs = spell_bound (λ x. encode (value x)) 5 (λ x. (width_bounds (value x)).1) xs

-- a width that was found is small
pub width_small : (v r : ℕ) → r ≡ width_of v → r ≤ 5
width_small v r h = omega (arith, width_bounds v)

pub widths_small : (xs : List ℕ) (r : ℕ) → length xs ≤ blocks_most → r ≡ length (spell_all encode xs) → r ≤ 5 * blocks_most
widths_small xs r l h = omega (arith, numbers_bound (λ x. x) xs)

-- ---- the bytes, part by part

-- the fields before the disks
unfoldable pub heading_bytes : ℕ → ℕ → ℕ → ℕ → List ℕ
heading_bytes unit t q r = (opening_bytes 3 unit t ++ encode q) ++ encode r

-- what stands behind the time
unfoldable pub lists_bytes : Plan → List ℕ
lists_bytes p = spell_all encode p.disks ++ (encode (length p.short) ++ spell_all encode p.short)

-- the fields before the disks, then the disks, the size of the short set and its blocks
pub bytes_parts : (unit t : ℕ) (p : Plan) → heading_bytes unit t (length p.disks) p.time ++ lists_bytes p ≡ plan_bytes unit t p
unfolding plan_bytes plan_numbers spell_all opening_bytes heading_bytes lists_bytes
bytes_parts unit t p =
    let e : spell_all encode (p.disks ++ (length p.short ∷ p.short)) ≡ lists_bytes p =
    spell_append encode p.disks (length p.short ∷ p.short) in
    simp append_assoc (sym
    (ap (λ (z : List ℕ). encode 3 ++ (encode unit ++ (encode t ++ (encode (length p.disks) ++ (encode p.time ++ z))))) e))

-- how many they are
pub heading_length : (unit t q r : ℕ) → length (heading_bytes unit t q r) ≡ 1 + width_of unit + width_of t + width_of q + width_of r
unfolding heading_bytes width_of
heading_length unit t q r =
    omega (
      arith,
      length-append (opening_bytes 3 unit t ++ encode q) (encode r),
      length-append (opening_bytes 3 unit t) (encode q),
      opening_length 3 unit t,
      width_one 3 (omega arith),
    )

module _ (unit t : ℕ) (p : Plan) where
  pub bytes_length : length (plan_bytes unit t p) ≡ length (heading_bytes unit t (length p.disks) p.time)
      + length (spell_all encode p.disks) + width_of (length p.short) + length (spell_all encode p.short)
  unfolding lists_bytes width_of
  bytes_length =
      omega (
        arith,
        ap length (bytes_parts unit t p),
        length-append (heading_bytes unit t (length p.disks) p.time) (lists_bytes p),
        length-append (spell_all encode p.disks) (encode (length p.short) ++ spell_all encode p.short),
        length-append (encode (length p.short)) (spell_all encode p.short),
      )

  -- the sheet is there
  pub draft : length p.disks ≤ blocks_most → length p.short ≤ blocks_most → plan_draft unit t p ≡ sheet (plan_bytes unit t p)
  unfolding plan_draft counted
  draft k l = pick_true (sheet (plan_bytes unit t p)) (none (unplaced 6)) (and_both _ _ (le-leb _ _ k) (le-leb _ _ l))

  module _ (out : List ℕ) where
    none_sent : counted p ≡ false → Sent (plan_draft unit t p) out (Err (fault_at OutOfRange 0)) out
    unfolding plan_draft
    none_sent h = subst (λ (d : Draft). Sent d out (Err (fault_at OutOfRange 0)) out)
        (sym (pick_false (sheet (plan_bytes unit t p)) (none (unplaced 6)) h)) (sent_refused (fault_at OutOfRange 0) out)

    -- too many blocks, or too large a short set
    pub many_disks : blocks_most < length p.disks → Sent (plan_draft unit t p) out (Err (fault_at OutOfRange 0)) out
    unfolding counted
    many_disks h = none_sent (first_false _ (lt-leb _ _ h))

    pub many_members : blocks_most < length p.short → Sent (plan_draft unit t p) out (Err (fault_at OutOfRange 0)) out
    unfolding counted
    many_members h = none_sent (second_false (leb (length p.disks) blocks_most) (lt-leb _ _ h))

    module _ (k : length p.disks ≤ blocks_most) (l : length p.short ≤ blocks_most) where
      pub long_sent : {n : ℕ} → n ≡ length (plan_bytes unit t p) → length out < n
          → Sent (plan_draft unit t p) out (Err (fault_at NoRoom n)) out
      long_sent {n} e h =
          subst (λ (d : Draft). Sent d out (Err (fault_at NoRoom n)) out) (sym (draft k l)) (sent_long (plan_bytes unit t p) out e h)

    pub laid_sent : {after : List ℕ} {n : ℕ} → length p.disks ≤ blocks_most → length p.short ≤ blocks_most
        → Laid out 0 (plan_bytes unit t p) after n → Sent (plan_draft unit t p) out (Ok n) after
    laid_sent {after} {n} k l w = subst (λ (d : Draft). Sent d out (Ok n) after) (sym (draft k l)) (sent_fits w)

-- ---- part after part

module _ (hs ds bs : List ℕ) where
  numbers_spelt : spell_all encode (numbers_of hs ds bs)
      ≡ spell_all encode hs ++ (spell_all encode ds ++ (encode (length bs) ++ spell_all encode bs))
  unfolding spell_all
  numbers_spelt =
      spell_append encode hs (ds ++ (length bs ∷ bs))
      ∙ ap (λ (z : List ℕ). spell_all encode hs ++ z) (spell_append encode ds (length bs ∷ bs))

  pub numbers_length : length (spell_all encode (numbers_of hs ds bs))
      ≡ length (spell_all encode hs) + length (spell_all encode ds) + width_of (length bs) + length (spell_all encode bs)
  unfolding width_of
  numbers_length =
      ap length numbers_spelt ∙ omega (
        arith,
        length-append (spell_all encode hs) (spell_all encode ds ++ (encode (length bs) ++ spell_all encode bs)),
        length-append (spell_all encode ds) (encode (length bs) ++ spell_all encode bs),
        length-append (encode (length bs)) (spell_all encode bs),
      )

  pub sheet_lays : {first a b c last : Pen} → Lays (spell_all encode hs) first a → Lays (spell_all encode ds) a b
      → Puts (length bs) b c → Lays (spell_all encode bs) c last → Lays (spell_all encode (numbers_of hs ds bs)) first last
  sheet_lays w d f g = lays_same (sym numbers_spelt) (lays_join w (lays_join d (lays_join (lays_one f) g)))

-- ---- a plan in range

module _ (unit t : ℕ) (p : Plan) (r : InRange p) where
  pub plan_drafted : plan_draft unit t p ≡ sheet (plan_bytes unit t p)
  plan_drafted = draft unit t p r.few (omega (arith, r.few, r.size_to))

  module _ (out : List ℕ) where
    sheet_of : (x : Result ℕ Fault) (after : List ℕ) → Sent (plan_draft unit t p) out x after
        → Sent (sheet (plan_bytes unit t p)) out x after
    sheet_of x after w = subst (λ (d : Draft). Sent d out x after) plan_drafted w

    pub sent_all : (n : ℕ) (after : List ℕ) → Sent (plan_draft unit t p) out (Ok n) after → (n ≡ length (plan_bytes unit t p))
        × (take n after ≡ plan_bytes unit t p) × (n ≤ length out)
    sent_all n after w = sent_bytes (plan_bytes unit t p) out n after (sheet_of (Ok n) after w)

    pub sent_none : (e : Fault) (after : List ℕ) → Sent (plan_draft unit t p) out (Err e) after
        → (length out < length (plan_bytes unit t p)) × (note_of e ≡ note 11 (length (plan_bytes unit t p)))
    sent_none e after w = sent_not (plan_bytes unit t p) out e after (sheet_of (Err e) after w)
