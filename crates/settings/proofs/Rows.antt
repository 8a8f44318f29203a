-- The rows of a sheet: their ranges, their bytes on a sheet of a kind, and the rows of four lists.
--     InRange, in_range_law, range_in      what the test of a row says
--     all_rows, rows_all               rows in range, by the test and one by one
--     marked_width     the bytes of a number that is a field of kind 6 alone
--     mark_small, row_most, row_most_law, rows_all_top     the most bytes of a mark, and of a row on a sheet of a kind
--     row_length, row_top, row_unfit, row_fit      the bytes of a row
--     rows_top, rows_most, rows_small              of rows
--     length_rows, rows_below, rows_end, row_of    the rows of four lists: how many, and each of them
--     if_some, if_none                             what stands where a test holds, or nothing
--     Sized, sized_start, sized_small, sized_step, sized_stop, sized_done      the loop that finds their length
use mathlib.Core.Path.{◌≡◌, refl, sym, ap, ◌∙◌}
use mathlib.Core.Bool.{Bool, true, false, ◌&&◌, and_assoc}
use mathlib.Core.List.{List, [], ◌∷◌, ◌++◌}
use Prim.Native.Nat.{ℕ, zero, suc, ◌+◌, ◌*◌, ◌≤◌, ◌<◌}
use native.Mathlib.Omega.{arith}
use native.Mathlib.Numerals.{add-one}
use borrow.Author.Tests.{le-leb, leb-true}
use lib.Dec.{eqb, leb}
use lib.ListN.{length, take, drop, get_or, length-append}
use lib.Seq.{take-suc, take_all, split_at, length-take-le}
use Rattle.basics.specs.Count.{bit}
use Rattle.basics.specs.Limits.{disks_most, cost_most, load_most, delay_most}
use Rattle.basics.specs.Lists.{All}
use Rattle.basics.specs.Choice.{pick}
use Rattle.basics.proofs.Choice.{pick_true, pick_false}
use Rattle.basics.proofs.Count.{bit_le}
use Rattle.std.specs.Prelude.{Some, None}
use Rattle.basics.proofs.Tests.{by_cases, not_here, and_left, and_right, and_both, second_false}
use Rattle.number.specs.Encode.{encode, width_of}
use Rattle.number.proofs.Encode.{width_top}
use Rattle.field.specs.Put.{spell_all, field_if}
use Rattle.field.proofs.Spell.{spell_more}
use Rattle.settings.specs.declared.Row.{Row}
use Rattle.settings.specs.Row.{disk, no_disk, in_range, all_in_range, marked_bytes, mark_bytes, row_bytes}
use Rattle.settings.specs.Draft.{rows_of}
use Rattle.settings.specs.Parts.{Level, row_width, rows_width}
use Rattle.settings.proofs.Alone.{alone_top}

-- ---- the test of a row

pub record InRange (r : Row) : Type 0 where
  pub cost_low : 1 ≤ r.cost
  pub cost_high : r.cost ≤ cost_most
  pub load_high : r.load ≤ load_most
  pub delay_high : r.delay ≤ delay_most
  pub mark_high : r.mark ≤ 1

pub in_range_law : (r : Row) → in_range r ≡ true → InRange r
unfolding in_range
in_range_law r h =
    let b = and_right (leb 1 r.cost) _ h in
    let d = and_right (leb r.cost cost_most) _ b in
    let e = and_right (leb r.load load_most) _ d in
    record {
      cost_low = leb-true _ _ (and_left (leb 1 r.cost) _ h);
      cost_high = leb-true _ _ (and_left (leb r.cost cost_most) _ b);
      load_high = leb-true _ _ (and_left (leb r.load load_most) _ d);
      delay_high = leb-true _ _ (and_left (leb r.delay delay_most) _ e);
      mark_high = leb-true _ _ (and_right (leb r.delay delay_most) _ e);
    }

pub range_in : (r : Row) → InRange r → in_range r ≡ true
unfolding in_range
range_in r w =
    and_both _ _ (le-leb _ _ w.cost_low)
    (and_both _ _ (le-leb _ _ w.cost_high)
    (and_both _ _ (le-leb _ _ w.load_high) (and_both _ _ (le-leb _ _ w.delay_high) (le-leb _ _ w.mark_high))))

-- ---- rows in range

abbrev pub Good : Row → Type 0
Good r = in_range r ≡ true

pub all_rows : (rs : List Row) → all_in_range rs ≡ true → All Good rs
unfolding All all_in_range
all_rows [] h = tt
all_rows (r ∷ rs) h = (and_left (in_range r) _ h, all_rows rs (and_right (in_range r) _ h))

pub rows_all : (rs : List Row) → All Good rs → all_in_range rs ≡ true
unfolding All all_in_range
rows_all [] h = refl
rows_all (r ∷ rs) h = and_both _ _ h.0 (rows_all rs h.1)

all_append : (xs ys : List Row) → all_in_range (xs ++ ys) ≡ (all_in_range xs && all_in_range ys)
unfolding all_in_range
all_append [] ys = refl
all_append (x ∷ xs) ys =
    ap (λ b. in_range x && b) (all_append xs ys) ∙ sym (and_assoc (in_range x) (all_in_range xs) (all_in_range ys))

module _ (rows : List Row) (i : ℕ) (h : i < length rows) where
  -- one that is not in range
  all_out : in_range (get_or rows i no_disk) ≡ false → all_in_range rows ≡ false
  unfolding all_in_range
  all_out f =
      ap all_in_range (split_at rows i no_disk h) ∙ all_append (take i rows) (get_or rows i no_disk ∷ drop (suc i) rows)
      ∙ second_false (all_in_range (take i rows)) (ap (λ b. b && all_in_range (drop (suc i) rows)) f)

  -- one more
  all_more : all_in_range (take i rows) ≡ true → in_range (get_or rows i no_disk) ≡ true → all_in_range (take (i + 1) rows) ≡ true
  unfolding all_in_range
  all_more a t =
      ap (λ n. all_in_range (take n rows)) (add-one i) ∙ ap all_in_range (take-suc rows i no_disk h)
      ∙ all_append (take i rows) (get_or rows i no_disk ∷ []) ∙ and_both _ _ a (and_both _ _ t refl)

-- ---- their bytes

-- ten bytes, and on a sheet of kind 6 one more
unfoldable pub row_most : ℕ → ℕ
row_most k = 10 + bit (eqb k 6)

-- as the width of a field that is there or not says it
pub marked_width : (k v : ℕ) {b : Bool} {n : ℕ} → b ≡ eqb k 6 → n ≡ length (field_if b v) → n ≡ length (marked_bytes k v)
unfolding marked_bytes
marked_width k v e w = w ∙ ap (λ (b : Bool). length (field_if b v)) e

-- a mark takes one byte at the most
pub mark_small : (k m : ℕ) → m ≤ 1 → length (mark_bytes k m) ≤ 1
unfolding marked_bytes
mark_small k m h = omega (arith, alone_top (eqb k 6) m (omega arith), bit_le (eqb k 6))

-- of so many rows, eleven at the most
pub row_most_law : (k n : ℕ) → n * row_most k ≤ n * 11
unfolding row_most bit
row_most_law k n = by_cases (eqb k 6) (λ t. rw t (omega arith)) (λ f. rw f (omega arith))

-- of 64 rows
pub rows_all_top : (k n : ℕ) → n ≤ disks_most → n * row_most k ≤ 640 + 64 * bit (eqb k 6)
unfolding row_most bit
rows_all_top k n h = by_cases (eqb k 6) (λ t. rw t (omega arith)) (λ f. rw f (omega arith))

module _ (k : ℕ) where
  pub row_length : (r : Row)
      → length (row_bytes k r) ≡ width_of r.cost + width_of r.load + width_of r.delay + length (mark_bytes k r.mark)
  unfolding row_bytes width_of
  row_length r =
      omega (
        arith,
        length-append (encode r.cost) (encode r.load ++ (encode r.delay ++ mark_bytes k r.mark)),
        length-append (encode r.load) (encode r.delay ++ mark_bytes k r.mark),
        length-append (encode r.delay) (mark_bytes k r.mark),
      )

  pub row_top : (r : Row) → in_range r ≡ true → length (row_bytes k r) ≤ row_most k
  unfolding row_most marked_bytes
  row_top r h =
      let w = in_range_law r h in
      let cost = width_top 2 r.cost (omega (arith, w.cost_high)) (omega (arith, w.cost_high)) in
      let load = width_top 3 r.load (omega (arith, w.load_high)) (omega (arith, w.load_high)) in
      let delay = width_top 2 r.delay (omega (arith, w.delay_high)) (omega (arith, w.delay_high)) in
      omega (arith, row_length r, alone_top (eqb k 6) r.mark (omega (arith, w.mark_high)))

  pub rows_top : (rows : List Row) → all_in_range rows ≡ true → length (spell_all (row_bytes k) rows) ≤ length rows * row_most k
  unfolding all_in_range spell_all
  rows_top [] h = omega arith
  rows_top (r ∷ rows) h =
      omega (
        arith,
        length-append (row_bytes k r) (spell_all (row_bytes k) rows),
        row_top r (and_left (in_range r) _ h),
        rows_top rows (and_right (in_range r) _ h),
      )

  pub rows_most : (rows : List Row) → all_in_range rows ≡ true → length (spell_all (row_bytes k) rows) ≤ length rows * 11
  rows_most rows h = omega (arith, rows_top rows h, row_most_law k (length rows))

  -- what its width says
  pub row_unfit : (r : Row) → (InRange r → ⊥) → None ≡ row_width k r
  unfolding row_width
  row_unfit r h = sym (pick_false _ _ (not_here (in_range r) (λ t. h (in_range_law r t))))

  pub row_fit : (r : Row) {a b d m : ℕ} → InRange r → a ≡ width_of r.cost → b ≡ width_of r.load → d ≡ width_of r.delay
      → m ≡ length (mark_bytes k r.mark) → Some (a + b + d + m) ≡ row_width k r
  unfolding row_width
  row_fit r {a} {b} {d} {m} w p q e f =
      let n : a + b + d + m ≡ length (row_bytes k r) = omega (arith, row_length r) in ap Some n ∙ sym (pick_true _ _ (range_in r w))

-- ---- what stands where a test holds, or nothing

pub if_some : (b : Bool) (x : ℕ) {y : ℕ} → pick b (Some x) None ≡ Some y → (b ≡ true) × (x ≡ y)
unfolding pick
if_some true x h = (refl, cc)
if_some false x h = absurd (let e : None ≡ Some _ = h in let z : ◌≡◌ {A = ℕ} 0 1 = cc in omega arith)

pub if_none : (b : Bool) (x : ℕ) → pick b (Some x) None ≡ None → b ≡ false
unfolding pick
if_none true x h = absurd (let e : Some x ≡ None = h in let z : ◌≡◌ {A = ℕ} 0 1 = cc in omega arith)
if_none false x h = refl

-- ---- the rows of four lists

level_rest : {c l d m : ℕ} {cs ls ds ms : List ℕ} → Level (c ∷ cs) (l ∷ ls) (d ∷ ds) (m ∷ ms) → Level cs ls ds ms
level_rest w = record { loads = omega (arith, w.loads); delays = omega (arith, w.delays); marks = omega (arith, w.marks) }

pub length_rows : (cs ls ds ms : List ℕ) → Level cs ls ds ms → length (rows_of cs ls ds ms) ≡ length cs
unfolding rows_of
length_rows [] ls ds ms w = refl
length_rows (c ∷ cs) [] ds ms w = absurd (omega (arith, w.loads))
length_rows (c ∷ cs) (l ∷ ls) [] ms w = absurd (omega (arith, w.delays))
length_rows (c ∷ cs) (l ∷ ls) (d ∷ ds) [] w = absurd (omega (arith, w.marks))
length_rows (c ∷ cs) (l ∷ ls) (d ∷ ds) (m ∷ ms) w = ap suc (length_rows cs ls ds ms (level_rest w))

pub row_of : (cs ls ds ms : List ℕ) (i : ℕ) → Level cs ls ds ms → i < length cs
    → disk (get_or cs i 0) (get_or ls i 0) (get_or ds i 0) (get_or ms i 0) ≡ get_or (rows_of cs ls ds ms) i no_disk
unfolding rows_of
row_of [] ls ds ms i w h = absurd (omega arith)
row_of (c ∷ cs) [] ds ms i w h = absurd (omega (arith, w.loads))
row_of (c ∷ cs) (l ∷ ls) [] ms i w h = absurd (omega (arith, w.delays))
row_of (c ∷ cs) (l ∷ ls) (d ∷ ds) [] i w h = absurd (omega (arith, w.marks))
row_of (c ∷ cs) (l ∷ ls) (d ∷ ds) (m ∷ ms) zero w h = refl
row_of (c ∷ cs) (l ∷ ls) (d ∷ ds) (m ∷ ms) (suc i) w h = row_of cs ls ds ms i (level_rest w) (omega arith)

module _ {cs ls ds ms : List ℕ} (fit : Level cs ls ds ms) where
  pub rows_below : {i : ℕ} → i < length cs → i < length (rows_of cs ls ds ms)
  rows_below h = omega (arith, length_rows cs ls ds ms fit)

  pub rows_end : {i : ℕ} → length cs ≤ i → length (rows_of cs ls ds ms) ≤ i
  rows_end h = omega (arith, length_rows cs ls ds ms fit)

  -- for 64 disks they have 704 bytes at the most
  pub rows_small : (k : ℕ) {n : ℕ} → length cs ≤ disks_most → Some n ≡ rows_width k (rows_of cs ls ds ms) → n ≤ 704
  unfolding rows_width
  rows_small k l e =
      let rows = rows_of cs ls ds ms in
      let w = if_some (all_in_range rows) (length (spell_all (row_bytes k) rows)) (sym e) in
      omega (arith, w.1, rows_most k rows w.0, length_rows cs ls ds ms fit)

-- ---- the loop that finds their length

pub record Sized (kind : ℕ) (rows : List Row) (i total : ℕ) : Type 0 where
  pub below : i ≤ length rows
  pub good : all_in_range (take i rows) ≡ true
  pub count : total ≡ length (spell_all (row_bytes kind) (take i rows))

pub sized_start : (kind : ℕ) (rows : List Row) → Sized kind rows 0 0
unfolding all_in_range spell_all
sized_start kind rows = record { below = omega arith; good = refl; count = refl }

module _ {kind : ℕ} {rows : List Row} {i total : ℕ} (w : Sized kind rows i total) where
  pub sized_done : length rows ≤ i → Some total ≡ rows_width kind rows
  unfolding rows_width
  sized_done h =
      let e : take i rows ≡ rows = take_all i rows h in
      ap Some (w.count ∙ ap (λ x. length (spell_all (row_bytes kind) x)) e) ∙ sym (pick_true _ _ (ap all_in_range (sym e) ∙ w.good))

  -- one row more
  module _ {r : Row} (h : i < length rows) (e : r ≡ get_or rows i no_disk) where
    pub sized_stop : None ≡ row_width kind r → None ≡ rows_width kind rows
    unfolding row_width rows_width
    sized_stop q = sym (pick_false _ _ (all_out rows i h (ap in_range (sym e) ∙ if_none (in_range r) _ (sym q))))

    -- of so many bytes
    module _ {k : ℕ} (q : Some k ≡ row_width kind r) where
      fits : (in_range r ≡ true) × (length (row_bytes kind r) ≡ k)
      unfolding row_width
      fits = if_some (in_range r) (length (row_bytes kind r)) (sym q)

      pub sized_small : total + k ≤ 11 * (i + 1)
      sized_small =
          omega (
            arith,
            w.count,
            rows_most kind (take i rows) w.good,
            length-take-le i rows w.below,
            fits.1,
            row_top kind r fits.0,
            row_most_law kind 1,
          )

      pub sized_step : Sized kind rows (i + 1) (total + k)
      sized_step = record {
        below = omega arith;
        good = all_more rows i h w.good (ap in_range (sym e) ∙ fits.0);
        count = omega (
          arith,
          w.count,
          fits.1,
          ap length (sym (spell_more (row_bytes kind) rows i no_disk h)),
          length-append (spell_all (row_bytes kind) (take i rows)) (row_bytes kind (get_or rows i no_disk)),
          ap (λ x. length (row_bytes kind x)) e,
        );
      }
