-- The columns of a table: the cost of each disk and, at an age, its start, and 0 behind them.
--     wait_small, start_small     delay and what is left of the load are within 101 seconds, and so is every start
--     UpTo                        the columns are done up to a row: at the start, one row more, at the end
use mathlib.Core.Path.{◌≡◌, refl, sym, ap, ◌∙◌}
use mathlib.Core.Logic.{⊎_elim}
use mathlib.Core.List.{List, map}
use Prim.Native.Nat.{ℕ, ◌+◌, ◌≤◌, ◌<◌}
use native.Mathlib.Nat.{le_trans}
use native.Mathlib.Omega.{arith}
use borrow.Author.Count.{below_more}
use lib.ListN.{length, get_or, set, length-set, length-map, get_or-map, get_or-eq_default}
use lib.Seq.{get_or-set_same, get_or-set_other, get_or-take, length-take-le, ext_get_or}
use Rattle.basics.specs.Limits.{disks_most, start_most}
use Rattle.basics.specs.Padded.{pad_to}
use Rattle.basics.proofs.Padded.{pad_length, pad_at}
use Rattle.basics.proofs.Tests.{lt_or_le}
use Rattle.model.specs.declared.Rule.{Rule}
use Rattle.model.specs.Case.{left}
use Rattle.model.proofs.Capacity.{start_within}
use Rattle.model.proofs.Left.{left_most}
use Rattle.settings.specs.declared.Row.{Row}
use Rattle.settings.specs.declared.Table.{Table}
use Rattle.settings.specs.Row.{no_disk}
use Rattle.settings.specs.Table.{disk_rows, costs, Proper}
use Rattle.settings.proofs.Accepted.{proper_length, proper_good, proper_zero}
use Rattle.settings.proofs.Rows.{InRange, in_range_law}
use Rattle.planner.specs.Asked.{start_of}
use Rattle.planner.specs.Parts.{Columns}

-- ---- the rows of a table

abbrev row_at : Table → ℕ → Row
row_at t i = get_or t.rows i no_disk

module _ {t : Table} (w : Proper t) where
  pub count_disks : length (disk_rows t) ≡ t.disks
  unfolding disk_rows
  count_disks = length-take-le t.disks t.rows (omega (arith, proper_length w, w.few))

  pub row_in : (d : ℕ) → d < t.disks → InRange (row_at t d)
  row_in d l = in_range_law _ (proper_good w d l)

  pub wait_small : (age i : ℕ) → (row_at t i).delay + left age (row_at t i).load ≤ start_most
  wait_small age i =
      ⊎_elim
      (λ l. omega (arith, left_most age (row_at t i).load, (row_in i l).load_high, (row_in i l).delay_high))
      (λ l. rw (proper_zero w i l) (omega (arith, left_most age 0)))
      (lt_or_le i t.disks)

  pub start_small : (rule : Rule) (age i : ℕ) → start_of rule age (row_at t i) ≤ start_most
  unfolding start_of
  start_small rule age i = le_trans (start_within rule _ _) (wait_small age i)

  module _ (f : Row → ℕ) (z : f no_disk ≡ 0) where
    -- a column, by its row
    pub column_at : (i : ℕ) → get_or (map f (disk_rows t)) i 0 ≡ f (row_at t i)
    unfolding disk_rows
    column_at i =
        ap (get_or (map f (disk_rows t)) i) (sym z) ∙ get_or-map f (disk_rows t) i no_disk
        ∙ ap f (⊎_elim
        (λ l. get_or-take t.disks t.rows i no_disk l)
        (λ l. get_or-eq_default (disk_rows t) no_disk {n = i} (omega (arith, count_disks)) ∙ sym (proper_zero w i l))
        (lt_or_le i t.disks))

    column_whole : (xs : List ℕ) → length xs ≡ disks_most → ((i : ℕ) → i < disks_most → get_or xs i 0 ≡ f (row_at t i))
        → xs ≡ pad_to 0 disks_most (map f (disk_rows t))
    column_whole xs l h =
        let k : length (map f (disk_rows t)) ≤ disks_most = omega (arith, length-map (disk_rows t) f, count_disks, w.few) in
        ext_get_or 0 xs _ (l ∙ sym (pad_length 0 disks_most (map f (disk_rows t)) k)) λ i m.
        h i (omega (arith, l)) ∙ sym (column_at i) ∙ sym (pad_at 0 disks_most (map f (disk_rows t)) i)

-- ---- row by row

pub record UpTo (rule : Rule) (age : ℕ) (rows : List Row) (costs starts : List ℕ) (i : ℕ) : Type 0 where
  pub below : i ≤ disks_most
  pub costs_long : length costs ≡ disks_most
  pub starts_long : length starts ≡ disks_most
  pub cost : (k : ℕ) → k < i → get_or costs k 0 ≡ (get_or rows k no_disk).cost
  pub start : (k : ℕ) → k < i → get_or starts k 0 ≡ start_of rule age (get_or rows k no_disk)

pub upto_start : (rule : Rule) (age : ℕ) (rows : List Row) (costs starts : List ℕ) → length costs ≡ disks_most → length starts ≡ disks_most
    → UpTo rule age rows costs starts 0
upto_start rule age rows costs starts p q = record {
  below = omega arith;
  costs_long = p;
  starts_long = q;
  cost = λ k l. absurd (omega arith);
  start = λ k l. absurd (omega arith);
}

-- one entry more of a list that is written from the front
one_more : (f : ℕ → ℕ) (xs : List ℕ) (i v : ℕ) → i < length xs → v ≡ f i → ((k : ℕ) → k < i → get_or xs k 0 ≡ f k)
    → (k : ℕ) → k < i + 1 → get_or (set xs i v) k 0 ≡ f k
one_more f xs i v l e h =
    below_more (λ k. get_or (set xs i v) k 0 ≡ f k) i
    (λ k m. get_or-set_other xs i k v 0 (λ q. omega arith) ∙ h k m)
    (get_or-set_same xs i v 0 l ∙ e)

pub upto_step : {rule : Rule} {age : ℕ} {rows : List Row} {costs starts : List ℕ} {i : ℕ} (r : Row) (s : ℕ) → i < disks_most
    → r ≡ get_or rows i no_disk → s ≡ start_of rule age r → UpTo rule age rows costs starts i
    → UpTo rule age rows (set costs i r.cost) (set starts i s) (i + 1)
upto_step {rule} {age} {rows} {costs} {starts} {i} r s l e h w = record {
  below = omega arith;
  costs_long = length-set costs i r.cost ∙ w.costs_long;
  starts_long = length-set starts i s ∙ w.starts_long;
  cost = one_more (λ k. (get_or rows k no_disk).cost) costs i r.cost (omega (arith, w.costs_long)) (ap (λ x. x.cost) e) w.cost;
  start =
      one_more (λ k. start_of rule age (get_or rows k no_disk)) starts i s (omega (arith, w.starts_long)) (h ∙ ap (start_of rule age) e)
      w.start;
}

-- a row that is 0 starts at 0 by either rule and at every age
pub start_zero : (rule : Rule) (age : ℕ) → start_of rule age no_disk ≡ 0
unfolding start_of
start_zero rule age = omega (arith, start_within rule 0 (left age 0), left_most age 0)

pub upto_done : {t : Table} {age : ℕ} {cs ss : List ℕ} {i : ℕ} → Proper t → disks_most ≤ i → UpTo t.rule age t.rows cs ss i
    → Columns t age cs ss
unfolding costs
upto_done {t} {age} {cs} {ss} {i} f l w = record {
  costs_held = column_whole f (λ r. r.cost) refl cs w.costs_long (λ k m. w.cost k (omega arith));
  starts_held = column_whole f (start_of t.rule age) (start_zero t.rule age) ss w.starts_long (λ k m. w.start k (omega arith));
}
