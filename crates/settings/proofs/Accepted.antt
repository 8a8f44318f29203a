-- What is known of an accepted sheet and of its table.
--     RowGot, row_steps, HeadGot, head_steps, SheetGot, sheet_steps     the fields of a row, of all before the rows, of a sheet
--     heading_disks        N is 1 to 64
--     number_range         the rule's number is 1 or 2
--     accepted_tenancy     its tenancy is not 0
--     rows_good, rows_held     its rows: N, in range, and the table's disks
--     accepted_kind        its kind
--     accepted_rule, rows_in_use, marks_none       of a kind but 6: its table has the rule that its kind says, and marks 0
--     accepted_proper, none_proper, proper_of, told_proper     the table of a sheet, of no settings, of either, of an answer is `Proper`
--     proper_length, proper_good, proper_zero      what that says: 64 rows, those of the disks in range, those beyond 0
use mathlib.Core.Path.{◌≡◌, refl, sym, ap, ◌∙◌, subst}
use mathlib.Core.Bool.{true, false}
use mathlib.Core.List.{List, []}
use Prim.Native.Nat.{ℕ, ◌≤◌, ◌<◌}
use native.Mathlib.Omega.{arith}
use lib.Dec.{eqb}
use lib.ListN.{length, get_or, get_or-eq_default}
use Rattle.std.specs.Prelude.{Ok}
use Rattle.basics.specs.Choice.{pick}
use Rattle.basics.specs.Limits.{disks_most, cost_most, load_most, delay_most}
use Rattle.basics.specs.Lists.{All}
use Rattle.basics.proofs.Choice.{pick_elim}
use Rattle.basics.proofs.Padded.{pad_length, pad_at, pad_front}
use Rattle.basics.proofs.Lists.{all_at}
use Rattle.basics.proofs.Tests.{below_or}
use Rattle.field.specs.Sheet.{Out, got, refused, ◌>>=◌, pure, times}
use Rattle.field.specs.Field.{opening, inside}
use Rattle.field.proofs.Sheet.{bind_got, pure_got}
use Rattle.field.proofs.Whole.{whole_got}
use Rattle.field.proofs.Opened.{opening_kind, opening_tenancy}
use Rattle.field.proofs.Values.{between_range, times_all}
use Rattle.model.specs.declared.Rule.{Rule}
use Rattle.model.specs.declared.Rule.TheVariants.{Sum}
use Rattle.settings.specs.declared.Head.{Head}
use Rattle.settings.specs.declared.Row.{Row}
use Rattle.settings.specs.declared.Table.{Table}
use Rattle.settings.specs.Kind.{kind_number, kind_in}
use Rattle.settings.specs.Row.{disk, no_disk, cost, load, delay, mark, row, in_range, all_in_range}
use Rattle.settings.specs.Table.{table, no_table, disk_rows, Proper}
use Rattle.settings.specs.Sheet.{kinds, rule_in, rule, heading, body, fields, settings_sheet}
use Rattle.settings.specs.Told.{table_of, Told}
use Rattle.settings.proofs.Alone.{alone_fits, fits_range}
use Rattle.settings.proofs.Rules.{kind_number_law, InUse}
use Rattle.settings.proofs.Rows.{Good, range_in, all_rows, rows_all}

-- ---- the fields of a row

pub record RowGot (k : ℕ) (s : List ℕ) (at : ℕ) (r : Row) (e : ℕ) : Type 0 where
  pub second : ℕ
  pub third : ℕ
  pub fourth : ℕ
  pub cost_got : cost s at ≡ got r.cost second
  pub load_got : load s second ≡ got r.load third
  pub delay_got : delay s third ≡ got r.delay fourth
  pub mark_got : mark k s fourth ≡ got r.mark e

module _ (k : ℕ) (s : List ℕ) (at : ℕ) (r : Row) (e : ℕ) (h : row k s at ≡ got r e) where
  pub row_steps : RowGot k s at r e
  unfolding row
  row_steps =
      let u = bind_got cost s at r e (λ c. load >>= λ l. delay >>= λ d. mark k >>= λ m. pure (disk c l d m)) h in
      let v = bind_got load s u.mid r e (λ l. delay >>= λ d. mark k >>= λ m. pure (disk u.found l d m)) u.last in
      let w = bind_got delay s v.mid r e (λ d. mark k >>= λ m. pure (disk u.found v.found d m)) v.last in
      let x = bind_got (mark k) s w.mid r e (λ m. pure (disk u.found v.found w.found m)) w.last in
      let p = pure_got _ r s _ e x.last in
      record {
        second = u.mid;
        third = v.mid;
        fourth = w.mid;
        cost_got = u.first ∙ ap (λ y. got y.cost u.mid) p.0;
        load_got = v.first ∙ ap (λ y. got y.load v.mid) p.0;
        delay_got = w.first ∙ ap (λ y. got y.delay w.mid) p.0;
        mark_got = x.first ∙ ap (λ y. got y.mark x.mid) p.0 ∙ ap (got r.mark) p.1;
      }

  -- a row that was read is in range
  pub row_good : Good r
  unfolding mark
  row_good =
      let w = row_steps in
      let a = between_range 1 cost_most 15 15 s at w.cost_got in
      range_in r (record {
        cost_low = a.0;
        cost_high = a.1;
        load_high = (between_range 0 load_most 15 15 s w.second w.load_got).1;
        delay_high = (between_range 0 delay_most 15 15 s w.third w.delay_got).1;
        mark_high = (fits_range (alone_fits (eqb k 6) 0 1 0 s w.fourth w.mark_got) (omega arith) (omega arith)).1;
      })

  -- of a kind but 6 its disk is in use
  row_in_use : eqb k 6 ≡ false → InUse r
  unfolding mark
  row_in_use f = (alone_fits (eqb k 6) 0 1 0 s row_steps.fourth row_steps.mark_got).said f

-- ---- the fields before the rows

pub record HeadGot (unit t : ℕ) (s : List ℕ) (at : ℕ) (h : Head) (e : ℕ) : Type 0 where
  pub number : ℕ
  pub fourth : ℕ
  pub fifth : ℕ
  pub opening_got : opening kinds unit t s at ≡ got (kind_number h.kind) fourth
  pub disks_got : inside 1 disks_most 6 s fourth ≡ got h.disks fifth
  pub rule_got : rule (kind_number h.kind) s fifth ≡ got number e
  pub rule_is : rule_in number ≡ h.rule

module _ (unit t : ℕ) (s : List ℕ) (at : ℕ) (h : Head) (e : ℕ) (f : heading unit t s at ≡ got h e) where
  pub head_steps : HeadGot unit t s at h e
  unfolding heading
  head_steps =
      let o = bind_got (opening kinds unit t) s at h e
      (λ k. inside 1 disks_most 6 >>= λ n. rule k >>= λ r. pure (record { kind = kind_in k; disks = n; rule = rule_in r })) f in
      let k = o.found in
      let n = bind_got (inside 1 disks_most 6) s o.mid h e
      (λ n. rule k >>= λ r. pure (record { kind = kind_in k; disks = n; rule = rule_in r })) o.last in
      let r = bind_got (rule k) s n.mid h e (λ r. pure (record { kind = kind_in k; disks = n.found; rule = rule_in r })) n.last in
      let p = pure_got _ h s _ e r.last in
      let is : k ≡ kind_number h.kind =
      sym (kind_number_law k (opening_kind unit t kinds s at o.first)) ∙ ap (λ x. kind_number x.kind) p.0 in
      record {
        number = r.found;
        fourth = o.mid;
        fifth = n.mid;
        opening_got = o.first ∙ ap (λ x. got x o.mid) is;
        disks_got = n.first ∙ ap (λ x. got x.disks n.mid) p.0;
        rule_got = ap (λ x. rule x s n.mid) (sym is) ∙ r.first ∙ ap (got r.found) p.1;
        rule_is = ap (λ x. x.rule) p.0;
      }

  pub heading_disks : (1 ≤ h.disks) × (h.disks ≤ disks_most)
  heading_disks = between_range 1 disks_most 6 6 s head_steps.fourth head_steps.disks_got

module _ {unit t : ℕ} {s : List ℕ} {at : ℕ} {h : Head} {e : ℕ} (w : HeadGot unit t s at h e) where
  pub number_range : (1 ≤ w.number) × (w.number ≤ 2)
  unfolding rule
  number_range =
      let said : ℕ = pick (eqb (kind_number h.kind) 5) 2 1 in
      fits_range (alone_fits (eqb (kind_number h.kind) 6) 1 2 said s w.fifth w.rule_got)
      (pick_elim (λ v. 1 ≤ v) (eqb (kind_number h.kind) 5) 2 1 (λ _. omega arith) (λ _. omega arith))
      (pick_elim (λ v. v ≤ 2) (eqb (kind_number h.kind) 5) 2 1 (λ _. omega arith) (λ _. omega arith))

-- ---- the fields of a sheet

pub record SheetGot (unit t : ℕ) (s : List ℕ) (T : Table) (e : ℕ) : Type 0 where
  pub front : Head
  pub rows : List Row
  pub sixth : ℕ
  pub front_got : HeadGot unit t s 0 front sixth
  pub rows_got : times front.disks (row (kind_number front.kind)) s sixth ≡ got rows e
  pub is : table front.disks front.rule rows ≡ T
  pub long : e ≡ length s

pub sheet_steps : (unit t : ℕ) (s : List ℕ) (T : Table) (e : ℕ) → settings_sheet unit t s 0 ≡ got T e → SheetGot unit t s T e
unfolding settings_sheet fields body
sheet_steps unit t s T e h =
    let g = whole_got (fields unit t) s T e h in
    let f = bind_got (heading unit t) s 0 T e body g.0 in
    let front = f.found in
    let k = bind_got (times front.disks (row (kind_number front.kind))) s f.mid T e
    (λ rows. pure (table front.disks front.rule rows)) f.last in
    let p = pure_got _ T s _ e k.last in
    record {
      front = front;
      rows = k.found;
      sixth = f.mid;
      front_got = head_steps unit t s 0 front f.mid f.first;
      rows_got = k.first ∙ ap (got k.found) p.1;
      is = p.0;
      long = g.1;
    }

-- no tenancy is 0
pub accepted_tenancy : (unit t : ℕ) (s : List ℕ) (T : Table) (e : ℕ) → settings_sheet unit t s 0 ≡ got T e → 0 < t
accepted_tenancy unit t s T e h = opening_tenancy unit t kinds s 0 (sheet_steps unit t s T e h).front_got.opening_got

-- ---- its table

module _ {unit t : ℕ} {s : List ℕ} {T : Table} {e : ℕ} (w : SheetGot unit t s T e) where
  -- N rows, all in range
  pub rows_good : (length w.rows ≡ w.front.disks) × All Good w.rows
  rows_good =
      let h = w.front in
      times_all (row (kind_number h.kind)) Good s (row_good (kind_number h.kind) s) h.disks w.sixth w.rows e w.rows_got

  pub rows_held : disk_rows T ≡ w.rows
  unfolding disk_rows table
  rows_held = ap disk_rows (sym w.is) ∙ pad_front no_disk disks_most w.rows w.front.disks rows_good.0

-- of a kind but 6
module _ {unit t : ℕ} {s : List ℕ} {T : Table} {e : ℕ} (w : SheetGot unit t s T e) (f : eqb (kind_number w.front.kind) 6 ≡ false) where
  -- the start rule that its kind says
  pub rule_said : T.rule ≡ rule_in (pick (eqb (kind_number w.front.kind) 5) 2 1)
  unfolding table rule
  rule_said =
      let k = kind_number w.front.kind in
      let g = w.front_got in
      ap (λ x. x.rule) (sym w.is) ∙ sym g.rule_is
      ∙ ap rule_in ((alone_fits (eqb k 6) 1 2 (pick (eqb k 5) 2 1) s g.fifth g.rule_got).said f)

  -- every disk is in use
  pub rows_in_use : All InUse w.rows
  rows_in_use =
      let h = w.front in
      (times_all (row (kind_number h.kind)) InUse s (λ at r n q. row_in_use (kind_number h.kind) s at r n q f) h.disks w.sixth w.rows e
      w.rows_got).1

  rows_marks : (i : ℕ) → (get_or T.rows i no_disk).mark ≡ 0
  unfolding table
  rows_marks i =
      ap (λ x. (get_or x.rows i no_disk).mark) (sym w.is) ∙ ap (λ x. x.mark) (pad_at no_disk disks_most w.rows i)
      ∙ below_or i (length w.rows) (λ l. all_at InUse w.rows rows_in_use i no_disk l)
      (λ l. ap (λ x. x.mark) (get_or-eq_default w.rows no_disk {n = i} l))

module _ (unit t : ℕ) (s : List ℕ) (T : Table) (e k m : ℕ) (h : settings_sheet unit t s 0 ≡ got T e)
    (o : opening kinds unit t s 0 ≡ got k m) where
  -- the kind of a sheet
  pub accepted_kind : kind_number (sheet_steps unit t s T e h).front.kind ≡ k
  accepted_kind =
      let f = (sheet_steps unit t s T e h).front_got in
      let same : got (kind_number (sheet_steps unit t s T e h).front.kind) f.fourth ≡ got k m = sym f.opening_got ∙ o in cc

  module _ (f : eqb k 6 ≡ false) where
    pub accepted_rule : T.rule ≡ rule_in (pick (eqb k 5) 2 1)
    accepted_rule =
        let w = sheet_steps unit t s T e h in
        rule_said w (ap (λ x. eqb x 6) accepted_kind ∙ f) ∙ ap (λ x. rule_in (pick (eqb x 5) 2 1)) accepted_kind

    pub marks_none : (i : ℕ) → (get_or T.rows i no_disk).mark ≡ 0
    marks_none i = rows_marks (sheet_steps unit t s T e h) (ap (λ x. eqb x 6) accepted_kind ∙ f) i

proper_table : (n : ℕ) (r : Rule) (rs : List Row) → length rs ≡ n → n ≤ disks_most → all_in_range rs ≡ true → Proper (table n r rs)
unfolding table
proper_table n r rs c f g = record { given = rs; count = c; few = f; good = g; held = refl }

-- N rows in range, at least one, and rows of 0 behind them
pub accepted_proper : (unit t : ℕ) (s : List ℕ) (T : Table) (e : ℕ) → settings_sheet unit t s 0 ≡ got T e → Proper T × (1 ≤ T.disks)
unfolding table
accepted_proper unit t s T e h =
    let w = sheet_steps unit t s T e h in
    let h = w.front in
    let n = between_range 1 disks_most 6 6 s w.front_got.fourth w.front_got.disks_got in
    let g = rows_good w in
    subst (λ (x : Table). Proper x × (1 ≤ x.disks)) w.is
    (proper_table h.disks h.rule w.rows g.0 n.1 (rows_all w.rows g.1), n.0)

-- no settings yet
pub none_proper : Proper no_table
unfolding no_table all_in_range
none_proper = proper_table 0 Sum [] refl (omega arith) refl

-- so are the table that was read and the one of a refused sheet
pub proper_of : (unit t : ℕ) (s : List ℕ) (o : Out Table) → settings_sheet unit t s 0 ≡ o → Proper (table_of o)
unfolding table_of
proper_of unit t s (got T e) h = (accepted_proper unit t s T e h).0
proper_of unit t s (refused n) h = none_proper

-- whatever table the reader answers is one that a unit may hold
pub told_proper : (unit t : ℕ) (s : List ℕ) {n : ℕ} {T : Table} → Told n (settings_sheet unit t s 0) (Ok T) → Proper T
told_proper unit t s {n} {T} w = (accepted_proper unit t s T n (sym w)).0

module _ {T : Table} (w : Proper T) where
  -- there are 64 rows
  pub proper_length : length T.rows ≡ disks_most
  proper_length = ap length w.held ∙ pad_length no_disk disks_most w.given (omega (arith, w.count, w.few))

  -- those below N are in range
  pub proper_good : (i : ℕ) → i < T.disks → in_range (get_or T.rows i no_disk) ≡ true
  proper_good i h =
      let l : i < length w.given = omega (arith, w.count) in
      ap (λ x. in_range (get_or x i no_disk)) w.held ∙ ap in_range (pad_at no_disk disks_most w.given i)
      ∙ all_at Good w.given (all_rows w.given w.good) i no_disk l

  -- the others are 0
  pub proper_zero : (i : ℕ) → T.disks ≤ i → get_or T.rows i no_disk ≡ no_disk
  proper_zero i h =
      ap (λ x. get_or x i no_disk) w.held ∙ pad_at no_disk disks_most w.given i
      ∙ get_or-eq_default w.given no_disk {n = i} (omega (arith, w.count))
