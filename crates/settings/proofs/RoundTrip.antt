-- Reading what was written, and writing what was read.
--     reads_sheet           the bytes of a sheet are read as its table
--     read_sent             reading what was written of a kind gives the same values: the rule, and the rows with their marks
--     read_written, read_marked     the same of kinds 1 and 5, where all marks are 0, and of kind 6
--     write_accepted, write_unmarked     writing what the reader accepted gives the same bytes, by its kind; of kinds 1 and 5 without marks
--     written_accepted, written_unmarked     the same of the writer's buffer
use mathlib.Core.Path.{◌≡◌, refl, sym, ap, ap₂, ◌∙◌}
use mathlib.Core.Bool.{true, false}
use mathlib.Core.List.{List, [], ◌∷◌, ◌++◌, map}
use Prim.Native.Nat.{ℕ, ◌^◌, ◌≤◌, ◌<◌}
use native.Mathlib.Omega.{arith}
use lib.Dec.{eqb}
use lib.ListN.{length, take, replicate, length-map}
use Rattle.basics.specs.Buffer.{over}
use Rattle.basics.specs.Choice.{pick}
use Rattle.basics.specs.Limits.{disks_most, cost_most, load_most, delay_most}
use Rattle.basics.specs.Lists.{All}
use Rattle.number.specs.Bytes.{Bytes}
use Rattle.number.specs.Encode.{encode}
use Rattle.std.specs.Prelude.{Result, Ok}
use Rattle.field.specs.declared.Fault.{Fault}
use Rattle.field.specs.Put.{spell_all, opening_bytes}
use Rattle.field.specs.Send.{sheet, Sent}
use Rattle.field.specs.Sheet.{got}
use Rattle.field.specs.Field.{opening}
use Rattle.field.proofs.Read.{Reads, reads_bind, reads_pure, reads_checked, reads_between, reads_whole}
use Rattle.field.proofs.Spelt.{Spelt, spelt_join, spelt_whole, between_spelt}
use Rattle.field.proofs.Opened.{reads_opening, opening_spelt, opening_kind}
use Rattle.field.proofs.Sends.{sent_sheet, sent_room}
use Rattle.field.proofs.Lists.{reads_times, times_spelt}
use Rattle.model.specs.declared.Rule.{Rule}
use Rattle.model.specs.Rule.{rule_number}
use Rattle.settings.specs.declared.Row.{Row}
use Rattle.settings.specs.declared.Table.{Table}
use Rattle.settings.specs.Kind.{kind_number, kind_in}
use Rattle.settings.specs.Row.{mark, row, all_in_range, marked_bytes, row_bytes}
use Rattle.settings.specs.Table.{table, costs, loads, delays, marks}
use Rattle.settings.specs.Sheet.{kinds, rule_in, rule, heading, body, fields, settings_sheet}
use Rattle.settings.specs.Draft.{rows_of, kind_of, rule_bytes, heading_bytes, sheet_bytes}
use Rattle.settings.specs.Draft.{sheet_draft, settings_draft, marked_draft}
use Rattle.settings.proofs.Alone.{reads_alone, alone_spelt}
use Rattle.settings.proofs.Rules.{rule_number_law, number_rule, kind_number_law, kind_small, kind_rule, InUse, Says, says_rule, says_marked}
use Rattle.settings.proofs.Rows.{Good, in_range_law, all_rows, rows_all}
use Rattle.settings.proofs.Writing.{ListsFit, draft_sheet, drafted}
use Rattle.settings.proofs.Accepted.{row_steps, row_good, sheet_steps, number_range, accepted_tenancy}
use Rattle.settings.proofs.Accepted.{rows_held, accepted_kind, accepted_rule, rows_in_use}

-- ---- reading what was written

-- a row that a sheet of a kind can say
abbrev Sayable : ℕ → Row → Type 0
Sayable k r = Good r × (eqb k 6 ≡ false → InUse r)

all_sayable : (k : ℕ) (rows : List Row) → All Good rows → (eqb k 6 ≡ false → All InUse rows) → All (Sayable k) rows
unfolding All
all_sayable k [] g u = tt
all_sayable k (r ∷ rows) g u = ((g.0, λ f. (u f).0), all_sayable k rows g.1 (λ f. (u f).1))

reads_row : (k : ℕ) (r : Row) → Sayable k r → Reads (row k) (row_bytes k r) r
unfolding row row_bytes mark marked_bytes
reads_row k r h =
    let w = in_range_law r h.0 in
    reads_bind _ (reads_between 1 cost_most 15 15 r.cost w.cost_low w.cost_high (omega (arith, w.cost_high)))
    (reads_bind _ (reads_between 0 load_most 15 15 r.load (omega arith) w.load_high (omega (arith, w.load_high)))
    (reads_bind _ (reads_between 0 delay_most 15 15 r.delay (omega arith) w.delay_high (omega (arith, w.delay_high)))
    (reads_checked _ (reads_alone (eqb k 6) 0 1 0 r.mark
    (record { ranged = λ _. (omega arith, w.mark_high); said = h.1 }) (omega arith)) (reads_pure r))))

module _ (k unit t r : ℕ) (rows : List Row) (u : unit < 2 ^ 32) (v : t < 2 ^ 32) (rented : 0 < t) (some : 1 ≤ length rows)
    (few : length rows ≤ disks_most) (low : 1 ≤ r) (high : r ≤ 2) (good : all_in_range rows ≡ true) (says : Says k r rows) where
  reads_heading : Reads (heading unit t) (heading_bytes k unit t (length rows) r)
      (record { kind = kind_in k; disks = length rows; rule = rule_in r })
  unfolding heading heading_bytes rule marked_bytes
  reads_heading =
      reads_bind _ (reads_opening unit t u rented v kinds k says.taken (omega (arith, kind_small k says.taken)))
      (reads_bind _ (reads_between 1 disks_most 6 6 (length rows) some few (omega arith))
      (reads_checked _ (reads_alone (eqb k 6) 1 2 (pick (eqb k 5) 2 1) r
      (record { ranged = λ _. (low, high); said = says.rule }) (omega arith)) (reads_pure _)))

  pub reads_sheet : settings_sheet unit t (sheet_bytes k unit t r rows) 0
      ≡ got (table (length rows) (rule_in r) rows) (length (sheet_bytes k unit t r rows))
  unfolding settings_sheet fields body sheet_bytes
  reads_sheet =
      reads_whole
      (reads_bind _ reads_heading
      (reads_checked _ (rw (kind_number_law k says.taken) (reads_times (row k) (row_bytes k) (Sayable k) (reads_row k) rows
      (all_sayable k rows (all_rows rows good) says.marks))) (reads_pure (table (length rows) (rule_in r) rows))))

-- the writer was told this rule and these costs, loads, delays and marks, and the reader finds them in the table
pub read_sent : (k unit t r : ℕ) (cs ls ds ms out : List ℕ) (n : ℕ) (after : List ℕ) → Says k r (rows_of cs ls ds ms)
    → unit < 2 ^ 32 → t < 2 ^ 32 → Sent (sheet_draft k unit t r cs ls ds ms) out (Ok n) after
    → settings_sheet unit t (take n after) 0 ≡ got (table (length cs) (rule_in r) (rows_of cs ls ds ms)) n
read_sent k unit t r cs ls ds ms out n after says u v w =
    let b = sent_sheet (sheet_draft k unit t r cs ls ds ms) out n after w in
    let d = drafted k unit t r cs ls ds ms b.0 b.1 in
    let s = d.0 in
    let f = s.fit in
    let long = s.long in
    ap (λ x. settings_sheet unit t x 0) (b.3 ∙ d.1)
    ∙ reads_sheet k unit t r (rows_of cs ls ds ms) u v f.rented (omega (arith, f.some)) (omega (arith, f.few)) s.low s.high
    s.good says
    ∙ ap (λ m. got (table m (rule_in r) (rows_of cs ls ds ms)) (length (sheet_bytes k unit t r (rows_of cs ls ds ms)))) long
    ∙ ap (got (table (length cs) (rule_in r) (rows_of cs ls ds ms))) (ap length (sym d.1) ∙ sym b.2)

pub read_written : (r : Rule) (unit t : ℕ) (cs ls ds out : List ℕ) (n : ℕ) (after : List ℕ) → unit < 2 ^ 32 → t < 2 ^ 32
    → Sent (settings_draft r unit t cs ls ds) out (Ok n) after
    → settings_sheet unit t (take n after) 0 ≡ got (table (length cs) r (rows_of cs ls ds (replicate (length cs) 0))) n
unfolding settings_draft
read_written r unit t cs ls ds out n after u v w =
    read_sent (kind_of r) unit t (rule_number r) cs ls ds (replicate (length cs) 0) out n after (says_rule r cs ls ds) u v w
    ∙ ap (λ x. got (table (length cs) x (rows_of cs ls ds (replicate (length cs) 0))) n) (rule_number_law r)

pub read_marked : (unit t r : ℕ) (cs ls ds ms out : List ℕ) (n : ℕ) (after : List ℕ) → unit < 2 ^ 32 → t < 2 ^ 32
    → Sent (marked_draft unit t r cs ls ds ms) out (Ok n) after
    → settings_sheet unit t (take n after) 0 ≡ got (table (length cs) (rule_in r) (rows_of cs ls ds ms)) n
read_marked unit t r cs ls ds ms out n after = read_sent 6 unit t r cs ls ds ms out n after (says_marked r (rows_of cs ls ds ms))

-- ---- writing what was read

row_spelt : (k : ℕ) (s : List ℕ) → Bytes s → (at : ℕ) (r : Row) (e : ℕ) → row k s at ≡ got r e → Spelt s at e (row_bytes k r) × Good r
unfolding row_bytes mark marked_bytes
row_spelt k s b at r e h =
    let w = row_steps k s at r e h in
    let d = between_spelt s b w.third 0 delay_most 15 15 w.delay_got in (
      spelt_join (between_spelt s b at 1 cost_most 15 15 w.cost_got).0
          (spelt_join (between_spelt s b w.second 0 load_most 15 15 w.load_got).0
          (spelt_join d.0 (alone_spelt (eqb k 6) 0 1 0 s b w.fourth d.0.within w.mark_got))),
      row_good k s at r e h,
    )

-- four lists of rows, put together again
rows_again : (rs : List Row)
    → rows_of (map (λ r. r.cost) rs) (map (λ r. r.load) rs) (map (λ r. r.delay) rs) (map (λ r. r.mark) rs) ≡ rs
unfolding rows_of
rows_again [] = refl
rows_again (r ∷ rs) = ap (λ x. r ∷ x) (rows_again rs)

-- a draft of a rule's number and rows that are in range is their sheet
draft_rows : (k unit t r : ℕ) (rs : List Row) → 0 < t → 1 ≤ length rs → length rs ≤ disks_most → 1 ≤ r → r ≤ 2 → all_in_range rs ≡ true
    → sheet_draft k unit t r (map (λ x. x.cost) rs) (map (λ x. x.load) rs) (map (λ x. x.delay) rs) (map (λ x. x.mark) rs)
    ≡ sheet (sheet_bytes k unit t r rs)
draft_rows k unit t r rs rented some few low high good =
    let c = length-map rs (λ x. x.cost) in
    let fit : ListsFit t (map (λ x. x.cost) rs) (map (λ x. x.load) rs) (map (λ x. x.delay) rs) (map (λ x. x.mark) rs) =
    record {
      rented = rented;
      level = record {
        loads = length-map rs (λ x. x.load) ∙ sym c;
        delays = length-map rs (λ x. x.delay) ∙ sym c;
        marks = length-map rs (λ x. x.mark) ∙ sym c;
      };
      some = omega arith;
      few = omega arith;
    } in
    (draft_sheet k unit t r _ _ _ _ fit low high (ap all_in_range (rows_again rs) ∙ good)).is
    ∙ ap (λ x. sheet (sheet_bytes k unit t r x)) (rows_again rs)

-- rows in use have marks 0
marks_zero : (rs : List Row) → All InUse rs → map (λ r. r.mark) rs ≡ replicate (length rs) 0
unfolding All
marks_zero [] h = refl
marks_zero (r ∷ rs) h = ap₂ (λ x xs. x ∷ xs) h.0 (marks_zero rs h.1)

module _ (unit t : ℕ) (s : List ℕ) (T : Table) (e k m : ℕ) (b : Bytes s) (h : settings_sheet unit t s 0 ≡ got T e)
    (o : opening kinds unit t s 0 ≡ got k m) where
  -- the draft of an accepted table, of the sheet's kind and with the rule's number, is the sheet that was read
  pub write_accepted : sheet_draft k unit t (rule_number T.rule) (costs T) (loads T) (delays T) (marks T) ≡ sheet s
  unfolding table costs loads delays marks sheet_bytes heading_bytes rule marked_bytes
  write_accepted =
      let w = sheet_steps unit t s T e h in
      let f = w.front in
      let kind = kind_number f.kind in
      let g = w.front_got in
      let i = number_range g in
      let n = between_spelt s b g.fourth 1 disks_most 6 6 g.disks_got in
      let r = alone_spelt (eqb kind 6) 1 2 (pick (eqb kind 5) 2 1) s b g.fifth n.0.within g.rule_got in
      let p = times_spelt (row kind) (row_bytes kind) Good s (row_spelt kind s b) f.disks w.sixth w.rows e
      r.within w.rows_got in
      let same : s ≡ sheet_bytes kind unit t g.number w.rows =
      spelt_whole s e _ w.long
      (spelt_join (spelt_join (opening_spelt unit t kinds s 0 g.opening_got b).0 (spelt_join n.0 r)) p.0)
      ∙ ap
      (λ x. (opening_bytes kind unit t ++ (encode x ++ rule_bytes kind g.number)) ++ spell_all (row_bytes kind) w.rows)
      (sym p.1) in
      let number : rule_number T.rule ≡ g.number =
      ap (λ x. rule_number x.rule) (sym w.is) ∙ ap rule_number (sym g.rule_is) ∙ number_rule g.number i.0 i.1 in
      ap₂ (λ x y. sheet_draft x unit t y (costs T) (loads T) (delays T) (marks T)) (sym (accepted_kind unit t s T e k m h o)) number
      ∙ ap (λ x. sheet_draft kind unit t g.number (map (λ y. y.cost) x) (map (λ y. y.load) x) (map (λ y. y.delay) x)
      (map (λ y. y.mark) x)) (rows_held w)
      ∙ draft_rows kind unit t g.number w.rows (accepted_tenancy unit t s T e h) (omega (arith, n.1, p.1))
      (omega (arith, n.2, p.1))
      i.0 i.1 (rows_all w.rows p.2)
      ∙ ap sheet (sym same)

  -- of a kind but 6 it is the draft of the rule, the costs, the loads and the delays
  pub write_unmarked : eqb k 6 ≡ false → settings_draft T.rule unit t (costs T) (loads T) (delays T) ≡ sheet s
  unfolding settings_draft costs marks
  write_unmarked f =
      let w = sheet_steps unit t s T e h in
      let used = rows_in_use w (ap (λ x. eqb x 6) (accepted_kind unit t s T e k m h o) ∙ f) in
      let kind : kind_of T.rule ≡ k =
      ap kind_of (accepted_rule unit t s T e k m h o f) ∙ kind_rule k (opening_kind unit t kinds s 0 o) f in
      let zeros : replicate (length (costs T)) 0 ≡ marks T =
      ap (λ x. replicate (length (map (λ y. y.cost) x)) 0) (rows_held w) ∙ ap (λ n. replicate n 0) (length-map w.rows (λ y. y.cost))
      ∙ sym (marks_zero w.rows used) ∙ ap (map (λ y. y.mark)) (sym (rows_held w)) in
      ap₂ (λ x y. sheet_draft x unit t (rule_number T.rule) (costs T) (loads T) (delays T) y) kind zeros ∙ write_accepted

  -- with room for it, the writer of its kind leaves the same bytes
  pub written_accepted : (out : List ℕ) (r : Result ℕ Fault) (after : List ℕ) → length s ≤ length out
      → Sent (sheet_draft k unit t (rule_number T.rule) (costs T) (loads T) (delays T) (marks T)) out r after
      → (r ≡ Ok (length s)) × (after ≡ over s out)
  written_accepted out r after l w = sent_room out r after write_accepted l w

  pub written_unmarked : eqb k 6 ≡ false → (out : List ℕ) (r : Result ℕ Fault) (after : List ℕ) → length s ≤ length out
      → Sent (settings_draft T.rule unit t (costs T) (loads T) (delays T)) out r after
      → (r ≡ Ok (length s)) × (after ≡ over s out)
  written_unmarked f out r after l w = sent_room out r after (write_unmarked f) l w
