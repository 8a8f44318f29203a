-- Laws of the reader.
--     told_by_law                                             what an answer told
--     row_got, row_first, row_second, row_third, row_fourth     a row, and the fields at which it may stop
--     rule_got, rule_none                                     the rule's number as a field
--     heading_got, heading_stops, heading_out, heading_rule     all before the rows, and the fields at which it may stop
--     Rows, rows_start, slots_length, rows_step, rows_stop, rows_extra, rows_told     the loop over the rows
--     read_told, read_stops                                   how the reader ends
use mathlib.Core.Path.{◌≡◌, refl, sym, ap, ap₂, ◌∙◌}
use mathlib.Core.List.{List, [], ◌∷◌, ◌++◌, append-nil}
use Prim.Native.Nat.{ℕ, ◌+◌, ◌-◌, ◌≤◌, ◌<◌}
use native.Mathlib.Omega.{arith}
use lib.ListN.{length, set, take, drop, replicate, length-append}
use Rattle.std.proofs.lemmas.List.{drop-replicate}
use Rattle.basics.proofs.Lists.{take_replicate}
use Rattle.basics.specs.Limits.{disks_most}
use Rattle.basics.specs.Padded.{pad_to}
use Rattle.basics.proofs.Padded.{pad_length, pad_set}
use Rattle.std.specs.Prelude.{◌≢◌}
use Rattle.basics.proofs.Tests.{below_or}
use Rattle.field.specs.Sheet.{Note, note, Out, got, refused, pure, times}
use Rattle.field.specs.Field.{number, opening, inside, end, whole}
use Rattle.field.proofs.Readers.{between_got, between_above, between_under}
use Rattle.field.proofs.Sheet.{next, then, stops, halts}
use Rattle.field.proofs.Whole.{whole_next, whole_stops, end_place}
use Rattle.field.proofs.Lists.{prefix, times_start, times_step, times_stop, times_done}
use Rattle.model.specs.declared.Rule.{Rule}
use Rattle.model.specs.Rule.{rule_number}
use Rattle.settings.specs.declared.Head.{Head}
use Rattle.settings.specs.declared.Kind.{Kind}
use Rattle.settings.specs.Kind.{kind_number}
use Rattle.settings.proofs.Rules.{rule_number_law, rule_range, kind_again}
use Rattle.settings.specs.declared.Row.{Row}
use Rattle.settings.specs.declared.Table.{Table}
use Rattle.settings.specs.Row.{disk, no_disk, cost, load, delay, mark, row}
use Rattle.settings.specs.Table.{table, no_table}
use Rattle.settings.specs.Sheet.{kinds, rule, heading, body, fields, settings_sheet}

-- what is known of an answer says what it told
pub told_by_law : {A B : Type 0} (tell : A → B) {x y : A} {o : B} → tell x ≡ o → x ≡ y → o ≡ tell y
told_by_law tell h q = sym h ∙ ap tell q

-- ---- a row

module _ (k : ℕ) (s : List ℕ) (at : ℕ) where
  pub row_first : {m : Note} → cost s at ≡ refused m → row k s at ≡ refused m
  unfolding row
  row_first f = stops cost _ s at f

  module _ {c a : ℕ} (f : cost s at ≡ got c a) where
    pub row_second : {m : Note} → load s a ≡ refused m → row k s at ≡ refused m
    unfolding row
    row_second g = next cost _ s at f ∙ stops load _ s a g

    module _ {l b : ℕ} (g : load s a ≡ got l b) where
      pub row_third : {m : Note} → delay s b ≡ refused m → row k s at ≡ refused m
      unfolding row
      row_third h = next cost _ s at f ∙ next load _ s a g ∙ stops delay _ s b h

      module _ {d e : ℕ} (h : delay s b ≡ got d e) where
        pub row_fourth : {m : Note} → mark k s e ≡ refused m → row k s at ≡ refused m
        unfolding row
        row_fourth i = next cost _ s at f ∙ next load _ s a g ∙ next delay _ s b h ∙ stops (mark k) _ s e i

        pub row_got : {m n : ℕ} → mark k s e ≡ got m n → row k s at ≡ got (disk c l d m) n
        unfolding row pure
        row_got i = next cost _ s at f ∙ next load _ s a g ∙ next delay _ s b h ∙ next (mark k) _ s e i

-- ---- the rule's number, where it is a field

module _ (s : List ℕ) (at : ℕ) {n e : ℕ} (h : number s at ≡ got n e) where
  pub rule_got : (r : Rule) → rule_number r ≡ n → inside 1 2 15 s at ≡ got (rule_number r) e
  rule_got r q = between_got s at h 1 2 15 15 (omega (arith, q, rule_range r)) (omega (arith, q, rule_range r)) ∙ ap (λ m. got m e) (sym q)

  pub rule_none : (n ≢ 1) × (n ≢ 2) → inside 1 2 15 s at ≡ refused (note 15 at)
  rule_none q =
      below_or 2 n (λ l. between_above s at h 1 2 15 15 l)
      (λ l. between_under s at h 1 2 15 15 l (omega (arith, q.0, q.1)))

-- ---- all before the rows

module _ (unit t : ℕ) (s : List ℕ) (at : ℕ) where
  pub heading_stops : {m : Note} → opening kinds unit t s at ≡ refused m → heading unit t s at ≡ refused m
  unfolding heading
  heading_stops f = stops (opening kinds unit t) _ s at f

  -- of a kind of this number
  module _ (kind : Kind) {k a : ℕ} (q : k ≡ kind_number kind) (o : opening kinds unit t s at ≡ got k a) where
    f : opening kinds unit t s at ≡ got (kind_number kind) a
    f = o ∙ ap (λ n. got n a) q

    pub heading_out : {m : Note} → inside 1 disks_most 6 s a ≡ refused m → heading unit t s at ≡ refused m
    unfolding heading
    heading_out g = next (opening kinds unit t) _ s at f ∙ stops (inside 1 disks_most 6) _ s a g

    module _ {n b : ℕ} (g : inside 1 disks_most 6 s a ≡ got n b) where
      pub heading_rule : {m : Note} → rule (kind_number kind) s b ≡ refused m → heading unit t s at ≡ refused m
      unfolding heading
      heading_rule h = next (opening kinds unit t) _ s at f ∙ next (inside 1 disks_most 6) _ s a g ∙ stops (rule (kind_number kind)) _ s b h

      pub heading_got : {x : Rule} {e : ℕ} → rule (kind_number kind) s b ≡ got (rule_number x) e
          → heading unit t s at ≡ got (record { kind = kind; disks = n; rule = x }) e
      unfolding heading pure
      heading_got {x} {e} h =
          next (opening kinds unit t) _ s at f ∙ next (inside 1 disks_most 6) _ s a g ∙ next (rule (kind_number kind)) _ s b h
          ∙ ap₂ (λ y z. got (record { kind = y; disks = n; rule = z }) e) (kind_again kind) (rule_number_law x)

-- ---- the loop over the rows

-- i rows are read: the slots of the N disks hold them, and the rest is as the definition says
pub record Rows (h : Head) (s : List ℕ) (start : ℕ) (slots : List Row) (at i : ℕ) : Type 0 where
  pub done : List Row
  pub count : length done ≡ i
  pub below : i ≤ h.disks
  pub spec : times h.disks (row (kind_number h.kind)) s start ≡ prefix done (times (h.disks - i) (row (kind_number h.kind)) s at)
  pub held : slots ≡ pad_to no_disk h.disks done

-- none yet, in the empty table
pub rows_start : (h : Head) (s : List ℕ) (start : ℕ) {T : Table} → T ≡ no_table → h.disks ≤ disks_most
    → Rows h s start (take h.disks T.rows) start 0
unfolding no_table table pad_to
rows_start h s start q few =
    let n : h.disks - 0 ≡ h.disks = omega arith in
    record {
      done = [];
      count = refl;
      below = omega arith;
      spec = times_start (row (kind_number h.kind)) s h.disks start;
      held = ap (λ x. take h.disks x.rows) q ∙ take_replicate no_disk h.disks disks_most few ∙ ap (λ k. replicate k no_disk) (sym n);
    }

module _ {h : Head} {s : List ℕ} {start : ℕ} {slots : List Row} {at i : ℕ} (w : Rows h s start slots at i) where
  pub slots_length : length slots ≡ h.disks
  slots_length = ap length w.held ∙ pad_length no_disk h.disks w.done (omega (arith, w.count, w.below))

  pub rows_step : {r : Row} {e : ℕ} → i < h.disks → row (kind_number h.kind) s at ≡ got r e → Rows h s start (set slots i r) e (i + 1)
  rows_step {r} {e} l f = record {
    done = w.done ++ (r ∷ []);
    count = omega (arith, w.count, length-append w.done (r ∷ []));
    below = omega arith;
    spec = w.spec ∙ times_step (row (kind_number h.kind)) s h.disks i at w.done l f;
    held = ap (λ x. set x i r) w.held ∙ pad_set no_disk h.disks w.done r i w.count l;
  }

  -- a row that is refused
  pub rows_stop : {m : Note} → i < h.disks → row (kind_number h.kind) s at ≡ refused m → whole (body h) s start ≡ refused m
  unfolding whole body
  rows_stop l f =
      stops (body h) _ s start
      (stops (times h.disks (row (kind_number h.kind))) _ s start
      (w.spec ∙ times_stop (row (kind_number h.kind)) s h.disks i at w.done l f))

  all_rows : h.disks ≤ i → body h s start ≡ got (table h.disks h.rule w.done) at
  unfolding body pure
  all_rows l =
      next (times h.disks (row (kind_number h.kind))) _ s start
      (w.spec ∙ times_done (row (kind_number h.kind)) s h.disks i at w.done l)

  -- bytes after the last row
  pub rows_extra : {m : Note} → h.disks ≤ i → end s at ≡ refused m → whole (body h) s start ≡ refused m
  unfolding whole
  rows_extra l f = next (body h) _ s start (all_rows l) ∙ halts end _ s at f

  -- all slots are filled, and the rows behind them are still those of the empty table
  whole_rows : {T : Table} → T ≡ no_table → h.disks ≤ i → slots ++ drop h.disks T.rows ≡ pad_to no_disk disks_most w.done
  unfolding no_table table pad_to
  whole_rows {T} q l =
      let n : h.disks - length w.done ≡ 0 = omega (arith, w.count, w.below) in
      let k : h.disks ≡ length w.done = omega (arith, w.count, w.below) in
      ap₂ (λ x y. x ++ y)
      (w.held ∙ ap (λ m. w.done ++ replicate m no_disk) n ∙ append-nil w.done)
      (ap (λ x. drop h.disks x.rows) q ∙ drop-replicate h.disks disks_most no_disk ∙ ap (λ m. replicate (disks_most - m) no_disk) k)

  -- none
  pub rows_told : {v e : ℕ} {T : Table} → T ≡ no_table → h.disks ≤ i → end s at ≡ got v e
      → got (record { disks = h.disks; rule = h.rule; rows = slots ++ drop h.disks T.rows }) (length s) ≡ whole (body h) s start
  unfolding whole pure table
  rows_told {v} {e} q l f =
      ap (λ x. got (record { disks = h.disks; rule = h.rule; rows = x }) (length s)) (whole_rows q l)
      ∙ ap (got (table h.disks h.rule w.done)) (sym (end_place s at v e f)) ∙ sym (next (body h) _ s start (all_rows l) ∙ then end _ s at f)

-- ---- how the reader ends

module _ (unit t : ℕ) (s : List ℕ) where
  -- after its heading a sheet is its rows and its end
  pub read_told : {h : Head} {e : ℕ} {o : Out Table} → heading unit t s 0 ≡ got h e → o ≡ whole (body h) s e → o ≡ settings_sheet unit t s 0
  unfolding settings_sheet fields
  read_told f w = w ∙ sym (whole_next (heading unit t) body s 0 f)

  -- a heading that is refused
  pub read_stops : {m : Note} → heading unit t s 0 ≡ refused m → settings_sheet unit t s 0 ≡ refused m
  unfolding settings_sheet fields
  read_stops h = whole_stops (heading unit t) body s 0 h
