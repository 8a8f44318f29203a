-- Laws of the writers.
--     ListsFit, lists_fit_law, fit_lists, unfit_lists     what the test of the four lists says
--     rule_length, rule_small, sheet_length     the bytes of the rule's number; the length of a sheet by its parts
--     Sheeted, draft_sheet, draft_either, drafted     a draft is a sheet, or none
--     send_unfit, send_rule, send_out, send_long, send_done     the five ways in which the writer ends
--     write_long, write_sent             more lists than disks; a sheet whose marks are 0
use mathlib.Core.Path.{◌≡◌, sym, ap, ◌∙◌, subst}
use mathlib.Core.Bool.{true, false, ◌&&◌}
use mathlib.Core.List.{List, ◌++◌}
use Prim.Native.Nat.{ℕ, ◌+◌, ◌≤◌, ◌<◌}
use native.Mathlib.Omega.{arith}
use borrow.Author.Tests.{eqb-true, leb-true, ltb-true, eq-eqb, le-leb, lt-ltb}
use lib.Dec.{eqb, leb, ltb}
use lib.ListN.{length, replicate, length-append}
use Rattle.basics.specs.Count.{bit}
use Rattle.basics.specs.Limits.{disks_most}
use Rattle.basics.proofs.Choice.{pick_true, pick_false}
use Rattle.basics.proofs.Count.{bit_le}
use Rattle.basics.proofs.Tests.{by_cases, not_here, and_left, and_right, and_both, first_false, second_false}
use Rattle.number.specs.Encode.{encode, width_of}
use Rattle.number.proofs.Encode.{width_one}
use Rattle.field.specs.declared.Pen.{Pen}
use Rattle.field.specs.Pen.{Lays}
use Rattle.field.specs.Put.{spell_all, opening_bytes}
use Rattle.field.specs.declared.Refusal.TheVariants.{OutOfRange, NoRoom, BadAmount}
use Rattle.std.specs.Prelude.{Some, None, Result, Ok, Err}
use Rattle.field.specs.declared.Fault.{Fault}
use Rattle.field.specs.Refusal.{fault_at}
use Rattle.field.specs.Send.{sheet, none, Sent}
use Rattle.field.specs.Sheet.{Note, unplaced}
use Rattle.field.proofs.Pens.{lays_join, lays_sent}
use Rattle.field.proofs.Opened.{opening_length}
use Rattle.field.proofs.Sends.{sent_refused, sent_long}
use Rattle.model.specs.declared.Rule.{Rule}
use Rattle.settings.specs.declared.Row.{Row}
use Rattle.model.specs.Rule.{rule_number}
use Rattle.settings.specs.Row.{all_in_range, marked_bytes, row_bytes}
use Rattle.settings.specs.Draft.{rows_of, kind_of, rule_bytes, heading_bytes, sheet_bytes, lists_fit}
use Rattle.settings.specs.Draft.{sheet_draft, settings_draft}
use Rattle.settings.specs.Parts.{Level, rows_width}
use Rattle.settings.proofs.Alone.{alone_top}
use Rattle.settings.proofs.Rows.{length_rows, if_some, if_none}

-- ---- the test of the four lists

pub record ListsFit (t : ℕ) (cs ls ds ms : List ℕ) : Type 0 where
  pub rented : 0 < t
  pub level : Level cs ls ds ms
  pub some : 1 ≤ length cs
  pub few : length cs ≤ disks_most

module _ {t : ℕ} {cs ls ds ms : List ℕ} where
  pub lists_fit_law : lists_fit t cs ls ds ms ≡ true → ListsFit t cs ls ds ms
  unfolding lists_fit
  lists_fit_law h =
      let b = and_right (ltb 0 t) _ h in
      let d = and_right (eqb (length ls) (length cs)) _ b in
      let e = and_right (eqb (length ds) (length cs)) _ d in
      let f = and_right (eqb (length ms) (length cs)) _ e in
      record {
        rented = ltb-true _ _ (and_left (ltb 0 t) _ h);
        level = record {
          loads = eqb-true _ _ (and_left (eqb (length ls) (length cs)) _ b);
          delays = eqb-true _ _ (and_left (eqb (length ds) (length cs)) _ d);
          marks = eqb-true _ _ (and_left (eqb (length ms) (length cs)) _ e);
        };
        some = leb-true _ _ (and_left (leb 1 (length cs)) _ f);
        few = leb-true _ _ (and_right (leb 1 (length cs)) _ f);
      }

  pub fit_lists : ListsFit t cs ls ds ms → lists_fit t cs ls ds ms ≡ true
  unfolding lists_fit
  fit_lists w =
      and_both _ _ (lt-ltb _ _ w.rented)
      (and_both _ _ (eq-eqb _ _ w.level.loads)
      (and_both _ _ (eq-eqb _ _ w.level.delays)
      (and_both _ _ (eq-eqb _ _ w.level.marks) (and_both _ _ (le-leb _ _ w.some) (le-leb _ _ w.few)))))

  pub unfit_lists : (ListsFit t cs ls ds ms → ⊥) → false ≡ lists_fit t cs ls ds ms
  unfit_lists h = sym (not_here (lists_fit t cs ls ds ms) (λ f. h (lists_fit_law f)))

-- ---- the length of a sheet

-- the rule's number takes one byte on a sheet of kind 6, on any other none
pub rule_length : (k r : ℕ) → r ≤ 2 → length (rule_bytes k r) ≡ bit (eqb k 6)
unfolding marked_bytes
rule_length k r h = alone_top (eqb k 6) r (omega arith)

pub rule_small : (k r : ℕ) → r ≤ 2 → length (rule_bytes k r) ≤ 1
rule_small k r h = omega (arith, rule_length k r h, bit_le (eqb k 6))

module _ (k unit t : ℕ) (small : k < 128) where
  heading_length : (n r : ℕ) → n ≤ disks_most
      → length (heading_bytes k unit t n r) ≡ 2 + width_of unit + width_of t + length (rule_bytes k r)
  unfolding heading_bytes width_of
  heading_length n r h =
      omega (
        arith,
        length-append (opening_bytes k unit t) (encode n ++ rule_bytes k r),
        length-append (encode n) (rule_bytes k r),
        opening_length k unit t,
        width_one k small,
        width_one n (omega arith),
      )

  pub sheet_length : (r : ℕ) (rows : List Row) → length rows ≤ disks_most → length (sheet_bytes k unit t r rows)
      ≡ 2 + width_of unit + width_of t + length (rule_bytes k r) + length (spell_all (row_bytes k) rows)
  unfolding sheet_bytes
  sheet_length r rows h =
      omega (
        arith,
        length-append (heading_bytes k unit t (length rows) r) (spell_all (row_bytes k) rows),
        heading_length (length rows) r h,
      )

-- ---- drafts, and how the writer ends

module _ (k unit t r : ℕ) (cs ls ds ms : List ℕ) where
  -- the lists fit, the rule's number and all rows are in range, and the draft is their sheet
  pub record Sheeted : Type 0 where
    pub fit : ListsFit t cs ls ds ms
    pub low : 1 ≤ r
    pub high : r ≤ 2
    pub good : all_in_range (rows_of cs ls ds ms) ≡ true
    pub is : sheet_draft k unit t r cs ls ds ms ≡ sheet (sheet_bytes k unit t r (rows_of cs ls ds ms))
    pub long : length (rows_of cs ls ds ms) ≡ length cs

  pub draft_sheet : ListsFit t cs ls ds ms → 1 ≤ r → r ≤ 2 → all_in_range (rows_of cs ls ds ms) ≡ true → Sheeted
  unfolding sheet_draft
  draft_sheet f l h g = record {
    fit = f;
    low = l;
    high = h;
    good = g;
    is = pick_true _ _ (fit_lists f) ∙ pick_true _ _ (and_both _ _ (and_both _ _ (le-leb _ _ l) (le-leb _ _ h)) g);
    long = length_rows cs ls ds ms f.level;
  }

  -- every draft is none, not for want of room, or a sheet
  pub draft_either : {X : Type 0} → ((n : Note) → (n.number ≡ 11 → ⊥) → sheet_draft k unit t r cs ls ds ms ≡ none n → X)
      → (Sheeted → X) → X
  unfolding sheet_draft
  draft_either f g =
      by_cases (lists_fit t cs ls ds ms)
      (λ p. by_cases ((leb 1 r && leb r 2) && all_in_range (rows_of cs ls ds ms))
      (λ q.
      let a = and_left (leb 1 r && leb r 2) _ q in
      g (draft_sheet (lists_fit_law p) (leb-true _ _ (and_left (leb 1 r) _ a)) (leb-true _ _ (and_right (leb 1 r) _ a))
      (and_right (leb 1 r && leb r 2) _ q)))
      (λ n. f (unplaced 15) (λ z. absurd (omega (arith, z))) (pick_true _ _ p ∙ pick_false _ _ n)))
      (λ n. f (unplaced 6) (λ z. absurd (omega (arith, z))) (pick_false _ _ n))

  -- a draft that is a sheet is that one
  pub drafted : (bs : List ℕ) → sheet_draft k unit t r cs ls ds ms ≡ sheet bs
      → Sheeted × (bs ≡ sheet_bytes k unit t r (rows_of cs ls ds ms))
  drafted bs h =
      draft_either (λ e _ n. let g : none e ≡ sheet bs = sym n ∙ h in absurd (let z : ◌≡◌ {A = ℕ} 0 1 = cc in omega arith))
      (λ w. let g : sheet bs ≡ sheet (sheet_bytes k unit t r (rows_of cs ls ds ms)) = sym h ∙ w.is in (w, cc))

  module _ (out : List ℕ) where
    pub send_unfit : lists_fit t cs ls ds ms ≡ false
        → Sent (sheet_draft k unit t r cs ls ds ms) out (Err (fault_at OutOfRange 0)) out
    unfolding sheet_draft
    send_unfit n = subst (λ d. Sent d out (Err (fault_at OutOfRange 0)) out) (sym (pick_false _ _ n)) (sent_refused _ out)

    module _ (f : ListsFit t cs ls ds ms) where
      refuses : ((leb 1 r && leb r 2) && all_in_range (rows_of cs ls ds ms)) ≡ false
          → Sent (sheet_draft k unit t r cs ls ds ms) out (Err (fault_at BadAmount 0)) out
      unfolding sheet_draft
      refuses n =
          subst (λ d. Sent d out (Err (fault_at BadAmount 0)) out) (sym (pick_true _ _ (fit_lists f) ∙ pick_false _ _ n))
          (sent_refused _ out)

      pub send_rule : (1 ≤ r → r ≤ 2 → ⊥) → Sent (sheet_draft k unit t r cs ls ds ms) out (Err (fault_at BadAmount 0)) out
      send_rule h =
          refuses (first_false _ (not_here (leb 1 r && leb r 2)
          (λ a. h (leb-true _ _ (and_left (leb 1 r) _ a)) (leb-true _ _ (and_right (leb 1 r) _ a)))))

      pub send_out : None ≡ rows_width k (rows_of cs ls ds ms)
          → Sent (sheet_draft k unit t r cs ls ds ms) out (Err (fault_at BadAmount 0)) out
      unfolding rows_width
      send_out e = refuses (second_false (leb 1 r && leb r 2) (if_none (all_in_range (rows_of cs ls ds ms)) _ (sym e)))

      module _ {w : ℕ} (e : Some w ≡ rows_width k (rows_of cs ls ds ms)) where
        module _ (low : 1 ≤ r) (high : r ≤ 2) where
          fits : (all_in_range (rows_of cs ls ds ms) ≡ true) × (length (spell_all (row_bytes k) (rows_of cs ls ds ms)) ≡ w)
          unfolding rows_width
          fits = if_some (all_in_range (rows_of cs ls ds ms)) _ (sym e)

          sheeted : Sheeted
          sheeted = draft_sheet f low high fits.0

          module _ (small : k < 128) {a b c : ℕ} (p : a ≡ width_of unit) (q : b ≡ width_of t) (o : c ≡ length (rule_bytes k r)) where
            whole : length (sheet_bytes k unit t r (rows_of cs ls ds ms)) ≡ 2 + a + b + c + w
            whole =
                omega (arith, fits.1, sheet_length k unit t small r (rows_of cs ls ds ms) (omega (arith, sheeted.long, f.few)))

            pub send_long : length out < 2 + a + b + c + w
                → Sent (sheet_draft k unit t r cs ls ds ms) out (Err (fault_at NoRoom (2 + a + b + c + w))) out
            send_long l =
                subst (λ d. Sent d out (Err (fault_at NoRoom (2 + a + b + c + w))) out) (sym sheeted.is)
                (sent_long (sheet_bytes k unit t r (rows_of cs ls ds ms)) out (sym whole) l)

            pub send_done : 2 + a + b + c + w ≤ length out → {pen mid last : Pen} {after : List ℕ}
                → Lays (heading_bytes k unit t (length cs) r) pen mid → Lays (spell_all (row_bytes k) (rows_of cs ls ds ms)) mid last
                → pen.at ≡ 0 → pen.out.now ≡ out → (pen.out.ghost_name ≡ last.out.ghost_name → after ≡ last.out.now)
                → Sent (sheet_draft k unit t r cs ls ds ms) out (Ok last.at) after
            unfolding sheet_bytes
            send_done l {pen} {mid} {last} {after} f g z o e =
                let bs = sheet_bytes k unit t r (rows_of cs ls ds ms) in
                let h : Lays bs pen last =
                subst (λ (n : ℕ). Lays (heading_bytes k unit t n r ++ spell_all (row_bytes k) (rows_of cs ls ds ms)) pen last)
                (sym sheeted.long) (lays_join f g) in
                subst (λ d. Sent d out (Ok last.at) after) (sym sheeted.is)
                (subst (λ (x : List ℕ). Sent (sheet bs) x (Ok last.at) after) o
                (lays_sent h z (omega (arith, whole, ap length o)) e))

-- ---- a sheet whose marks are 0

module _ (rule : Rule) (unit t : ℕ) (cs ls ds out : List ℕ) where
  pub write_long : disks_most < length cs → Sent (settings_draft rule unit t cs ls ds) out (Err (fault_at OutOfRange 0)) out
  unfolding settings_draft
  write_long l = send_unfit _ unit t _ cs ls ds _ out (sym (unfit_lists (λ w. omega (arith, w.few))))

  pub write_sent : {k r : ℕ} {ms : List ℕ} {a : Result ℕ Fault} {after : List ℕ} → k ≡ kind_of rule → r ≡ rule_number rule
      → ms ≡ replicate (length cs) 0 → Sent (sheet_draft k unit t r cs ls ds ms) out a after
      → Sent (settings_draft rule unit t cs ls ds) out a after
  unfolding settings_draft
  write_sent p q o w = rw (sym p, sym q, sym o) w
