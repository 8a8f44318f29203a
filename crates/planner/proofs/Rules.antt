-- The disks of a table's case, by the table's start rule.
--     table_base                    the case of a table is the model's: its rule, costs and delays, what the age has left of its loads, and
--                                   the copies in use
--     table_end, table_capacity     so when its disks end, and how many blocks they can read by a time, is by that rule
--     asked_base                    what an accepted request asks is such a case
use Prim.Native.Nat.{ℕ}
use mathlib.Core.Path.{◌≡◌, refl, sym, ap, ap₂, ◌∙◌, fun_ext}
use mathlib.Core.Bool.{Bool, not, ◌&&◌}
use mathlib.Core.List.{List, map}
use lib.ListN.{length, get_or}
use Rattle.mask.specs.Has.{has}
use Rattle.model.specs.Assignment.{reads}
use Rattle.model.specs.Case.{Case, left, starting, end_by, capacity_by, base, end_of, capacity_at}
use Rattle.model.proofs.Capacity.{base_end, base_capacity}
use Rattle.field.specs.Sheet.{got}
use Rattle.request.specs.Request.{Said, request_sheet}
use Rattle.settings.specs.declared.Table.{Table}
use Rattle.settings.specs.Table.{disk_rows, costs, loads, delays, Proper}
use Rattle.model.specs.Case.{in_use}
use Rattle.planner.specs.Asked.{start_of, is_out, table_case, asked}
use Rattle.planner.proofs.Ages.{asked_said}
use Rattle.planner.proofs.Plannable.{length_costs}
use Rattle.planner.proofs.Rows.{column_at, start_zero}

module _ {t : Table} (w : Proper t) (age : ℕ) (copies : List ℕ) where
  -- a disk's cost, what is left of its load, and its delay
  abbrev cost_at : ℕ → ℕ
  cost_at d = get_or (costs t) d 0

  abbrev load_at : ℕ → ℕ
  load_at d = left age (get_or (loads t) d 0)

  abbrev delay_at : ℕ → ℕ
  delay_at d = get_or (delays t) d 0

  start_at : (d : ℕ) → get_or (map (start_of t.rule age) (disk_rows t)) d 0 ≡ starting t.rule (delay_at d) (load_at d)
  unfolding start_of loads delays
  start_at d =
      column_at w (start_of t.rule age) (start_zero t.rule age) d
      ∙ ap₂ (λ (x y : ℕ). starting t.rule x (left age y)) (sym (column_at w (λ r. r.delay) refl d))
      (sym (column_at w (λ r. r.load) refl d))

  -- a copy in use
  abbrev copy_at : ℕ → ℕ → Bool
  copy_at b d = has (get_or copies b 0) d && not (is_out t d)

  pub table_base : table_case t age copies ≡ base t.rule t.disks (length copies) cost_at load_at delay_at copy_at
  unfolding table_case in_use base
  table_base =
      let on : ℕ → (ℕ → ℕ) → Case =
      λ n f. record { disks = n; blocks = length copies; start = f; cost = cost_at; copy = copy_at } in
      ap₂ on (length_costs w) (fun_ext start_at)

  pub table_end : (a : ℕ → ℕ) (d : ℕ) → end_of (table_case t age copies) a d
      ≡ end_by t.rule (delay_at d) (load_at d) (cost_at d) (reads (length copies) a d)
  table_end a d = ap (λ (m : Case). end_of m a d) table_base ∙ base_end t.rule _ _ cost_at load_at delay_at _ d a

  pub table_capacity : (time d : ℕ) → capacity_at (table_case t age copies) time d
      ≡ capacity_by t.rule (delay_at d) (load_at d) (cost_at d) time
  table_capacity time d = ap (λ (m : Case). capacity_at m time d) table_base ∙ base_capacity t.rule _ _ cost_at load_at delay_at _ d time

pub asked_base : (number tenancy : ℕ) {t : Table} → Proper t → (s : List ℕ) {r : Said} {e : ℕ}
    → request_sheet number tenancy t.disks (is_out t) s 0 ≡ got r e
    → asked number tenancy t s ≡ got (base t.rule t.disks (length r.copies) (λ d. get_or (costs t) d 0)
    (λ d. left r.age (get_or (loads t) d 0)) (λ d. get_or (delays t) d 0) (λ b d. has (get_or r.copies b 0) d && not (is_out t d))) e
asked_base number tenancy {t} w s {r} {e} h =
    asked_said number tenancy t s h ∙ ap (λ (m : Case). got m e) (table_base w r.age r.copies)
