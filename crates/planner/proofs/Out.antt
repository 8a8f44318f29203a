-- A disk that is out.
--     out_no_copy       it holds no copy of any block
--     out_untouched     so no set of blocks touches it, and its capacity counts in no shortfall
--     out_unread        and no schedule reads a block from it
--     all_in_use, as_named     where none is out, as with marks 0, the case is that of the copies as named
--     asked_no_copy, asked_untouched, plan_unread     the same of what was asked, and of its plan
--     no_blocks_asked   a request of no blocks is accepted, whichever disks are out
use mathlib.Core.Path.{◌≡◌, ap, ◌∙◌, subst, fun_ext}
use mathlib.Core.Bool.{Bool, true, false, not, ◌&&◌, and-true}
use mathlib.Core.List.{List, [], map}
use Prim.Native.Nat.{ℕ, ◌^◌, ◌<◌}
use native.Mathlib.Omega.{arith}
use lib.Dec.{eqb}
use lib.ListN.{length, get_or, get_or-eq_default}
use Rattle.basics.specs.Lists.{All}
use Rattle.basics.specs.Limits.{disks_most}
use Rattle.basics.proofs.Count.{any_some}
use Rattle.basics.proofs.Lists.{all_at}
use Rattle.basics.proofs.Padded.{pad_at}
use Rattle.basics.proofs.Tests.{below_or, both, differ, not_here, second_false}
use Rattle.field.specs.Sheet.{got}
use Rattle.model.specs.declared.Rule.{Rule}
use Rattle.model.specs.Assignment.{Valid}
use Rattle.model.specs.Case.{Case, Schedule, HasTime}
use Rattle.model.specs.Shortfall.{touches}
use Rattle.engine.specs.Spelled.{spelled}
use Rattle.plan.specs.Plan.{Plan}
use Rattle.request.specs.Draft.{request_bytes}
use Rattle.settings.specs.declared.Row.{Row}
use Rattle.settings.specs.declared.Table.{Table}
use Rattle.settings.specs.Row.{no_disk}
use Rattle.settings.specs.Table.{table, disk_rows, costs, Proper}
use Rattle.settings.proofs.Rules.{InUse}
use Rattle.model.specs.Case.{in_use}
use Rattle.planner.specs.Asked.{start_of, is_out, table_case, asked, PlanFor}
use Rattle.planner.proofs.Ages.{kind_two_bytes}
use Rattle.planner.proofs.Plannable.{asked_got}

module _ (out : ℕ → Bool) (m : Case) where
  pub out_no_copy : (d : ℕ) → out d ≡ true → (b : ℕ) → (in_use out m).copy b d ≡ false
  unfolding in_use
  out_no_copy d o b = second_false (m.copy b d) (ap not o)

  pub out_untouched : (d : ℕ) → out d ≡ true → (S : ℕ → Bool) → touches m.blocks (in_use out m).copy S d ≡ false
  unfolding touches
  out_untouched d o S = not_here _ λ h.
      let f = any_some m.blocks _ h in differ (both (S f.0) _ f.2).1 (out_no_copy d o f.0)

  pub out_unread : (a : ℕ → ℕ) → Schedule (in_use out m) a → (b : ℕ) → b < m.blocks → out (a b) ≡ false
  unfolding Schedule Valid in_use
  out_unread a v b l = not_here (out (a b)) λ o. differ (v b l).1 (out_no_copy (a b) o b)

-- where none is out, the copies are those that were named
pub all_in_use : (out : ℕ → Bool) (m : Case) → ((d : ℕ) → out d ≡ false) → in_use out m ≡ m
unfolding in_use
all_in_use out m h =
    let on : (ℕ → ℕ → Bool) → Case =
    λ c. record { disks = m.disks; blocks = m.blocks; start = m.start; cost = m.cost; copy = c } in
    ap on (fun_ext λ b. fun_ext λ d. ap (λ (x : Bool). m.copy b d && not x) (h d) ∙ and-true (m.copy b d))

-- as in a table of marks 0
marks_zero : (n : ℕ) (rule : Rule) (rows : List Row) → All InUse rows → (d : ℕ) → is_out (table n rule rows) d ≡ false
unfolding is_out table
marks_zero n rule rows h d =
    ap (λ (r : Row). eqb r.mark 1) (pad_at no_disk disks_most rows d)
    ∙ below_or d (length rows)
    (λ l. ap (λ x. eqb x 1) (all_at InUse rows h d no_disk l))
    (λ l. ap (λ (r : Row). eqb r.mark 1) (get_or-eq_default rows no_disk {n = d} l))

pub as_named : (n : ℕ) (rule : Rule) (rows : List Row) → All InUse rows → (age : ℕ) (copies : List ℕ)
    → table_case (table n rule rows) age copies
    ≡ spelled copies (costs (table n rule rows)) (map (start_of rule age) (disk_rows (table n rule rows)))
unfolding table_case table
as_named n rule rows h age copies = all_in_use (is_out (table n rule rows)) _ (marks_zero n rule rows h)

module _ (number tenancy : ℕ) (t : Table) (s : List ℕ) {m : Case} {e : ℕ} (h : asked number tenancy t s ≡ got m e) where
  -- what holds of every case of copies in use
  of_asked : (P : Case → Type 0) → ((x : Case) → P (in_use (is_out t) x)) → P m
  unfolding table_case
  of_asked P f = subst P (asked_got number tenancy t s h).2 (f _)

  pub asked_no_copy : (d : ℕ) → is_out t d ≡ true → (b : ℕ) → m.copy b d ≡ false
  asked_no_copy d o b = of_asked (λ x. x.copy b d ≡ false) λ x. out_no_copy (is_out t) x d o b

  pub asked_untouched : (d : ℕ) → is_out t d ≡ true → (S : ℕ → Bool) → touches m.blocks m.copy S d ≡ false
  unfolding in_use
  asked_untouched d o S = of_asked (λ x. touches x.blocks x.copy S d ≡ false) λ x. out_untouched (is_out t) x d o S

  pub plan_unread : {p : Plan} → PlanFor m p → (b : ℕ) → b < m.blocks → is_out t (get_or p.disks b 0) ≡ false
  unfolding in_use HasTime
  plan_unread {p} f =
      of_asked (λ x. Schedule x (λ b. get_or p.disks b 0) → (b : ℕ) → b < x.blocks → is_out t (get_or p.disks b 0) ≡ false)
      (λ x. out_unread (is_out t) x _) f.optimal.first.holds.0

-- of either kind
pub no_blocks_asked : (number tenancy : ℕ) {t : Table} → Proper t → number < 2 ^ 32 → tenancy < 2 ^ 32 → 0 < tenancy → 0 < t.disks
    → (m : Case) × (asked number tenancy t (request_bytes 2 number tenancy 0 []) ≡ got m (length (request_bytes 2 number tenancy 0 [])))
    × (asked number tenancy t (request_bytes 4 number tenancy 0 []) ≡ got m (length (request_bytes 4 number tenancy 0 [])))
unfolding All
no_blocks_asked number tenancy {t} w u v rented known =
    kind_two_bytes number tenancy t [] u v rented known w.few (omega arith) tt tt
