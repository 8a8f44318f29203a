-- A refusal of a sheet tells one of its bytes, or its end.
--     set_placed        of a settings sheet
--     replied_placed    of a read request, but for 11, which is of the lent buffer
use Prim.Native.Nat.{ℕ, ◌≤◌}
use mathlib.Core.Path.{◌≡◌, sym, ap, ◌∙◌}
use mathlib.Core.List.{List}
use native.Mathlib.Omega.{arith}
use lib.ListN.{length}
use Rattle.std.specs.Prelude.{Err}
use Rattle.model.specs.Case.{Case}
use Rattle.field.specs.declared.Fault.{Fault}
use Rattle.field.specs.declared.Refusal.TheVariants.{NoRoom}
use Rattle.field.specs.Refusal.{note_of}
use Rattle.field.specs.Sheet.{Note, Out, got, refused}
use Rattle.field.proofs.Unique.{number_injective}
use Rattle.settings.specs.declared.Table.{Table}
use Rattle.settings.specs.Sheet.{settings_sheet}
use Rattle.settings.proofs.Placed.{sheet_placed as settings_placed}
use Rattle.request.specs.Request.{Said}
use Rattle.request.proofs.Placed.{sheet_placed as request_placed}
use Rattle.planner.specs.Asked.{is_out, case_in, asked, Plans}
use Rattle.planner.proofs.Answers.{Unsent, denied, longer, answered_none}
use Rattle.unit.specs.declared.Done.{Done}
use Rattle.unit.specs.declared.Requested.{Requested}
use Rattle.unit.specs.declared.Unit.{Unit}
use Rattle.unit.specs.Life.{refused as refused_with, Outcome, settled, set}
use Rattle.unit.specs.Request.{asked_of, Replied}
use Rattle.unit.specs.Told.{told_verdict, told}
use Rattle.unit.specs.Unit.{tenancy_of}
use Rattle.unit.proofs.Replies.{replied_as}

settled_placed : (u : Unit) (s : List ℕ) (o : Out Table) (n : Note) → (o ≡ refused n → n.place ≤ length s)
    → (settled u o).verdict ≡ refused_with n → n.place ≤ length s
unfolding settled
settled_placed u s (got t e) n f h = absurd (let z : ◌≡◌ {A = ℕ} 0 1 = cc in omega arith)
settled_placed u s (refused m) n f h = let e : m ≡ n = cc in f (ap refused e)

pub set_placed : (u : Unit) (s : List ℕ) (d : Done) (f : Fault) → told d ≡ set u s → d.answer ≡ Err f → f.place ≤ length s
unfolding set
set_placed u s d f h q =
    settled_placed u s (settings_sheet u.number (tenancy_of u) s 0) (note_of f) (λ e. settings_placed u.number (tenancy_of u) s e)
    (sym (ap (λ (o : Outcome). o.verdict) h) ∙ ap told_verdict q)

case_refused : (t : Table) (o : Out Said) {n : Note} → case_in t o ≡ refused n → o ≡ refused n
unfolding case_in
case_refused t (got r e) h = absurd (let z : ◌≡◌ {A = ℕ} 0 1 = cc in omega arith)
case_refused t (refused m) {n} h = let e : m ≡ n = cc in ap refused e

plans_refused : (o : Out Case) {n : Note} → Plans o (refused n) → o ≡ refused n
unfolding Plans
plans_refused (got m e) {n} h = absurd (let k = h.2 in let z : ◌≡◌ {A = ℕ} 0 1 = cc in omega arith)
plans_refused (refused m) {n} h = let e : m ≡ n = cc in ap refused e

module _ (u : Unit) (s out : List ℕ) where
  unsent_placed : (f : Fault) → (f.refusal ≡ NoRoom → ⊥) → Unsent u.number (tenancy_of u) (asked_of u s) out f → f.place ≤ length s
  unfolding asked
  unsent_placed f o (denied w) =
      request_placed u.number (tenancy_of u) u.table.disks (is_out u.table) s
      (case_refused u.table _ (plans_refused (asked_of u s) w))
  unsent_placed f o (longer p i w l e) =
      absurd (o (number_injective f.refusal NoRoom (ap (λ (x : Note). x.number) e)))

  pub replied_placed : {after : List ℕ} {r : Requested} (f : Fault) → Replied u s out r after
      → r.answer ≡ Err f → (f.refusal ≡ NoRoom → ⊥)
      → f.place ≤ length s
  replied_placed f a h o = unsent_placed f o (answered_none (replied_as a h))
