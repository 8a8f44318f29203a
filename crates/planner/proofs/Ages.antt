-- What the age of a request decides.
--     start_some, start_none     the rule sees the load less the age; where the age is larger, the start is the delay alone by either rule
--     start_unaged               at age 0 the rule sees the whole load
--     asked_said                 age and copies of an accepted request decide its case
--     kind_two                   so kind 2 asks what kind 4 asks at age 0
--     kind_two_bytes             the bytes of both, for copies that can be sent
use Prim.Native.Nat.{ℕ, ◌-◌, ◌^◌, ◌≤◌, ◌<◌}
use mathlib.Core.Path.{◌≡◌, refl, sym, ap, ap₂, ◌∙◌}
use mathlib.Core.List.{List}
use native.Mathlib.Omega.{arith}
use lib.ListN.{length}
use Rattle.basics.specs.Limits.{disks_most, blocks_most}
use Rattle.basics.specs.Lists.{All}
use Rattle.model.specs.declared.Rule.{Rule}
use Rattle.model.specs.declared.Rule.TheVariants.{Sum, Larger}
use Rattle.model.specs.Case.{Case, starting}
use Rattle.model.proofs.Left.{left_some, left_none, left_zero}
use Rattle.field.specs.Sheet.{got}
use Rattle.settings.specs.declared.Row.{Row}
use Rattle.settings.specs.declared.Table.{Table}
use Rattle.request.specs.Draft.{request_bytes}
use Rattle.request.specs.Request.{Said, request_sheet}
use Rattle.request.proofs.Accepted.{said_age_none}
use Rattle.request.proofs.RoundTrip.{same_but_kind}
use Rattle.request.proofs.Used.{InUse}
use Rattle.request.proofs.Writing.{Sendable}
use Rattle.planner.specs.Asked.{start_of, is_out, table_case, case_in, asked}

-- with no load left either rule gives the delay
start_alone : (rule : Rule) (delay : ℕ) → starting rule delay 0 ≡ delay
unfolding starting
start_alone Sum delay = omega arith
start_alone Larger delay = omega arith

module _ (rule : Rule) (r : Row) where
  pub start_some : (age : ℕ) → age ≤ r.load → start_of rule age r ≡ starting rule r.delay (r.load - age)
  unfolding start_of
  start_some age h = rw (left_some age r.load h)

  pub start_none : (age : ℕ) → r.load ≤ age → start_of rule age r ≡ r.delay
  unfolding start_of
  start_none age h = rw (left_none age r.load h) (start_alone rule r.delay)

  pub start_unaged : start_of rule 0 r ≡ starting rule r.delay r.load
  unfolding start_of
  start_unaged = rw (left_zero r.load)

module _ (number tenancy : ℕ) (t : Table) where
  pub asked_said : (s : List ℕ) {r : Said} {e : ℕ} → request_sheet number tenancy t.disks (is_out t) s 0 ≡ got r e
      → asked number tenancy t s ≡ got (table_case t r.age r.copies) e
  unfolding asked case_in
  asked_said s h = ap (case_in t) h

  pub kind_two : (s s' : List ℕ) {r r' : Said} {e e' : ℕ} → request_sheet number tenancy t.disks (is_out t) s 0 ≡ got r e
      → request_sheet number tenancy t.disks (is_out t) s' 0 ≡ got r' e' → r.kind ≡ 2 → r'.age ≡ 0 → r'.copies ≡ r.copies
      → (m : Case) × (asked number tenancy t s ≡ got m e) × (asked number tenancy t s' ≡ got m e')
  kind_two s s' {r} {r'} {e} {e'} h h' k a c =
      let z : r.age ≡ 0 = said_age_none number tenancy t.disks (is_out t) s r e h k in (
        table_case t r.age r.copies,
        asked_said s h,
        asked_said s' h' ∙ ap₂ (λ (i : ℕ) (l : List ℕ). got (table_case t i l) e') (a ∙ sym z) c,
      )

  pub kind_two_bytes : (ms : List ℕ) → number < 2 ^ 32 → tenancy < 2 ^ 32 → 0 < tenancy → 0 < t.disks → t.disks ≤ disks_most
      → length ms ≤ blocks_most → All (Sendable t.disks) ms → All (InUse (is_out t)) ms
      → (m : Case) × (asked number tenancy t (request_bytes 2 number tenancy 0 ms) ≡ got m (length (request_bytes 2 number tenancy 0 ms)))
      × (asked number tenancy t (request_bytes 4 number tenancy 0 ms) ≡ got m (length (request_bytes 4 number tenancy 0 ms)))
  kind_two_bytes ms u v rented known within few each used =
      let both = same_but_kind number tenancy t.disks (is_out t) ms u v rented known within few each used in
      kind_two _ _ both.0 both.1 refl refl refl
