-- A read request that was refused with 11 is answered in a buffer of the length that it told.
use mathlib.Core.Path.{◌≡◌, sym, ap, ◌∙◌, subst}
use mathlib.Core.List.{List}
use Prim.Native.Nat.{ℕ, ◌≤◌}
use lib.ListN.{length}
use Rattle.field.specs.declared.Fault.{Fault}
use Rattle.field.specs.declared.Refusal.TheVariants.{NoRoom}
use Rattle.std.specs.Prelude.{Result, Err}
use Rattle.field.specs.Send.{told_written, answer_to}
use Rattle.field.specs.Sheet.{Out, got, refused}
use Rattle.field.proofs.Known.{Answers}
use Rattle.field.proofs.Sends.{Roomless, sent_enough}
use Rattle.model.specs.Case.{Case}
use Rattle.settings.specs.declared.Table.{Table}
use Rattle.request.specs.Request.{Said}
use Rattle.request.proofs.Known.{numbered_request}
use Rattle.plan.specs.Plan.{Plan}
use Rattle.plan.proofs.Placed.{roomless}
use Rattle.planner.specs.Answered.{draft_of, Answered}
use Rattle.planner.specs.Asked.{is_out, case_in, asked, Plans}
use Rattle.planner.proofs.Plans.{plans_unique}

-- no request is refused with 11
case_answers : (t : Table) (o : Out Said) → Answers o → Answers (case_in t o)
unfolding case_in
case_answers t (got r e) h = tt
case_answers t (refused n) h = h

module _ (number tenancy : ℕ) (t : Table) (s : List ℕ) where
  asked_answers : Answers (asked number tenancy t s)
  unfolding asked
  asked_answers = case_answers t _ ((numbered_request number tenancy t.disks (is_out t)).answers s 0)

  roomless_of : (o : Out Case) (x : Out Plan) → Answers o → Plans o x → Roomless (draft_of number tenancy x)
  unfolding Plans draft_of Roomless
  roomless_of (got m e) x h w =
      subst (λ (y : Out Plan). Roomless (draft_of number tenancy y)) (sym w.2) (roomless number tenancy w.0)
  roomless_of (refused n) x h w = subst (λ (y : Out Plan). Roomless (draft_of number tenancy y)) (sym w) h.1

  pub answered_enough : {out out' after after' : List ℕ} {f : Fault} {w : Result ℕ Fault}
      → Answered number tenancy (asked number tenancy t s) out (Err f) after → f.refusal ≡ NoRoom
      → Answered number tenancy (asked number tenancy t s) out' w after' → f.place ≤ length out' → told_written w ≡ got tt f.place
  answered_enough {out} {out'} {after} {f = f} a q b l =
      let e : b.plan ≡ a.plan = plans_unique (asked number tenancy t s) b.plans a.plans in
      let o = roomless_of (asked number tenancy t s) a.plan asked_answers a.plans in
      b.sent.answer ∙ ap (λ (x : Out Plan). answer_to (draft_of number tenancy x) out') e
      ∙ sent_enough (draft_of number tenancy a.plan) out out' f after o a.sent q l
