-- A disk that is out holds no copy: the first reason is what is answered of it.
use Prim.Native.Nat.{ℕ}
use mathlib.Core.Path.{◌≡◌, ap, ◌∙◌, subst}
use mathlib.Core.Bool.{true}
use mathlib.Core.List.{List}
use Rattle.field.specs.Sheet.{Out, got}
use Rattle.model.specs.Case.{Case}
use Rattle.planner.specs.Asked.{is_out}
use Rattle.planner.proofs.Out.{asked_no_copy}
use Rattle.reason.specs.Reason.{Why, Reasons}
use Rattle.reason.specs.declared.Reason.{Reason}
use Rattle.reason.specs.declared.Reason.TheVariants.{NoCopy}
use Rattle.reason.proofs.Unique.{reasons_unique}
use Rattle.unit.specs.declared.Unit.{Unit as Shelf}
use Rattle.unit.specs.Request.{asked_of}
use Rattle.unit.specs.Unit.{tenancy_of}
use Rattle.why.specs.Why.{within, Explains}
use Rattle.why.proofs.Within.{within_in}

-- of a block below Q and a disk below N
pub out_reason : (u : Shelf) (s : List ℕ) (b d : ℕ) {m : Case} {e : ℕ} {x : Out Reason} → is_out u.table d ≡ true
    → within (asked_of u s) b d ≡ got m e → Explains (within (asked_of u s) b d) b d x → x ≡ got NoCopy 0
unfolding Explains Why
out_reason u s b d {m} {e} {x} o h v =
    let k = within_in (asked_of u s) b d h in
    let w : Explains (got m e) b d x = subst (λ y. Explains y b d x) h v in
    let p = w.1 in
    let none : Reasons m b d NoCopy = record {
      time = p.time;
      schedule = p.schedule;
      set = p.set;
      plan = p.plan;
      why = asked_no_copy u.number (tenancy_of u) u.table s k.0 d o b;
    } in
    w.2 ∙ ap (λ (r : Reason). got r 0) (reasons_unique p none k.1)
