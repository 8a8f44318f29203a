-- Each promise of this crate fixes the answer: no second one satisfies it.
use mathlib.Core.Path.{◌≡◌, refl, sym, ap, ◌∙◌}
use mathlib.Core.Bool.{Bool}
use mathlib.Core.List.{List, []}
use Prim.Native.Nat.{ℕ}
use Rattle.std.specs.Prelude.{Result, Ok, Err}
use Rattle.field.specs.declared.Fault.{Fault}
use Rattle.field.specs.Refusal.{note_of}
use Rattle.field.specs.Send.{sheet, none, Sent}
use Rattle.field.specs.Sheet.{got}
use Rattle.field.proofs.Sends.{sent_unique}
use Rattle.field.proofs.Unique.{note_injective, not_refused, told_by_injective}
use Rattle.request.specs.declared.Request.{Request}
use Rattle.request.specs.Draft.{request_draft}
use Rattle.request.specs.Judged.{Judged}
use Rattle.request.specs.Request.{request_sheet}
use Rattle.request.specs.Told.{Told}

-- `read`: the request, or the refusal
pub read_unique : (unit t n : ℕ) (out : ℕ → Bool) (s : List ℕ) (len : ℕ) (r r' : Result Request Fault)
    → Told len (request_sheet unit t n out s 0) r → Told len (request_sheet unit t n out s 0) r' → r ≡ r'
read_unique unit t n out s len r r' p q =
    told_by_injective (λ x. got x len) (λ a b h. cc) (λ a e h. not_refused h) r r' (p ∙ sym q)

-- `judge`: two verdicts on the same fields say the same of a sheet, whatever it is
pub judge_unique : (k t a n q : ℕ) (v w : Result Unit Fault) → Judged k t a n q v → Judged k t a n q w → v ≡ w
judge_unique k t a n q (Ok x) (Ok y) f g = refl
judge_unique k t a n q (Ok x) (Err e) f g = let h : sheet [] ≡ none (note_of e) = sym (f (sheet [])) ∙ g (sheet []) in cc
judge_unique k t a n q (Err e) (Ok y) f g = let h : none (note_of e) ≡ sheet [] = sym (f (sheet [])) ∙ g (sheet []) in cc
judge_unique k t a n q (Err e) (Err i) f g =
    let h : none (note_of e) ≡ none (note_of i) = sym (f (sheet [])) ∙ g (sheet []) in
    let same : note_of e ≡ note_of i = cc in ap Err (note_injective e i same)

-- `write`: the answer and the buffer
pub write_unique : (k unit t a n : ℕ) (ms out : List ℕ) (r s : Result ℕ Fault) (x y : List ℕ) → Sent (request_draft k unit t a n ms) out r x
    → Sent (request_draft k unit t a n ms) out s y → (r ≡ s) × (x ≡ y)
write_unique k unit t a n ms out r s x y p q = sent_unique (request_draft k unit t a n ms) out r s x y p q
