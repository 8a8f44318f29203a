-- Each promise of this crate fixes the answer, the unit and the buffer: no second answer satisfies it.
use mathlib.Core.Path.{◌≡◌, refl, sym, ap, ◌∙◌}
use mathlib.Core.List.{List}
use Prim.Native.Nat.{ℕ}
use Rattle.std.specs.Prelude.{Result, Ok, Err}
use Rattle.field.specs.Refusal.{note_of}
use Rattle.field.specs.declared.Fault.{Fault}
use Rattle.field.proofs.Unique.{note_injective}
use Rattle.planner.specs.Lists.{Asks}
use Rattle.planner.specs.declared.Spelling.{Spelling}
use Rattle.planner.proofs.Unique.{plan_into_unique, ask_unique as spelling_unique}
use Rattle.unit.specs.declared.Done.{Done}
use Rattle.unit.specs.declared.Requested.{Requested}
use Rattle.unit.specs.declared.Unit.{Unit as Shelf}
use Rattle.unit.specs.Life.{Outcome}
use Rattle.unit.specs.Request.{asked_of, Replied}
use Rattle.unit.specs.Told.{told_verdict, told}
use Rattle.unit.specs.Unit.{new_unit, tenancy_of}

told_injective : (a b : Result Unit Fault) → told_verdict a ≡ told_verdict b → a ≡ b
told_injective (Ok a) (Ok b) h = refl
told_injective (Ok a) (Err f) h = cc
told_injective (Err e) (Ok b) h = cc
told_injective (Err e) (Err f) h = let n : note_of e ≡ note_of f = cc in ap Err (note_injective e f n)

-- `rent`, `settings` and `give_back`: whatever the definition says, one answer with one unit says it
pub done_unique : (o : Outcome) (a b : Done) → told a ≡ o → told b ≡ o → a ≡ b
done_unique o a b p q =
    let e : a.answer ≡ b.answer = told_injective a.answer b.answer (ap (λ (x : Outcome). x.verdict) (p ∙ sym q)) in
    let u : a.unit ≡ b.unit = ap (λ (x : Outcome). x.unit) (p ∙ sym q) in
    ap {B = Done} (λ x. record { answer = x; unit = a.unit }) e ∙ ap {B = Done} (λ x. record { answer = b.answer; unit = x }) u

-- `request`: the answer, the unit and the buffer
pub request_unique : {u : Shelf} {s out : List ℕ} {a b : Requested} {x y : List ℕ} → Replied u s out a x → Replied u s out b y
    → (a ≡ b) × (x ≡ y)
request_unique {a = a} {b = b} p q =
    let r = plan_into_unique p.reply q.reply in (
      ap {B = Requested} (λ z. record { answer = z; unit = a.unit }) r.0
          ∙ ap {B = Requested} (λ z. record { answer = b.answer; unit = z }) (p.same ∙ sym q.same),
      r.1,
    )

-- `ask`: the answer and all lists
pub ask_unique : (u : Shelf) (s : List ℕ) {n : ℕ} {a b : Result Spelling Fault} → Asks (asked_of u s) n a → Asks (asked_of u s) n b → a ≡ b
ask_unique u s p q = spelling_unique p q

-- `new`, `number` and `tenancy` are the value
pub new_unique : (n : ℕ) {a b : Shelf} → a ≡ new_unit n → b ≡ new_unit n → a ≡ b
new_unique n p q = p ∙ sym q

pub number_unique : (u : Shelf) {a b : ℕ} → a ≡ u.number → b ≡ u.number → a ≡ b
number_unique u p q = p ∙ sym q

pub tenancy_unique : (u : Shelf) {a b : ℕ} → a ≡ tenancy_of u → b ≡ tenancy_of u → a ≡ b
tenancy_unique u p q = p ∙ sym q
