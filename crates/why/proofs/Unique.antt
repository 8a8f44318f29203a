-- A question has one answer: of each block and disk exactly one reason is true.
--     explains_unique, explains_exists     what is answered is one reason, or one refusal; every sound unit has such an answer
--     why_unique, explained_unique         `answer`, `explain`: no second answer satisfies their promise
use Prim.Native.Nat.{ℕ, ◌<◌}
use mathlib.Core.Path.{◌≡◌, refl, sym, ap, ap₂, ◌∙◌}
use mathlib.Core.List.{List}
use Rattle.std.specs.Prelude.{Result}
use Rattle.field.specs.declared.Fault.{Fault}
use Rattle.field.specs.Sheet.{Out, got, refused}
use Rattle.field.proofs.Unique.{told_by_injective, not_refused}
use Rattle.model.specs.Case.{Case}
use Rattle.planner.specs.Asked.{Plannable}
use Rattle.planner.proofs.Plannable.{priced, asked_plannable}
use Rattle.reason.specs.declared.Reason.{Reason}
use Rattle.reason.proofs.Told.{reasons_exist}
use Rattle.reason.proofs.Unique.{reasons_unique}
use Rattle.unit.specs.declared.Unit.{Unit as Shelf}
use Rattle.unit.specs.Request.{asked_of}
use Rattle.unit.specs.Sound.{Sound}
use Rattle.unit.specs.Unit.{tenancy_of}
use Rattle.why.specs.declared.Reasoned.{Reasoned}
use Rattle.why.specs.Why.{within, Explains, told_why, Explained}
use Rattle.why.proofs.Within.{within_in}

-- ---- one answer

one_of : (o : Out Case) (b d : ℕ) {x y : Out Reason} → ((m : Case) (e : ℕ) → o ≡ got m e → b < m.blocks)
    → Explains o b d x → Explains o b d y → x ≡ y
unfolding Explains
one_of (refused n) b d h v w = v ∙ sym w
one_of (got m e) b d h v w = v.2 ∙ ap (λ (r : Reason). got r 0) (reasons_unique v.1 w.1 (h m e refl)) ∙ sym w.2

pub explains_unique : (o : Out Case) (b d : ℕ) {x y : Out Reason} → Explains (within o b d) b d x → Explains (within o b d) b d y → x ≡ y
explains_unique o b d v w = one_of (within o b d) b d (λ m e h. (within_in o b d h).1) v w

told_injective : (a b : Result Reason Fault) → told_why a ≡ told_why b → a ≡ b
told_injective = told_by_injective (λ r. got r 0) (λ a b h. cc) (λ a e h. not_refused h)

pub why_unique : (o : Out Case) (b d : ℕ) {x y : Result Reason Fault}
    → Explains (within o b d) b d (told_why x) → Explains (within o b d) b d (told_why y) → x ≡ y
why_unique o b d {x} {y} v w = told_injective x y (explains_unique o b d v w)

pub explained_unique : (u : Shelf) (s : List ℕ) (b d : ℕ) (x y : Reasoned) → Explained u s b d x → Explained u s b d y → x ≡ y
explained_unique u s b d x y v w =
    ap₂ (λ (a : Result Reason Fault) (z : Shelf). record { answer = a; unit = z }) (why_unique (asked_of u s) b d v.says w.says)
    (v.same ∙ sym w.same)

-- ---- an answer

some_of : (o : Out Case) (b d : ℕ) → ((m : Case) (e : ℕ) → o ≡ got m e → Plannable m × (b < m.blocks) × (d < m.disks))
    → (x : Out Reason) × Explains o b d x
unfolding Explains
some_of (refused n) b d h = (refused n, refl)
some_of (got m e) b d h =
    let k = h m e refl in
    let r = reasons_exist (priced k.0) k.0.held k.1 k.2 in
    (got r.0 0, (r.0, r.1, refl))

pub explains_exists : (u : Shelf) (s : List ℕ) (b d : ℕ) → Sound u → (x : Out Reason) × Explains (within (asked_of u s) b d) b d x
explains_exists u s b d w =
    some_of (within (asked_of u s) b d) b d λ m e h.
    let k = within_in (asked_of u s) b d h in
    (asked_plannable w.proper u.number (tenancy_of u) s k.0, k.1, k.2)
