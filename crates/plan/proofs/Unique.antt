-- Each promise of this crate fixes the answer and the buffers: no second one satisfies it.
use mathlib.Core.Path.{◌≡◌, sym, ◌∙◌}
use mathlib.Core.List.{List}
use Prim.Native.Nat.{ℕ}
use Rattle.std.specs.Prelude.{Result}
use Rattle.field.specs.Sheet.{Out, got}
use Rattle.field.specs.declared.Fault.{Fault}
use Rattle.field.specs.Send.{Sent}
use Rattle.field.proofs.Unique.{told_by_injective, not_refused}
use Rattle.field.proofs.Sends.{sent_unique}
use Rattle.plan.specs.declared.Head.{Head}
use Rattle.plan.specs.Plan.{Plan}
use Rattle.plan.specs.Told.{told_plan}
use Rattle.plan.specs.Receive.{Received}
use Rattle.plan.specs.Draft.{plan_draft}

head_same : {a b : Head} {n : ℕ} → ◌≡◌ {A = Out Head} (got a n) (got b n) → a ≡ b
head_same h = cc

-- two answers that say the same are the same
pub told_injective : (bytes : ℕ) (a b : Result Head Fault) → told_plan bytes a ≡ told_plan bytes b → a ≡ b
told_injective bytes = told_by_injective (λ h. got h bytes) (λ a b h. head_same h) (λ a e h. not_refused h)

-- `read`: the answer and both lists
pub read_unique : (sheet : Out Plan) (bytes : ℕ) (disks short : List ℕ) (a b : Result Head Fault) (d e m n : List ℕ)
    → Received sheet bytes disks short a d m → Received sheet bytes disks short b e n → (a ≡ b) × (d ≡ e) × (m ≡ n)
read_unique sheet bytes disks short a b d e m n p q = (
  told_injective bytes a b (p.answer ∙ sym q.answer),
  p.blocks ∙ sym q.blocks,
  p.members ∙ sym q.members,
)

-- `write`: the answer and the buffer
pub write_unique : (unit t : ℕ) (p : Plan) (out : List ℕ) (a b : Result ℕ Fault) (x y : List ℕ) → Sent (plan_draft unit t p) out a x
    → Sent (plan_draft unit t p) out b y → (a ≡ b) × (x ≡ y)
write_unique unit t p out a b x y f g = sent_unique (plan_draft unit t p) out a b x y f g
