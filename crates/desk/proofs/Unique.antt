-- Each promise of an exported function fixes the answer and every lent buffer: nothing else satisfies it.
use mathlib.Core.Path.{◌≡◌, sym, ◌∙◌}
use mathlib.Core.List.{List}
use Prim.Native.Nat.{ℕ}
use Rattle.field.specs.Send.{Draft}
use Rattle.desk.specs.Desk.{Exported, PlanRead}

-- every writer
pub exported_unique : (d : Draft) (out : List ℕ) (a b : ℕ) (x y : List ℕ) → Exported d out a x → Exported d out b y → (a ≡ b) × (x ≡ y)
exported_unique d out a b x y p q = (p.answer ∙ sym q.answer, p.held ∙ sym q.held)

pub plan_read_unique : (unit t : ℕ) (sheet disks set : List ℕ) (a b : ℕ) (x y u v : List ℕ) → PlanRead unit t sheet disks set a x u
    → PlanRead unit t sheet disks set b y v → (a ≡ b) × (x ≡ y) × (u ≡ v)
plan_read_unique unit t sheet disks set a b x y u v p q =
    (p.answer ∙ sym q.answer, p.blocks ∙ sym q.blocks, p.members ∙ sym q.members)
