-- Each promise of this crate fixes the answer: no second one satisfies it.
use mathlib.Core.Path.{◌≡◌, sym, ◌∙◌}
use mathlib.Core.List.{List}
use Prim.Native.Nat.{ℕ}
use Rattle.std.specs.Prelude.{Result}
use Rattle.field.specs.declared.Fault.{Fault}
use Rattle.field.specs.Send.{Sent}
use Rattle.field.specs.Sheet.{got}
use Rattle.field.proofs.Sends.{sent_unique}
use Rattle.field.proofs.Unique.{told_by_injective, not_refused}
use Rattle.model.specs.declared.Rule.{Rule}
use Rattle.settings.specs.declared.Table.{Table}
use Rattle.settings.specs.Table.{no_table}
use Rattle.settings.specs.Sheet.{settings_sheet}
use Rattle.settings.specs.Told.{Told}
use Rattle.settings.specs.Draft.{settings_draft, marked_draft}

-- `empty`
pub empty_unique : (a b : Table) → a ≡ no_table → b ≡ no_table → a ≡ b
empty_unique a b p q = p ∙ sym q

-- `read`: the table, or the refusal
pub read_unique : (unit t : ℕ) (s : List ℕ) (n : ℕ) (a b : Result Table Fault)
    → Told n (settings_sheet unit t s 0) a → Told n (settings_sheet unit t s 0) b → a ≡ b
read_unique unit t s n a b p q =
    told_by_injective (λ T. got T n) (λ T U h. cc) (λ T e h. not_refused h) a b (p ∙ sym q)

-- `write` and `write_marked`: the answer and the buffer
module _ (unit t : ℕ) (cs ls ds out : List ℕ) (a b : Result ℕ Fault) (x y : List ℕ) where
  pub write_unique : (r : Rule) → Sent (settings_draft r unit t cs ls ds) out a x → Sent (settings_draft r unit t cs ls ds) out b y
      → (a ≡ b) × (x ≡ y)
  write_unique r p q = sent_unique (settings_draft r unit t cs ls ds) out a b x y p q

  pub write_marked_unique : (r : ℕ) (ms : List ℕ) → Sent (marked_draft unit t r cs ls ds ms) out a x
      → Sent (marked_draft unit t r cs ls ds ms) out b y → (a ≡ b) × (x ≡ y)
  write_marked_unique r ms p q = sent_unique (marked_draft unit t r cs ls ds ms) out a b x y p q
