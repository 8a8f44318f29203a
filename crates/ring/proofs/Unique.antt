-- Each promise has one answer.
--     unlinked_unique, linked_unique     `unlink`, `link`
use mathlib.Core.Path.{◌≡◌, sym, ◌∙◌}
use mathlib.Core.List.{List}
use Prim.Native.Nat.{ℕ}
use Rattle.ring.specs.Rings.{Unlinked, Linked}

module _ (b : ℕ) (next prev next₁ prev₁ next₂ prev₂ : List ℕ) where
  pub unlinked_unique : Unlinked b next prev next₁ prev₁ → Unlinked b next prev next₂ prev₂ → (next₁ ≡ next₂) × (prev₁ ≡ prev₂)
  unlinked_unique p q = (p.0 ∙ sym q.0, p.1 ∙ sym q.1)

  pub linked_unique : (c : ℕ) → Linked b c next prev next₁ prev₁ → Linked b c next prev next₂ prev₂ → (next₁ ≡ next₂) × (prev₁ ≡ prev₂)
  linked_unique c p q = (p.0 ∙ sym q.0, p.1 ∙ sym q.1)
