-- No second answer satisfies the engine's promise.
--     front_unique      two buffers that start with the same numbers, rising, and were the same behind them, are the same
--     planned_unique    two answers with their buffers that meet the promise are equal
use Prim.Native.Nat.{ℕ, ◌-◌, ◌<◌}
use mathlib.Core.Path.{◌≡◌, sym, ap, ap₂, ◌∙◌}
use mathlib.Core.Logic.{◌⊎◌, inl, inr}
use mathlib.Core.List.{List}
use native.Mathlib.Omega.{arith}
use native.Mathlib.Nat.{eq-zero-or-pos}
use lib.Dec.{ltb}
use lib.ListN.{get_or, length, take}
use lib.Seq.{ext_get_or, get_or-take, length-take-le}
use borrow.Author.Tests.{ltb-true, ltb-false}
use Rattle.basics.specs.Lists.{listed}
use Rattle.basics.proofs.Tests.{by_cases}
use Rattle.basics.proofs.Lists.{rising_same}
use Rattle.model.specs.Order.{Agree}
use Rattle.model.proofs.Plan.{plan_unique}
use Rattle.engine.specs.Spelled.{spelled, Loaded}
use Rattle.engine.specs.Planned.{Front, Planned}
use Rattle.engine.specs.declared.Found.{Found}

module _ {q m₁ m₂ : ℕ} {short short₁ short₂ : List ℕ} (f₁ : Front q m₁ short short₁) (f₂ : Front q m₂ short short₂)
    (e : Agree q (listed (take m₁ short₁)) (listed (take m₂ short₂))) where
  same_start : take m₁ short₁ ≡ take m₂ short₂
  unfolding Agree
  same_start = side (eq-zero-or-pos q)
    where
      side : (q ≡ 0) ⊎ (0 < q) → take m₁ short₁ ≡ take m₂ short₂
      side (inl z) =
          ap (λ (k : ℕ). take k short₁) {x = m₁} {y = 0} (omega (arith, f₁.few))
          ∙ sym (ap (λ (k : ℕ). take k short₂) {x = m₂} {y = 0} (omega (arith, f₂.few)))
      side (inr p) = rising_same 0 (q - 1) _ _ f₁.rises f₂.rises (λ b l. e b (omega arith))

  same_size : m₁ ≡ m₂
  same_size = sym (length-take-le m₁ short₁ f₁.fits) ∙ ap length same_start ∙ length-take-le m₂ short₂ f₂.fits

  pub front_unique : (m₁ ≡ m₂) × (short₁ ≡ short₂)
  front_unique = (
    same_size,
    ext_get_or 0 short₁ short₂ (f₁.short_long ∙ sym f₂.short_long) (λ i _. by_cases (ltb i m₁)
        (λ t. let l = ltb-true i m₁ t in
        sym (get_or-take m₁ short₁ i 0 l) ∙ ap (λ (xs : List ℕ). get_or xs i 0) same_start
        ∙ get_or-take m₂ short₂ i 0 (omega (arith, l, same_size)))
        (λ t. let l = ltb-false i m₁ t in f₁.short_rest i l ∙ sym (f₂.short_rest i (omega (arith, l, same_size))))),
  )

pub load_unique : (copies a b : List ℕ) → Loaded copies a → Loaded copies b → a ≡ b
load_unique copies a b p q = ext_get_or 0 a b (p.long ∙ sym q.long) (λ i _. p.same i ∙ sym (q.same i))

pub planned_unique : (copies costs starts disks short disks₁ short₁ disks₂ short₂ : List ℕ) (r₁ r₂ : Found)
    → Planned copies costs starts disks short disks₁ short₁ r₁ → Planned copies costs starts disks short disks₂ short₂ r₂
    → (r₁ ≡ r₂) × (disks₁ ≡ disks₂) × (short₁ ≡ short₂)
unfolding Agree
planned_unique copies costs starts disks short disks₁ short₁ disks₂ short₂ r₁ r₂ p₁ p₂ =
    let q = length copies in
    let u = plan_unique (spelled copies costs starts) r₁.time r₂.time (λ b. get_or disks₁ b 0) (λ b. get_or disks₂ b 0)
    (listed (take r₁.size short₁)) (listed (take r₂.size short₂)) p₁.plan p₂.plan in
    let s = front_unique p₁.set p₂.set u.2 in (
      ap₂ (λ (t m : ℕ). record { time = t; size = m }) u.0 s.0,
      ext_get_or 0 disks₁ disks₂ (p₁.disks_long ∙ sym p₂.disks_long) (λ i _. by_cases (ltb i q)
          (λ t. u.1 i (ltb-true i q t))
          (λ t. p₁.disks_rest i (ltb-false i q t) ∙ sym (p₂.disks_rest i (ltb-false i q t)))),
      s.1,
    )
