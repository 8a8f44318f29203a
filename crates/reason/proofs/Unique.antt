-- No two reasons are true of a block and a disk.
--     chosen_keeps, none_lower     the plan's own choice keeps the earlier ones; no lower disk does
--     reason_unique                two true reasons are one, the time included
--     reasons_unique               whichever plan of the case they are true of
use Prim.Native.Nat.{ℕ, ◌≤◌, ◌<◌}
use mathlib.Core.Path.{◌≡◌, refl, ap, subst, ◌∙◌}
use mathlib.Core.Bool.{Bool, true}
use native.Mathlib.Omega.{arith}
use Rattle.model.specs.Case.{Case, HasTime, Schedule}
use Rattle.model.specs.Assignment.{Valid}
use Rattle.model.specs.Order.{Agree}
use Rattle.model.specs.Plan.{Optimal}
use Rattle.basics.proofs.Tests.{differ}
use Rattle.model.proofs.Order.{Lowest, first_lowest}
use Rattle.model.proofs.Plan.{plan_unique}
use Rattle.model.proofs.Time.{time_unique}
use Rattle.reason.specs.Reason.{forced, Could, Keeps, Why, Reasons}
use Rattle.reason.specs.declared.Reason.{Reason}
use Rattle.reason.specs.declared.Reason.TheVariants.{NoCopy, Later, NotKept, Lower, Chosen}

module _ (m : Case) (R : ℕ) (a : ℕ → ℕ) (S : ℕ → Bool) (p : Optimal m R a S) (b d : ℕ) (h : b < m.blocks) where
  low : Lowest m.blocks (HasTime m R) a
  low = first_lowest (HasTime m R) m.blocks a p.first

  -- what is read there is a copy
  could_copy : Could m R b d → m.copy b d ≡ true
  unfolding Could HasTime Schedule Valid
  could_copy c = subst (λ (y : ℕ). m.copy b y ≡ true) c.2 (c.1.0 b h).1

  keeps_could : Keeps m R a b d → Could m R b d
  unfolding Keeps Could
  keeps_could k = (k.0, k.1, k.3)

  pub chosen_keeps : a b ≡ d → Keeps m R a b d
  unfolding Keeps Agree
  chosen_keeps e = (a, low.holds, λ i l. refl, e)

  -- a lower disk that could is no plan's choice passed over
  pub none_lower : (e : ℕ) → Keeps m R a b e → a b ≤ e
  unfolding Keeps
  none_lower e k = subst (λ (y : ℕ). a b ≤ y) k.3 (low.low k.0 k.1 b h k.2)

  pub reason_unique : (r s : Reason) → Why m R a b d r → Why m R a b d s → r ≡ s
  unfolding Why
  reason_unique NoCopy NoCopy x y = refl
  reason_unique NoCopy (Later T) x y = absurd (differ y.0 x)
  reason_unique NoCopy NotKept x y = absurd (differ (could_copy y.0) x)
  reason_unique NoCopy Lower x y = absurd (differ (could_copy (keeps_could y.0)) x)
  reason_unique NoCopy Chosen x y = absurd (differ (could_copy (keeps_could (chosen_keeps y))) x)
  reason_unique (Later T) NoCopy x y = absurd (differ x.0 y)
  reason_unique (Later T) (Later T') x y = ap Later (time_unique (forced m b d) T T' x.2 y.2)
  reason_unique (Later T) NotKept x y = absurd (x.1 y.0)
  reason_unique (Later T) Lower x y = absurd (x.1 (keeps_could y.0))
  reason_unique (Later T) Chosen x y = absurd (x.1 (keeps_could (chosen_keeps y)))
  reason_unique NotKept NoCopy x y = absurd (differ (could_copy x.0) y)
  reason_unique NotKept (Later T) x y = absurd (y.1 x.0)
  reason_unique NotKept NotKept x y = refl
  reason_unique NotKept Lower x y = absurd (x.1 y.0)
  reason_unique NotKept Chosen x y = absurd (x.1 (chosen_keeps y))
  reason_unique Lower NoCopy x y = absurd (differ (could_copy (keeps_could x.0)) y)
  reason_unique Lower (Later T) x y = absurd (y.1 (keeps_could x.0))
  reason_unique Lower NotKept x y = absurd (y.1 x.0)
  reason_unique Lower Lower x y = refl
  reason_unique Lower Chosen x y = absurd (omega (arith, none_lower x.1.0 x.1.2, x.1.1, y))
  reason_unique Chosen NoCopy x y = absurd (differ (could_copy (keeps_could (chosen_keeps x))) y)
  reason_unique Chosen (Later T) x y = absurd (y.1 (keeps_could (chosen_keeps x)))
  reason_unique Chosen NotKept x y = absurd (y.1 (chosen_keeps x))
  reason_unique Chosen Lower x y = absurd (omega (arith, none_lower y.1.0 y.1.2, y.1.1, x))
  reason_unique Chosen Chosen x y = refl

-- ---- the plans of a case agree below the number of blocks, and what is true of one is true of the other

module _ (m : Case) (R : ℕ) (a a' : ℕ → ℕ) (b : ℕ) (h : b < m.blocks) (s : Agree m.blocks a a') where
  keeps_same : (d : ℕ) → Keeps m R a b d → Keeps m R a' b d
  unfolding Keeps Agree
  keeps_same d k = (k.0, k.1, λ i l. k.2 i l ∙ s i (omega (arith, l, h)), k.3)

why_same : (m : Case) (R : ℕ) (a a' : ℕ → ℕ) (b d : ℕ) → b < m.blocks → Agree m.blocks a a' → Agree m.blocks a' a
    → (r : Reason) → Why m R a b d r → Why m R a' b d r
unfolding Why Agree
why_same m R a a' b d h s t NoCopy x = x
why_same m R a a' b d h s t (Later T) x = x
why_same m R a a' b d h s t NotKept x = (x.0, λ k. x.1 (keeps_same m R a' a b h t d k))
why_same m R a a' b d h s t Lower x =
    (keeps_same m R a a' b h s d x.0, (x.1.0, x.1.1, keeps_same m R a a' b h s x.1.0 x.1.2))
why_same m R a a' b d h s t Chosen x = t b h ∙ x

pub reasons_unique : {m : Case} {b d : ℕ} {r r' : Reason} → Reasons m b d r → Reasons m b d r' → b < m.blocks → r ≡ r'
reasons_unique {m} {b} {d} {r} {r'} v w h =
    let s = plan_unique m w.time v.time w.schedule v.schedule w.set v.set w.plan v.plan in
    let t = plan_unique m v.time w.time v.schedule w.schedule v.set w.set v.plan w.plan in
    let y : Why m v.time v.schedule b d r' =
    subst (λ (R : ℕ). Why m R v.schedule b d r') s.0
    (why_same m w.time w.schedule v.schedule b d h s.1 t.1 r' w.why) in
    reason_unique m v.time v.schedule v.set v.plan b d h r r' v.why y
