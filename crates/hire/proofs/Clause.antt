-- The clause: once a new tenancy is accepted, all answers are those of a new unit given that tenancy.
--     rent_same     two units of one number that both accept Rent t are then equal, and equal to a new unit that rented t
--     clause        whatever calls came before, all later answers agree, and are those of a new unit
use mathlib.Core.Path.{◌≡◌, refl, sym, ap, ◌∙◌, subst}
use mathlib.Core.Bool.{true}
use mathlib.Core.List.{List}
use Prim.Native.Nat.{ℕ, ◌<◌}
use native.Mathlib.Omega.{arith}
use borrow.Author.Tests.{ltb-true, ltb-false}
use lib.Dec.{ltb}
use Rattle.basics.proofs.Tests.{by_cases}
use Rattle.settings.specs.Table.{no_table}
use Rattle.unit.specs.declared.Unit.{Unit as Shelf}
use Rattle.field.specs.Sheet.{Note, unplaced}
use Rattle.unit.specs.Life.{accepted, refused, Outcome, rent}
use Rattle.unit.specs.Unit.{new_unit, tenanted}
use Rattle.unit.proofs.Lives.{rent_rented, rent_low, rent_taken}
use Rattle.hire.specs.Calls.{Call, Reply, Runs}
use Rattle.hire.proofs.Runs.{runs_unique, unit_number}

-- what an accepted Rent says
record Accepts (u : Shelf) (t : ℕ) : Type 0 where
  above : u.last < t
  after : (rent u t).unit ≡ tenanted u t

pub clash : {X : Type 0} (n : Note) → refused n ≡ accepted → X
clash n h = absurd (let z : ◌≡◌ {A = ℕ} 0 1 = cc in omega arith)

accepts : (u : Shelf) (t : ℕ) → (rent u t).verdict ≡ accepted → Accepts u t
accepts u t h =
    by_cases u.rented
    (λ r. clash (unplaced 12) (sym (ap (λ (o : Outcome). o.verdict) (rent_rented u t r)) ∙ h))
    (λ f.
    by_cases (ltb u.last t)
    (λ l. record { above = ltb-true _ _ l; after = ap (λ (o : Outcome). o.unit) (rent_taken u t f (ltb-true _ _ l)) })
    (λ l. clash (unplaced 13) (sym (ap (λ (o : Outcome). o.verdict) (rent_low u t f (ltb-false _ _ l))) ∙ h)))

tenanted_same : (u v : Shelf) (t : ℕ) → u.number ≡ v.number → tenanted u t ≡ tenanted v t
unfolding tenanted
tenanted_same u v t e = ap {B = Shelf} (λ (n : ℕ). record { number = n; last = t; rented = true; table = no_table }) e

-- a new unit accepts any tenancy above 0
new_accepts : (n t : ℕ) → 0 < t → (rent (new_unit n) t).unit ≡ tenanted (new_unit n) t
unfolding new_unit
new_accepts n t l = ap (λ (o : Outcome). o.unit) (rent_taken (new_unit n) t refl l)

module _ (u : Shelf) (t : ℕ) (h : (rent u t).verdict ≡ accepted) where
  pub rent_same : (v : Shelf) → u.number ≡ v.number → (rent v t).verdict ≡ accepted → (rent u t).unit ≡ (rent v t).unit
  rent_same v e k = (accepts u t h).after ∙ tenanted_same u v t e ∙ sym (accepts v t k).after

  pub rent_new : (n : ℕ) → u.number ≡ n → (rent u t).unit ≡ (rent (new_unit n) t).unit
  unfolding new_unit
  rent_new n e = (accepts u t h).after ∙ tenanted_same u (new_unit n) t e ∙ sym (new_accepts n t (omega (arith, (accepts u t h).above)))

-- two hires of units of one number, with any calls before: if both accept Rent t, then whatever calls come after, all answers agree
-- with each other and with those of a new unit that rented t, and the three units are equal
pub clause : (n : ℕ) {before before' : List Call} {rs rs' : List Reply} {u v : Shelf}
    → Runs (new_unit n) before rs u → Runs (new_unit n) before' rs' v
    → (t : ℕ) → (rent u t).verdict ≡ accepted → (rent v t).verdict ≡ accepted
    → {after : List Call} {xs ys zs : List Reply} {x y z : Shelf}
    → Runs (rent u t).unit after xs x → Runs (rent v t).unit after ys y → Runs (rent (new_unit n) t).unit after zs z
    → (xs ≡ ys) × (xs ≡ zs) × (x ≡ y) × (x ≡ z)
clause n {u = u} {v = v} p q t h k {after} {xs = xs} {x = x} a b c =
    let un : u.number ≡ n = unit_number n p in
    let vn : v.number ≡ n = unit_number n q in
    let one = runs_unique after (subst (λ (m : Shelf). Runs m after xs x) (rent_same u t h v (un ∙ sym vn) k) a) b in
    let two = runs_unique after (subst (λ (m : Shelf). Runs m after xs x) (rent_new u t h n un) a) c in
    (one.0, two.0, one.1, two.1)
