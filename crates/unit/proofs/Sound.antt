-- What holds of every unit: it holds of a new one, and each call keeps it.
use mathlib.Core.Path.{◌≡◌, refl, ap}
use mathlib.Core.Bool.{false, ◌&&◌}
use mathlib.Core.List.{List}
use Prim.Native.Nat.{ℕ}
use native.Mathlib.Omega.{arith}
use borrow.Author.Tests.{ltb-true}
use lib.Dec.{eqb, ltb}
use Rattle.basics.proofs.Choice.{pick_elim}
use Rattle.field.specs.Sheet.{Out, got, refused as refused_sheet}
use Rattle.model.specs.declared.Rule.TheVariants.{Sum}
use Rattle.settings.specs.declared.Table.{Table}
use Rattle.settings.specs.Table.{table, no_table}
use Rattle.settings.specs.Sheet.{settings_sheet}
use Rattle.settings.proofs.Accepted.{accepted_proper, accepted_tenancy, none_proper}
use Rattle.unit.specs.declared.Unit.{Unit}
use Rattle.unit.specs.Life.{Outcome, rent, settled, set, give_back}
use Rattle.unit.specs.Sound.{Sound}
use Rattle.unit.specs.Unit.{new_unit, tenancy_of, tenanted, returned}
use Rattle.unit.proofs.Lives.{tenancy_free}

pub sound_new : (n : ℕ) → Sound (new_unit n)
unfolding new_unit
sound_new n = record { tenancy = λ h. absurd (let z : ◌≡◌ {A = ℕ} 0 1 = cc in omega arith); cleared = λ _. refl; proper = none_proper }

module _ (u : Unit) (w : Sound u) where
  -- while it is not rented, it holds the sum
  pub free_sum : u.rented ≡ false → u.table.rule ≡ Sum
  unfolding no_table table
  free_sum h = ap (λ (x : Table). x.rule) (w.cleared h)

  pub sound_rent : (t : ℕ) → Sound (rent u t).unit
  unfolding rent tenanted
  sound_rent t =
      pick_elim (λ (o : Outcome). Sound o.unit) u.rented _ _ (λ _. w) λ f.
      pick_elim (λ (o : Outcome). Sound o.unit) (ltb u.last t) _ _
      (λ l. record {
        tenancy = λ _. omega (arith, ltb-true u.last t l);
        cleared = λ h. absurd (let z : ◌≡◌ {A = ℕ} 0 1 = cc in omega arith);
        proper = none_proper;
      })
      (λ _. w)

  pub sound_back : (t : ℕ) → Sound (give_back u t).unit
  unfolding give_back returned
  sound_back t =
      pick_elim (λ (o : Outcome). Sound o.unit) (u.rented && eqb t u.last) _ _
      (λ _. record { tenancy = λ h. absurd (let z : ◌≡◌ {A = ℕ} 0 1 = cc in omega arith); cleared = λ _. refl; proper = none_proper })
      (λ _. w)

  -- what a settings sheet said, whatever it was
  settled_sound : (s : List ℕ) (o : Out Table) → settings_sheet u.number (tenancy_of u) s 0 ≡ o → Sound (settled u o).unit
  unfolding settled
  settled_sound s (refused_sheet n) h = w
  settled_sound s (got T e) h =
      record {
        tenancy = w.tenancy;
        cleared = λ f. absurd (omega (arith, tenancy_free u f, accepted_tenancy u.number (tenancy_of u) s T e h));
        proper = (accepted_proper u.number (tenancy_of u) s T e h).0;
      }

  pub sound_set : (s : List ℕ) → Sound (set u s).unit
  unfolding set
  sound_set s = settled_sound s (settings_sheet u.number (tenancy_of u) s 0) refl
