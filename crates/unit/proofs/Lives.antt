-- Laws of the calls: what each comes to, case by case.
use mathlib.Core.Path.{◌≡◌, refl, sym, ap, ◌∙◌}
use mathlib.Core.Bool.{Bool, true, false, not}
use mathlib.Core.List.{List}
use Prim.Native.Nat.{ℕ, ◌≤◌, ◌<◌}
use native.Mathlib.Omega.{arith}
use borrow.Author.Tests.{lt-ltb, le-ltb, eq-eqb, ne_eqb}
use lib.Dec.{eqb}
use lib.ListN.{get_or}
use Rattle.basics.specs.Choice.{pick}
use Rattle.basics.proofs.Choice.{pick_true, pick_false}
use Rattle.std.specs.Prelude.{Result, Ok, Err}
use Rattle.field.specs.declared.Fault.{Fault}
use Rattle.field.specs.Field.{opening}
use Rattle.field.specs.Refusal.{note_of}
use Rattle.field.specs.Told.{told_by}
use Rattle.field.specs.Sheet.{unplaced, Out, got}
use Rattle.model.specs.declared.Rule.TheVariants.{Sum}
use Rattle.settings.specs.declared.Table.{Table}
use Rattle.settings.specs.Table.{table, no_table}
use Rattle.settings.specs.Row.{no_disk}
use Rattle.settings.specs.Sheet.{kinds, rule_in, settings_sheet}
use Rattle.settings.proofs.Accepted.{accepted_rule, marks_none, none_proper, proper_zero}
use Rattle.settings.specs.Told.{Told}
use Rattle.unit.specs.declared.Unit.{Unit}
use Rattle.unit.specs.Life.{takes, refuses, rent, settled, set, give_back}
use Rattle.unit.specs.Unit.{new_unit, tenancy_of, tenanted, with_table, returned}

pub new_anew : (n : ℕ) (x : Table) → x ≡ no_table → record { number = n; last = 0; rented = false; table = x } ≡ new_unit n
unfolding new_unit
new_anew n x e = ap {B = Unit} (λ y. record { number = n; last = 0; rented = false; table = y }) e

-- a new unit holds the sum
pub new_sum : (n : ℕ) → (new_unit n).table.rule ≡ Sum
unfolding new_unit no_table table
new_sum n = refl

-- and no disk of it is out
no_marks : (i : ℕ) → (get_or no_table.rows i no_disk).mark ≡ 0
unfolding no_table table
no_marks i = ap (λ r. r.mark) (proper_zero none_proper i (omega arith))

pub new_marks : (n i : ℕ) → (get_or (new_unit n).table.rows i no_disk).mark ≡ 0
unfolding new_unit
new_marks n i = no_marks i

-- what a test for not rented says
pub not_rented : (b : Bool) → not b ≡ true → b ≡ false
not_rented true h = sym h
not_rented false h = refl

pub is_rented : (b : Bool) → not b ≡ false → b ≡ true
is_rented true h = refl
is_rented false h = sym h

module _ (u : Unit) where
  pub tenancy_rented : u.rented ≡ true → tenancy_of u ≡ u.last
  unfolding tenancy_of
  tenancy_rented h = pick_true _ _ h

  pub tenancy_free : u.rented ≡ false → tenancy_of u ≡ 0
  unfolding tenancy_of
  tenancy_free h = pick_false _ _ h

  module _ (t : ℕ) where
    pub rent_rented : u.rented ≡ true → rent u t ≡ refuses u (unplaced 12)
    unfolding rent
    rent_rented h = pick_true _ _ h

    pub rent_low : u.rented ≡ false → t ≤ u.last → rent u t ≡ refuses u (unplaced 13)
    unfolding rent
    rent_low h l = pick_false _ _ h ∙ pick_false _ _ (le-ltb _ _ l)

    pub rent_taken : u.rented ≡ false → u.last < t → rent u t ≡ takes (tenanted u t)
    unfolding rent
    rent_taken h l = pick_false _ _ h ∙ pick_true _ _ (lt-ltb _ _ l)

    -- with a table that was made anew
    pub rent_anew : u.rented ≡ false → u.last < t → (x : Table) → x ≡ no_table
        → rent u t ≡ takes (record { number = u.number; last = t; rented = true; table = x })
    unfolding tenanted
    rent_anew h l x e = rent_taken h l ∙ ap (λ y. takes (record { number = u.number; last = t; rented = true; table = y })) (sym e)

    pub back_taken : u.rented ≡ true → t ≡ u.last → give_back u t ≡ takes (returned u)
    unfolding give_back
    back_taken h e = rw (h, eq-eqb t u.last e) (pick_true _ _ refl)

    pub back_anew : u.rented ≡ true → t ≡ u.last → (x : Table) → x ≡ no_table
        → give_back u t ≡ takes (record { number = u.number; last = u.last; rented = false; table = x })
    unfolding returned
    back_anew h q x e = back_taken h q ∙ ap (λ y. takes (record { number = u.number; last = u.last; rented = false; table = y })) (sym e)

    pub back_other : u.rented ≡ true → (t ≡ u.last → ⊥) → give_back u t ≡ refuses u (unplaced 14)
    unfolding give_back
    back_other h e = rw (h, ne_eqb t u.last e) (pick_false _ _ refl)

    pub back_free : u.rented ≡ false → give_back u t ≡ refuses u (unplaced 14)
    unfolding give_back
    back_free h = rw h (pick_false _ _ refl)

  -- ---- what the reader of settings said

  module _ (n : ℕ) (o : Out Table) (r : Result Table Fault) (h : Told n o r) where
    pub settled_accepted : {t : Table} → r ≡ Ok t → settled u o ≡ takes (with_table u t)
    unfolding settled
    settled_accepted e = ap (settled u) (sym h ∙ ap (told_by (λ t. got t n)) e)

    pub settled_refused : (e : Fault) → r ≡ Err e → settled u o ≡ refuses u (note_of e)
    unfolding settled
    settled_refused e q = ap (settled u) (sym h ∙ ap (told_by (λ t. got t n)) q)

  -- ---- the start rule and the marks

  -- rented or returned, the unit holds the sum, and no disk is out
  pub rented_sum : (t : ℕ) → (tenanted u t).table.rule ≡ Sum
  unfolding tenanted no_table table
  rented_sum t = refl

  pub returned_sum : (returned u).table.rule ≡ Sum
  unfolding returned no_table table
  returned_sum = refl

  pub rented_marks : (t i : ℕ) → (get_or (tenanted u t).table.rows i no_disk).mark ≡ 0
  unfolding tenanted
  rented_marks t i = no_marks i

  pub returned_marks : (i : ℕ) → (get_or (returned u).table.rows i no_disk).mark ≡ 0
  unfolding returned
  returned_marks i = no_marks i

  -- after settings of kind 1 or 5, the rule that the kind says, and no disk is out
  module _ (s : List ℕ) {T : Table} {e k m : ℕ} (h : settings_sheet u.number (tenancy_of u) s 0 ≡ got T e)
      (o : opening kinds u.number (tenancy_of u) s 0 ≡ got k m) (f : eqb k 6 ≡ false) where
    pub set_rule : (set u s).unit.table.rule ≡ rule_in (pick (eqb k 5) 2 1)
    unfolding set settled
    set_rule =
        ap (λ (x : Out Table). (settled u x).unit.table.rule) h ∙ accepted_rule u.number (tenancy_of u) s T e k m h o f

    pub set_marks : (i : ℕ) → (get_or (set u s).unit.table.rows i no_disk).mark ≡ 0
    unfolding set settled
    set_marks i =
        ap (λ (x : Out Table). (get_or (settled u x).unit.table.rows i no_disk).mark) h
        ∙ marks_none u.number (tenancy_of u) s T e k m h o f i

  -- the sheet is read for the tenancy that was found
  pub set_found : (t : ℕ) (s : List ℕ) → t ≡ tenancy_of u → set u s ≡ settled u (settings_sheet u.number t s 0)
  unfolding set
  set_found t s e = ap (λ (k : ℕ). settled u (settings_sheet u.number k s 0)) (sym e)
