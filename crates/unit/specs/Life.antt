-- The unit's life: each call takes the unit and hands the unit back.
--     Verdict       accepted, or a refusal
--     Outcome       a verdict, and the unit afterwards
--     rent, set, give_back     what each call comes to
use Rattle.std.specs.Prelude.{ℕ, ◌&&◌, List, eqb, ltb}
use Rattle.basics.specs.Choice.{pick}
use Rattle.field.specs.Sheet.{Note, unplaced, Out, got, refused as refused_sheet}
use Rattle.settings.specs.declared.Table.{Table}
use Rattle.settings.specs.Sheet.{settings_sheet}
use Rattle.unit.specs.declared.Unit.{Unit}
use Rattle.unit.specs.Unit.{tenancy_of, tenanted, with_table, returned}

pub data Verdict : Type 0 where
  accepted : Verdict
  refused : Note → Verdict

pub record Outcome : Type 0 where
  pub verdict : Verdict
  pub unit : Unit

-- accepted, with the unit that comes of it
abbrev pub takes : Unit → Outcome
takes u = record { verdict = accepted; unit = u }

-- refused, with the unit as it was
abbrev pub refuses : Unit → Note → Outcome
refuses u n = record { verdict = refused n; unit = u }

-- Rent t: 12 while rented, 13 if t is not above the last tenancy
unfoldable pub rent : Unit → ℕ → Outcome
rent u t = pick u.rented (refuses u (unplaced 12)) (pick (ltb u.last t) (takes (tenanted u t)) (refuses u (unplaced 13)))

-- what a settings sheet said
unfoldable pub settled : Unit → Out Table → Outcome
settled u (got t e) = takes (with_table u t)
settled u (refused_sheet n) = refuses u n

-- Settings: the sheet is for this unit and its tenancy, and the whole table is replaced
unfoldable pub set : Unit → List ℕ → Outcome
set u s = settled u (settings_sheet u.number (tenancy_of u) s 0)

-- Return t: 14 while not rented, or of another tenancy
unfoldable pub give_back : Unit → ℕ → Outcome
give_back u t = pick (u.rented && eqb t u.last) (takes (returned u)) (refuses u (unplaced 14))
