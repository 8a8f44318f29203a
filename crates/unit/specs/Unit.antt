-- A unit: its number, the last tenancy accepted, whether it is rented, and its table: N, the start rule and 64 rows.
use Rattle.std.specs.Prelude.{ℕ, true, false}
use Rattle.basics.specs.Choice.{pick}
use Rattle.settings.specs.declared.Table.{Table}
use Rattle.settings.specs.Table.{no_table}
use Rattle.unit.specs.declared.Unit.{Unit}

-- a new unit: last tenancy 0, not rented, N = 0, the rule the sum, all rows 0
unfoldable pub new_unit : ℕ → Unit
new_unit n = record { number = n; last = 0; rented = false; table = no_table }

-- the tenancy that a sheet must name: 0 stands for not rented, and no tenancy is 0
unfoldable pub tenancy_of : Unit → ℕ
tenancy_of u = pick u.rented u.last 0

-- rented with tenancy t, nothing set yet
unfoldable pub tenanted : Unit → ℕ → Unit
tenanted u t = record { number = u.number; last = t; rented = true; table = no_table }

-- the whole table replaced
abbrev pub with_table : Unit → Table → Unit
with_table u t = record { number = u.number; last = u.last; rented = u.rented; table = t }

-- not rented, N = 0, the rule the sum, all rows 0: the last tenancy number is all that remains
unfoldable pub returned : Unit → Unit
returned u = record { number = u.number; last = u.last; rented = false; table = no_table }
