-- What holds of every unit that comes from New and the calls.
use Rattle.std.specs.Prelude.{◌<◌, true, false, ◌≡◌}
use Rattle.settings.specs.Table.{no_table, Proper}
use Rattle.unit.specs.declared.Unit.{Unit}

-- a rented unit has a tenancy; one that is not has no table; the rows of its N disks are in range, and those from N on are 0
pub record Sound (u : Unit) : Type 0 where
  pub tenancy : u.rented ≡ true → 0 < u.last
  pub cleared : u.rented ≡ false → u.table ≡ no_table
  pub proper : Proper u.table
