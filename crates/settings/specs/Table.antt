-- The table of a unit's disks.
use Rattle.std.specs.Prelude.{ℕ, ◌≤◌, true, List, [], map, ◌≡◌, length, take}
use Rattle.basics.specs.Limits.{disks_most}
use Rattle.basics.specs.Padded.{pad_to}
use Rattle.model.specs.declared.Rule.{Rule}
use Rattle.model.specs.declared.Rule.TheVariants.{Sum}
use Rattle.settings.specs.declared.Row.{Row}
use Rattle.settings.specs.declared.Table.{Table}
use Rattle.settings.specs.Row.{no_disk, all_in_range}

-- N disks, the start rule, the disks' rows, and rows of 0 behind them: 64 rows
unfoldable pub table : ℕ → Rule → List Row → Table
table n r rs = record { disks = n; rule = r; rows = pad_to no_disk disks_most rs }

-- no settings yet: N is 0, the rule is the sum, all rows are 0
unfoldable pub no_table : Table
no_table = table 0 Sum []

-- the rows of the N disks
unfoldable pub disk_rows : Table → List Row
disk_rows t = take t.disks t.rows

-- their costs, loads, delays and marks
unfoldable pub costs : Table → List ℕ
costs t = map (λ r. r.cost) (disk_rows t)

unfoldable pub loads : Table → List ℕ
loads t = map (λ r. r.load) (disk_rows t)

unfoldable pub delays : Table → List ℕ
delays t = map (λ r. r.delay) (disk_rows t)

unfoldable pub marks : Table → List ℕ
marks t = map (λ r. r.mark) (disk_rows t)

-- a table that a unit may hold: the rows of its N disks are in range, and those from N on are 0
pub record Proper (t : Table) : Type 0 where
  pub given : List Row
  pub count : length given ≡ t.disks
  pub few : t.disks ≤ disks_most
  pub good : all_in_range given ≡ true
  pub held : t.rows ≡ pad_to no_disk disks_most given
