-- From what a unit holds (its number, its tenancy, its table) and a request sheet to the case, or the refusal; and what its plan is.
--     is_out                  a disk that is out
--     start_of, table_case     when a disk of the table starts; the case that a table, an age and the copies of a request spell
--     asked               the case that a unit and a request sheet spell, or the refusal
--     Plannable           a case within the limits of document 01
--     PlanFor, Plans      a plan sheet's values are the plan of a case; the plan of what was asked, or the refusal
use Rattle.std.specs.Prelude.{ℕ, ◌≤◌, ◌<◌, Bool, true, ◌≡◌, List, map, eqb, length, get_or}
use Rattle.basics.specs.Limits.{disks_most, blocks_most, cost_most, start_most}
use Rattle.basics.specs.Lists.{listed}
use Rattle.model.specs.declared.Rule.{Rule}
use Rattle.model.specs.Case.{Case, left, starting, in_use, Held}
use Rattle.model.specs.Plan.{Optimal}
use Rattle.engine.specs.Spelled.{spelled}
use Rattle.field.specs.Sheet.{Out, got, refused}
use Rattle.settings.specs.declared.Row.{Row}
use Rattle.settings.specs.declared.Table.{Table}
use Rattle.settings.specs.Row.{no_disk}
use Rattle.settings.specs.Table.{disk_rows, costs}
use Rattle.request.specs.Request.{Said, request_sheet}
use Rattle.plan.specs.Plan.{Plan}
use Rattle.plan.specs.Range.{InRange}

-- a disk starts by the rule at its delay and what the age has left of its load
unfoldable pub start_of : Rule → ℕ → Row → ℕ
start_of rule age r = starting rule r.delay (left age r.load)

-- whether a disk is out
unfoldable pub is_out : Table → ℕ → Bool
is_out t d = eqb (get_or t.rows d no_disk).mark 1

-- the disks of a table with their costs and, at an age, their starts; the blocks of a request with their copies in use, bit d standing for
-- disk d
unfoldable pub table_case : Table → ℕ → List ℕ → Case
table_case t age copies = in_use (is_out t) (spelled copies (costs t) (map (start_of t.rule age) (disk_rows t)))

unfoldable pub case_in : Table → Out Said → Out Case
case_in t (got r e) = got (table_case t r.age r.copies) e
case_in t (refused n) = refused n

-- the sheet is read for the unit of this number, its tenancy (0: not rented) and its N (0: no settings yet)
unfoldable pub asked : ℕ → ℕ → Table → List ℕ → Out Case
asked number tenancy t s = case_in t (request_sheet number tenancy t.disks (is_out t) s 0)

-- costs and starts in range, and blocks that have copies, on disks below N alone
pub record Plannable (m : Case) : Type 0 where
  pub disks_some : 1 ≤ m.disks
  pub disks_few : m.disks ≤ disks_most
  pub blocks_few : m.blocks ≤ blocks_most
  pub cost_least : (d : ℕ) → d < m.disks → 1 ≤ m.cost d
  pub cost_within : (d : ℕ) → d < m.disks → m.cost d ≤ cost_most
  pub start_within : (d : ℕ) → d < m.disks → m.start d ≤ start_most
  pub held : Held m
  pub low : (b d : ℕ) → b < m.blocks → m.copy b d ≡ true → d < m.disks

-- a disk for each block, and the rising numbers of the short set: the plan by the model, within the ranges of a plan sheet
pub record PlanFor (m : Case) (p : Plan) : Type 0 where
  pub range : InRange p
  pub blocks : length p.disks ≡ m.blocks
  pub optimal : Optimal m p.time (λ b. get_or p.disks b 0) (listed p.short)

-- what is answered to a request: its refusal, or the plan of its case
unfoldable pub Plans : Out Case → Out Plan → Type 0
Plans (refused n) x = x ≡ refused n
Plans (got m e) x = (p : Plan) × PlanFor m p × (x ≡ got p e)
