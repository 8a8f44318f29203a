-- What only the private functions promise.
--     Kept               copies in use
--     Columns            the cost and the start of each disk, and 0 behind them
--     Lent, case_lent     the lists of what was asked, cut to Q and N; the case that they spell
--     handed_out          what was asked, where it was lent a place, as an answer
--     Solvable, Solved   lists that spell a case within the limits; the sheet of its plan was sent
--     cut_to              the values that the engine found, cut to Q blocks
use Rattle.std.specs.Prelude.{ℕ, ◌≤◌, ◌<◌, not, ◌&&◌, ◌≡◌, List, Result, Ok, Err, map, length, take, get_or}
use Rattle.mask.specs.Has.{has}
use Rattle.basics.specs.Padded.{pad_to}
use Rattle.basics.specs.Limits.{disks_most}
use Rattle.model.specs.Case.{Case}
use Rattle.engine.specs.declared.Found.{Found}
use Rattle.engine.specs.Spelled.{spelled}
use Rattle.field.specs.declared.Fault.{Fault}
use Rattle.field.specs.Send.{Sent}
use Rattle.settings.specs.declared.Table.{Table}
use Rattle.settings.specs.Table.{disk_rows, costs}
use Rattle.plan.specs.Draft.{plan_draft}
use Rattle.plan.specs.Plan.{Plan}
use Rattle.planner.specs.declared.Spelling.{Spelling}
use Rattle.planner.specs.Asked.{start_of, Plannable, PlanFor}

pub record Columns (t : Table) (age : ℕ) (costs' starts' : List ℕ) : Type 0 where
  pub costs_held : costs' ≡ pad_to 0 disks_most (costs t)
  pub starts_held : starts' ≡ pad_to 0 disks_most (map (start_of t.rule age) (disk_rows t))

-- copies without the disks of another number, up to Q
pub record Kept (q out : ℕ) (copies after : List ℕ) : Type 0 where
  pub long : length after ≡ length copies
  pub used : (b d : ℕ) → b < q → has (get_or after b 0) d ≡ (has (get_or copies b 0) d && not (has out d))
  pub beyond : (b : ℕ) → q ≤ b → get_or after b 0 ≡ get_or copies b 0

pub record Solvable (copies costs starts : List ℕ) : Type 0 where
  pub starts_long : length starts ≡ length costs
  pub plannable : Plannable (spelled copies costs starts)

abbrev pub Lent : Spelling → Type 0
Lent r =
    (r.blocks ≤ length r.copies) × (r.disks ≤ length r.costs) × (r.disks ≤ length r.starts)
    × Solvable (take r.blocks r.copies) (take r.disks r.costs) (take r.disks r.starts)

abbrev pub case_lent : Spelling → Case
case_lent r = spelled (take r.blocks r.copies) (take r.disks r.costs) (take r.disks r.starts)

-- a place that was lent for it holds what was asked, or the refusal stands
abbrev pub handed_out : Result Unit Fault → Spelling → Result Spelling Fault
handed_out (Ok a) r = Ok r
handed_out (Err f) r = Err f

pub record Solved (number tenancy : ℕ) (m : Case) (out : List ℕ) (w : Result ℕ Fault) (after : List ℕ) : Type 0 where
  pub plan : Plan
  pub is : PlanFor m plan
  pub sent : Sent (plan_draft number tenancy plan) out w after

unfoldable pub cut_to : ℕ → List ℕ → List ℕ → Found → Plan
cut_to q disks short r = record { time = r.time; disks = take q disks; short = take r.size short }
