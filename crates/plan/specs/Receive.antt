-- What the plan reader answers, and what it leaves in the two lent lists.
--     if_room        what the sheet says, with 11 last of all
--     heads         what is answered
--     disks_left, short_left     the lent lists afterwards
--     Received      the three together
use Rattle.std.specs.Prelude.{ℕ, ◌≡◌, List, Result, length, leb}
use Rattle.basics.specs.Choice.{pick}
use Rattle.basics.specs.Buffer.{over}
use Rattle.field.specs.Sheet.{Out, got, refused, note}
use Rattle.plan.specs.declared.Head.{Head}
use Rattle.field.specs.declared.Fault.{Fault}
use Rattle.plan.specs.Plan.{Plan}
use Rattle.plan.specs.Told.{told_plan}

-- an accepted sheet is refused with 11 where a list is too short, the disks first; that tells the entries needed
unfoldable pub if_room : Out Plan → List ℕ → List ℕ → Out Plan
if_room (got p e) disks short =
    pick (leb (length p.disks) (length disks))
    (pick (leb (length p.short) (length short)) (got p e) (refused (note 11 (length p.short))))
    (refused (note 11 (length p.disks)))
if_room (refused n) disks short = refused n

-- Q, R and m
unfoldable pub heads : Out Plan → Out Head
heads (got p e) = got (record { blocks = length p.disks; time = p.time; size = length p.short }) e
heads (refused n) = refused n

-- the list of disks afterwards: on refusal as it was
unfoldable pub disks_left : Out Plan → List ℕ → List ℕ
disks_left (got p e) list = over p.disks list
disks_left (refused n) list = list

-- the list of the short set afterwards: on refusal as it was
unfoldable pub short_left : Out Plan → List ℕ → List ℕ
short_left (got p e) list = over p.short list
short_left (refused n) list = list

-- what the sheet says, for lists that held these entries: the answer, and what the lists then hold
pub record Received (sheet : Out Plan) (bytes : ℕ) (disks short : List ℕ) (r : Result Head Fault) (disks' short' : List ℕ) : Type 0 where
  pub answer : told_plan bytes r ≡ heads (if_room sheet disks short)
  pub blocks : disks' ≡ disks_left (if_room sheet disks short) disks
  pub members : short' ≡ short_left (if_room sheet disks short) short
