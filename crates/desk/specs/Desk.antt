-- The promises of the exported functions.
--     broken_rows    lists of costs, loads and delays: one is broken
--     settings_draft_of_bytes, marked_draft_of_bytes, request_draft_of_bytes     the sheet of lists of bytes, or why there is none
--     tenancy_with       the tenancy of a request whose list is whole, else 0
--     Exported          a writer's answer, and the buffer afterwards
--     plan_if_room         what a plan sheet says, for two lists of bytes
--     set_left        the bytes of the short set afterwards
--     PlanRead       the plan reader's answer, and the two lists afterwards
use Rattle.std.specs.Prelude.{ℕ, Bool, ◌||◌, ◌≡◌, List}
use Rattle.basics.specs.Choice.{pick}
use Rattle.field.specs.Put.{spell_all}
use Rattle.field.specs.Send.{Draft, none, answer_to, left_by}
use Rattle.field.specs.Sheet.{Out, got, refused, unplaced}
use Rattle.model.specs.declared.Rule.{Rule}
use Rattle.settings.specs.Draft.{settings_draft, marked_draft}
use Rattle.request.specs.Draft.{request_draft}
use Rattle.plan.specs.Plan.{Plan, plan_sheet}
use Rattle.plan.specs.Receive.{if_room, heads, disks_left}
use Rattle.basics.specs.Buffer.{over}
use Rattle.lent.specs.Numbers.{bytes_of, numbers, broken}
use Rattle.lent.specs.Packed.{writer_answer, reader_answer}

-- costs, loads and delays as four-byte numbers, one list broken inside a number
unfoldable pub broken_rows : List ℕ → List ℕ → List ℕ → Bool
broken_rows costs loads delays = broken 4 costs || (broken 4 loads || broken 4 delays)

-- the settings sheet of four-byte numbers; a broken list is 6 before the rest
unfoldable pub settings_draft_of_bytes : Rule → ℕ → ℕ → List ℕ → List ℕ → List ℕ → Draft
settings_draft_of_bytes r unit t costs loads delays =
    pick (broken_rows costs loads delays) (none (unplaced 6))
    (settings_draft r unit t (numbers 4 costs) (numbers 4 loads) (numbers 4 delays))

unfoldable pub marked_draft_of_bytes : ℕ → ℕ → ℕ → List ℕ → List ℕ → List ℕ → List ℕ → Draft
marked_draft_of_bytes unit t r costs loads delays marks =
    pick (broken_rows costs loads delays || broken 4 marks) (none (unplaced 6))
    (marked_draft unit t r (numbers 4 costs) (numbers 4 loads) (numbers 4 delays) (numbers 4 marks))

-- a list broken inside a number is refused as tenancy 0 is: with 6, after the kind and before the rest
unfoldable pub tenancy_with : ℕ → List ℕ → ℕ
tenancy_with t copies = pick (broken 8 copies) 0 t

-- the read request of eight-byte numbers
unfoldable pub request_draft_of_bytes : ℕ → ℕ → ℕ → ℕ → ℕ → List ℕ → Draft
request_draft_of_bytes k unit t a n copies = request_draft k unit (tenancy_with t copies) a n (numbers 8 copies)

-- the sheet stands at the start of the buffer, the rest as it was; on refusal nothing has changed
pub record Exported (d : Draft) (out : List ℕ) (r : ℕ) (after : List ℕ) : Type 0 where
  pub answer : r ≡ writer_answer (answer_to d out)
  pub held : after ≡ left_by d out

-- the sheet's plan; 11 where Q is above the bytes of the first list or m above the pairs of the second: an odd last byte is no room
unfoldable pub plan_if_room : ℕ → ℕ → List ℕ → List ℕ → List ℕ → Out Plan
plan_if_room unit t sheet disks set = if_room (plan_sheet unit t sheet 0) disks (numbers 2 set)

-- the short set's bytes first, the bytes beyond them as they were; on refusal all as it was
unfoldable pub set_left : Out Plan → List ℕ → List ℕ
set_left (got p e) set = over (spell_all (bytes_of 2) p.short) set
set_left (refused n) set = set

-- Q, R and m, the disks by block in the first list, the short set in the second
pub record PlanRead (unit t : ℕ) (sheet disks set : List ℕ) (r : ℕ) (disks' set' : List ℕ) : Type 0 where
  pub answer : r ≡ reader_answer (heads (plan_if_room unit t sheet disks set))
  pub blocks : disks' ≡ disks_left (plan_if_room unit t sheet disks set) disks
  pub members : set' ≡ set_left (plan_if_room unit t sheet disks set) set
