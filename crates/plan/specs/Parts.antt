-- What the private functions promise: a plan sheet is read to its end before a lent list is touched.
--     ended       where a list ended, without its values
--     ReadInto      a list was read into the start of a buffer
--     Framed      where a plan's lists stand on its sheet
--     Checked     a sheet was read to its end
--     numbers_of     the numbers of a sheet
use Rattle.std.specs.Prelude.{ℕ, ◌-◌, ◌≤◌, ◌≡◌, List, ◌∷◌, ◌++◌, length, Result, Ok, Err}
use Rattle.basics.specs.Limits.{blocks_most}
use Rattle.basics.specs.Buffer.{over}
use Rattle.field.specs.declared.Fault.{Fault}
use Rattle.field.specs.Sheet.{Out, got, refused, times}
use Rattle.field.specs.Field.{ascending}
use Rattle.field.specs.Send.{told_written}
use Rattle.field.specs.Refusal.{note_of}
use Rattle.plan.specs.declared.Frame.{Frame}
use Rattle.plan.specs.Plan.{Plan, disk}

-- where a reader of lists ended
unfoldable pub ended : Out (List ℕ) → Out Unit
ended (got xs e) = got tt e
ended (refused n) = refused n

-- a list that was accepted stands at the buffer's start
unfoldable pub Holds : Out (List ℕ) → List ℕ → List ℕ → Type 0
Holds (got xs e) out after = after ≡ over xs out
Holds (refused n) out after = Unit

-- a list was read: the answer, and the buffer afterwards
pub record ReadInto (list : Out (List ℕ)) (out : List ℕ) (r : Result ℕ Fault) (after : List ℕ) : Type 0 where
  pub answer : told_written r ≡ ended list
  pub held : Holds list out after

-- a plan's counts and time, and the places at which its two lists are read
pub record Framed (s : List ℕ) (p : Plan) (f : Frame) : Type 0 where
  pub few : f.blocks ≤ blocks_most
  pub blocks : length p.disks ≡ f.blocks
  pub size : length p.short ≡ f.size
  pub time : p.time ≡ f.time
  pub disks_end : ℕ
  pub short_end : ℕ
  pub disks : times f.blocks disk s f.disks ≡ got p.disks disks_end
  pub short : ascending f.size 0 (f.blocks - 1) s f.short ≡ got p.short short_end

-- the plan that a sheet says and its frame, or why the sheet is refused
abbrev pub Checked : List ℕ → Out Plan → Result Frame Fault → Type 0
Checked s sheet (Ok f) = (p : Plan) × (e : ℕ) × (sheet ≡ got p e) × Framed s p f
Checked s sheet (Err e) = sheet ≡ refused (note_of e)

-- the numbers of a sheet: the fields before the disks, the disks, and the short set behind its size
abbrev pub numbers_of : List ℕ → List ℕ → List ℕ → List ℕ
numbers_of heading disks short = heading ++ (disks ++ (length short ∷ short))
