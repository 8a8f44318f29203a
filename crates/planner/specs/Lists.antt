-- The lists that spell a case, in arrays of a fixed length.
--     Spells       the arrays hold the lists that spell a case
--     Asks         what `ask` answers: such lists, or the refusal
use Rattle.std.specs.Prelude.{ℕ, ◌≡◌, List, Result, IfOk, length}
use Rattle.basics.specs.Limits.{disks_most, blocks_most}
use Rattle.basics.specs.Padded.{pad_to}
use Rattle.model.specs.Case.{Case}
use Rattle.engine.specs.Spelled.{spelled}
use Rattle.field.specs.declared.Fault.{Fault}
use Rattle.field.specs.Sheet.{Out, got}
use Rattle.field.specs.Told.{told_by}
use Rattle.planner.specs.declared.Spelling.{Spelling}
use Rattle.planner.specs.Parts.{case_lent}

-- a start for each cost; in the arrays all else is 0
pub record Spells (m : Case) (r : Spelling) : Type 0 where
  pub copies : List ℕ
  pub costs : List ℕ
  pub starts : List ℕ
  pub starts_long : length starts ≡ length costs
  pub case : spelled copies costs starts ≡ m
  pub blocks : r.blocks ≡ m.blocks
  pub disks : r.disks ≡ m.disks
  pub copies_held : r.copies ≡ pad_to 0 blocks_most copies
  pub costs_held : r.costs ≡ pad_to 0 disks_most costs
  pub starts_held : r.starts ≡ pad_to 0 disks_most starts

-- for a sheet of so many bytes: the case that its lists spell, or the refusal
pub record Asks (o : Out Case) (bytes : ℕ) (r : Result Spelling Fault) : Type 0 where
  pub told : told_by (λ x. got (case_lent x) bytes) r ≡ o
  pub lists : IfOk r (λ x. Spells (case_lent x) x)
