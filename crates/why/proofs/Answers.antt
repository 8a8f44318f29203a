-- The ways in which `explain` ends.
--     no_block, no_disk_law     refusal 16, for a block at Q or above and for a disk at N or above
--     told        what was asked can be lent, and its reason is the answer
--     not_asked             the request's own refusal
use Prim.Native.Nat.{ℕ, ◌≤◌, ◌<◌}
use mathlib.Core.Path.{◌≡◌, refl, ap, ◌∙◌}
use native.Mathlib.Omega.{arith}
use lib.ListN.{length, take}
use lib.Seq.{length-take-le}
use Rattle.std.specs.Prelude.{Result, Ok, Err}
use Rattle.field.specs.Refusal.{note_of}
use Rattle.field.specs.Sheet.{unplaced, Out, got, refused}
use Rattle.field.specs.declared.Fault.{Fault}
use Rattle.model.specs.Case.{Case}
use Rattle.planner.specs.declared.Spelling.{Spelling}
use Rattle.planner.specs.Parts.{Lent, case_lent}
use Rattle.reason.specs.Reason.{Reasons}
use Rattle.reason.specs.declared.Reason.{Reason}
use Rattle.why.specs.Why.{within, Explains, told_why}
use Rattle.why.proofs.Within.{within_block, within_disk, within_case}

-- a refusal
pub explains_refused : (o : Out Case) (b d : ℕ) {r : Result Reason Fault} {f : Fault} → r ≡ Err f → o ≡ refused (note_of f)
    → Explains o b d (told_why r)
unfolding Explains
explains_refused o b d e h = rw (e, h) refl

pub not_asked : (o : Out Case) (b d : ℕ) {r : Result Reason Fault} {f : Fault} → r ≡ Err f → o ≡ refused (note_of f)
    → Explains (within o b d) b d (told_why r)
unfolding within
not_asked o b d e h = explains_refused (within o b d) b d e (ap (λ (x : Out Case). within x b d) h)

-- what was asked, of so many blocks and disks
module _ {o : Out Case} (said : Spelling) {bytes : ℕ} (h : o ≡ got (case_lent said) bytes) (w : Lent said) (b d : ℕ) where
  blocks : length (take said.blocks said.copies) ≡ said.blocks
  blocks = length-take-le said.blocks said.copies w.0

  disks : length (take said.disks said.costs) ≡ said.disks
  disks = length-take-le said.disks said.costs w.1

  asked_case : {x : Out Case} → within (got (case_lent said) bytes) b d ≡ x → within o b d ≡ x
  asked_case e = ap (λ (x : Out Case). within x b d) h ∙ e

  pub no_block : said.blocks ≤ b → within o b d ≡ refused (unplaced 16)
  no_block l = asked_case (within_block (case_lent said) bytes b d (omega (arith, blocks)))

  pub no_disk_law : said.disks ≤ d → within o b d ≡ refused (unplaced 16)
  no_disk_law l = asked_case (within_disk (case_lent said) bytes b d (omega (arith, disks)))

  pub told : {r : Reason} → b < said.blocks → d < said.disks → Reasons (case_lent said) b d r
      → Explains (within o b d) b d (told_why (Ok r))
  unfolding Explains
  told {r} l k x = rw (asked_case (within_case (case_lent said) bytes b d (omega (arith, blocks)) (omega (arith, disks)))) (r, x, refl)
