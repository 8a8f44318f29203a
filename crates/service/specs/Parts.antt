-- What the private functions promise.
--     verdict_line      a word where a call was accepted, else its refusal
--     Read             a call that was read of these bytes
--     Answers          the unit's reply to what was asked: its line, and the unit afterwards
--     Leaves, Answered   the turn of a call that was done; that of the unit's reply
use Rattle.std.specs.Prelude.{ℕ, ◌≡◌, List}
use Rattle.unit.specs.declared.Unit.{Unit}
use Rattle.hire.specs.Calls.{Reply, Does}
use Rattle.unit.specs.Life.{Verdict, accepted}
use Rattle.unit.specs.Life.{refused as denied}
use Rattle.line.specs.declared.Word.{Word}
use Rattle.line.specs.Line.{spoken, refused_at_text}
use Rattle.line.specs.Printed.{Printed}
use Rattle.stream.specs.declared.Call.{Call as Shelved}
use Rattle.stream.specs.Call.{Asked, Holds}
use Rattle.service.specs.declared.Next.TheVariants.{Served}
use Rattle.service.specs.declared.Turn.{Turn}
use Rattle.service.specs.Shelf.{shelf_of, call_of, line_of}

abbrev pub verdict_line : Word → Verdict → List ℕ
verdict_line w accepted = spoken w
verdict_line w (denied n) = refused_at_text n.number n.place

abbrev pub Read : List ℕ → Shelved → Type 0
Read s c = (e : ℕ) × Holds s c e

pub record Answers (u : Unit) (a : Asked) (out : List ℕ) (n : ℕ) (v : Unit) (after : List ℕ) : Type 0 where
  pub reply : Reply
  pub does : Does u (call_of a) reply v
  pub printed : Printed (line_of a reply) out n after

-- the turn of a call that was done, which ends at a place and leaves a unit
abbrev pub Leaves : ℕ → Unit → Turn → Type 0
Leaves used v t = (t.next ≡ Served) × (t.used ≡ used) × (t.shelf ≡ shelf_of v)

pub record Answered (u : Unit) (a : Asked) (used : ℕ) (out : List ℕ) (t : Turn) (after : List ℕ) : Type 0 where
  pub unit : Unit
  pub ends : Leaves used unit t
  pub answers : Answers u a out t.length unit after
