-- The refusals and their numbers, and a refusal with its place.
use Rattle.std.specs.Prelude.{ℕ}
use Rattle.field.specs.declared.Fault.{Fault}
use Rattle.field.specs.declared.Refusal.{Refusal}
use Rattle.field.specs.declared.Refusal.TheVariants.{SheetEnds, BadNumber, WrongKind, WrongUnit, WrongTenancy, OutOfRange, NoCopy}
use Rattle.field.specs.declared.Refusal.TheVariants.{NotRising, BytesFollow, NoSettings, NoRoom, Rented, NotAbove, NotTheTenant}
use Rattle.field.specs.declared.Refusal.TheVariants.{BadAmount, BadIndex, AllOut}
use Rattle.field.specs.Sheet.{Note, note}

-- the paper's number of each refusal
abbrev pub number_of : Refusal → ℕ
number_of SheetEnds = 1
number_of BadNumber = 2
number_of WrongKind = 3
number_of WrongUnit = 4
number_of WrongTenancy = 5
number_of OutOfRange = 6
number_of NoCopy = 7
number_of NotRising = 8
number_of BytesFollow = 9
number_of NoSettings = 10
number_of NoRoom = 11
number_of Rented = 12
number_of NotAbove = 13
number_of NotTheTenant = 14
number_of BadAmount = 15
number_of BadIndex = 16
number_of AllOut = 20

abbrev pub fault_at : Refusal → ℕ → Fault
fault_at e p = record { refusal = e; place = p }

-- the number and the place that a fault tells
abbrev pub note_of : Fault → Note
note_of f = note (number_of f.refusal) f.place
