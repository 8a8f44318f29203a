-- Fields of a sheet: the refusal numbers, what each reader refuses, and a field put into a lent buffer.
use mathlib.Core.Path.{◌≡◌, refl}
use mathlib.Core.List.{[], ◌∷◌, map}
use Rattle.field.specs.declared.Refusal.TheVariants.{SheetEnds, BadNumber, WrongKind, WrongUnit, WrongTenancy, OutOfRange, NoCopy}
use Rattle.field.specs.declared.Refusal.TheVariants.{NotRising, BytesFollow, NoSettings, NoRoom, Rented, NotAbove, NotTheTenant}
use Rattle.field.specs.declared.Refusal.TheVariants.{BadAmount, BadIndex}
use Rattle.field.specs.Field.{number, exactly, tenancy, inside, rising, end}
use Rattle.field.specs.Put.{PutOne}
use Rattle.field.specs.Refusal.{number_of}
use Rattle.field.specs.Sheet.{note, got, refused}
use Rattle.vectors.specs.Text.{bytes}
use Rattle.vectors.proofs.Opened.{field_opened}

-- ---- the refusals

-- the refusals' numbers, in the order of document 01's table and document 02's
refusal_numbers :
    map number_of (SheetEnds ∷ BadNumber ∷ WrongKind ∷ WrongUnit ∷ WrongTenancy ∷ OutOfRange ∷ NoCopy ∷ NotRising ∷ BytesFollow ∷ NoSettings
    ∷ NoRoom ∷ Rented ∷ NotAbove ∷ NotTheTenant ∷ BadAmount ∷ BadIndex ∷ [])
    ≡ 1 ∷ 2 ∷ 3 ∷ 4 ∷ 5 ∷ 6 ∷ 7 ∷ 8 ∷ 9 ∷ 10 ∷ 11 ∷ 12 ∷ 13 ∷ 14 ∷ 15 ∷ 16 ∷ []
unfolding field_opened
refusal_numbers = refl

-- ---- any

-- a number at a place, and the place after it
any_read : number (bytes "01 AC 02 05") 1 ≡ got 300 3
unfolding field_opened
any_read = refl

-- the sheet ends before a number that is due
any_at_the_end : number (bytes "01 AC 02") 3 ≡ refused (note 1 3)
unfolding field_opened
any_at_the_end = refl

-- inside a number too 1 tells the sheet's length
pub any_cut : number (bytes "01 AC 82") 1 ≡ refused (note 1 3)
unfolding field_opened
any_cut = refl

-- a long form is told at its first byte, though the last one shows it
pub any_long : number (bytes "01 AC 80 00") 1 ≡ refused (note 2 1)
unfolding field_opened
any_long = refl

-- ---- exact

-- another kind gets the refusal that was given
exact_other : exactly 2 3 (bytes "01 07") 0 ≡ refused (note 3 0)
unfolding field_opened
exact_other = refl

-- 1 comes before its own check
exact_ends : exactly 2 3 (bytes "81") 0 ≡ refused (note 1 1)
unfolding field_opened
exact_ends = refl

-- ---- tenant

-- the tenancy before the one that is wanted
tenant_other : tenancy 300 (bytes "AB 02") 0 ≡ refused (note 5 0)
unfolding field_opened
tenant_other = refl

-- no tenancy is 0: where 0 is expected every number is refused with 5
tenant_0 : tenancy 0 (bytes "00") 0 ≡ refused (note 5 0)
unfolding field_opened
tenant_0 = refl

-- ---- ranged

-- the low end of 1 to 64
ranged_low : inside 1 64 6 (bytes "01") 0 ≡ got 1 1
unfolding field_opened
ranged_low = refl

-- one above the high end
ranged_above : inside 1 64 6 (bytes "41") 0 ≡ refused (note 6 0)
unfolding field_opened
ranged_above = refl

-- ---- risen

-- 1 again, after 1
risen_again : rising 2 5 (bytes "01") 0 ≡ refused (note 8 0)
unfolding field_opened
risen_again = refl

-- ---- finish

-- a byte follows the last field
finish_extra : end (bytes "01 02") 1 ≡ refused (note 9 1)
unfolding field_opened
finish_extra = refl

-- ---- put

-- 300 at place 1, all else as it was
put_300 : PutOne 300 (bytes "AA BB CC DD") 1 3 (bytes "AA AC 02 DD")
unfolding field_opened
put_300 = record { place = refl; held = refl }
