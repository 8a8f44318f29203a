-- What every sheet is made of. A reader of a number is told its refusals and judges the number at its own place: the first byte.
--     number     any number, or 2; where the sheet ends before it or inside it, 1 at the sheet's length
--     between    a number from one to another, with the refusals of one below and of one above
--     exactly    the given number, or the refusal
--     inside     a number within a range, or the refusal
--     rising     a number up to the last of its range, or 16; not below the first that rises, or 8
--     tenancy    the tenancy that is due, or 5: no tenancy is 0, so where 0 is due every number is refused
--     ascending  so many numbers, each above the one before it
--     kind       one of the kinds that a call takes, or 3
--     addressed  the unit, or 4, and the tenancy that a sheet is for
--     opening    kind, unit and tenancy, with which every sheet opens: the kind
--     end        the end of the sheet, or 9 at the first byte behind it
--     whole      all fields of a sheet, and then its end
use Rattle.std.specs.Prelude.{ℕ, zero, suc, ◌+◌, max, List, [], ◌∷◌, length, drop, eqb, leb}
use Rattle.basics.specs.Choice.{pick}
use Rattle.basics.specs.Lists.{listed}
use Rattle.number.specs.Decode.{Decoded, value, decode, refused as bad}
use Rattle.field.specs.Sheet.{Out, got, refused, note, Parser, ◌>>=◌, ◌>>◌, pure, here, require}

-- what was decoded at a place of a sheet of this length: 1 tells the length, 2 the number's first byte
unfoldable pub taken : ℕ → ℕ → Decoded → Out ℕ
taken len at (value v n) = got v (at + n)
taken len at (bad e) = refused (note e (pick (eqb e 1) len at))

unfoldable pub number : Parser ℕ
number s at = taken (length s) at (decode (drop at s))

unfoldable pub between : ℕ → ℕ → ℕ → ℕ → Parser ℕ
between low high under above = do
  at ← here
  v ← number
  require (leb v high) (note above at)
  require (leb low v) (note under at)
  pure v

abbrev pub exactly : ℕ → ℕ → Parser ℕ
exactly want e = between want want e e

abbrev pub inside : ℕ → ℕ → ℕ → Parser ℕ
inside low high e = between low high e e

abbrev pub rising : ℕ → ℕ → Parser ℕ
rising floor high = between floor high 8 16

abbrev pub tenancy : ℕ → Parser ℕ
tenancy due = between (max due 1) due 5 5

unfoldable pub ascending : ℕ → ℕ → ℕ → Parser (List ℕ)
ascending zero floor high = pure []
ascending (suc n) floor high = do
  v ← rising floor high
  vs ← ascending n (v + 1) high
  pure (v ∷ vs)

unfoldable pub kind : List ℕ → Parser ℕ
kind kinds = do
  at ← here
  k ← number
  require (listed kinds k) (note 3 at)
  pure k

unfoldable pub addressed : ℕ → ℕ → Parser ℕ
addressed unit due = do
  exactly unit 4
  tenancy due

unfoldable pub opening : List ℕ → ℕ → ℕ → Parser ℕ
opening kinds unit due = do
  k ← kind kinds
  addressed unit due
  pure k

unfoldable pub end : Parser ℕ
end s at = pick (eqb at (length s)) (got 0 at) (refused (note 9 at))

-- a whole sheet: its fields, and then its end
unfoldable pub whole : {A : Type 0} → Parser A → Parser A
whole fields = do
  a ← fields
  end
  pure a
