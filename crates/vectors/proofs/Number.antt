-- Numbers on a sheet: document 01's own examples, read and written.
use mathlib.Core.Path.{◌≡◌, refl}
use mathlib.Core.List.{[], ◌∷◌, map}
use Rattle.std.specs.Prelude.{None}
use Rattle.number.specs.Decode.{value, refused, decode}
use Rattle.number.specs.Encode.{encode, width_of, WroteNumber}
use Rattle.vectors.specs.Text.{bytes}
use Rattle.vectors.proofs.Opened.{number_opened}

-- ---- read

-- 127 is 7F
read_127 : decode (bytes "7F") ≡ value 127 1
unfolding number_opened
read_127 = refl

-- 128 is 80 01
read_128 : decode (bytes "80 01") ≡ value 128 2
unfolding number_opened
read_128 = refl

-- 300 is AC 02: the lowest group first
read_300 : decode (bytes "AC 02") ≡ value 300 2
unfolding number_opened
read_300 = refl

-- the largest is FF FF FF FF 0F
read_largest : decode (bytes "FF FF FF FF 0F") ≡ value 4294967295 5
unfolding number_opened
read_largest = refl

-- 80 00 is not the shortest form
long_form : decode (bytes "80 00") ≡ refused 2
unfolding number_opened
long_form = refl

-- a fifth byte must be at most 15
fifth_byte_of_16 : decode (bytes "FF FF FF FF 10") ≡ refused 2
unfolding number_opened
fifth_byte_of_16 = refl

-- no sixth byte is waited for
fifth_byte_of_128 : decode (bytes "FF FF FF FF 80") ≡ refused 2
unfolding number_opened
fifth_byte_of_128 = refl

-- a lone 80 ends inside a number
lone_80 : decode (bytes "80") ≡ refused 1
unfolding number_opened
lone_80 = refl

-- no bytes end before one that is due
nothing : decode (bytes "") ≡ refused 1
unfolding number_opened
nothing = refl

-- ---- width

-- one byte up to 127, two up to 16,383, five for the largest
widths : map width_of (0 ∷ 127 ∷ 128 ∷ 300 ∷ 4294967295 ∷ []) ≡ 1 ∷ 1 ∷ 2 ∷ 2 ∷ 5 ∷ []
unfolding number_opened
widths = refl

-- ---- write

-- the shortest form, lowest group first
spelled : map encode (0 ∷ 127 ∷ 128 ∷ 300 ∷ 4294967295 ∷ [])
    ≡ bytes "00" ∷ bytes "7F" ∷ bytes "80 01" ∷ bytes "AC 02" ∷ bytes "FF FF FF FF 0F" ∷ []
unfolding number_opened
spelled = refl

-- without room nothing has changed
write_no_room : WroteNumber 128 (bytes "AA") None (bytes "AA")
unfolding number_opened
write_no_room = record { count = refl; left = refl }
