-- Calls in the shelf's stream.
use mathlib.Core.Path.{◌≡◌, refl}
use Rattle.field.specs.Sheet.{note, unplaced, got, refused}
use Rattle.stream.specs.Call.{rents, sets, returns, whys, asked}
use Rattle.vectors.specs.Text.{bytes}
use Rattle.vectors.proofs.Opened.{stream_opened}

-- 1 and a tenancy: Rent 300
call_rent : asked (bytes "01 AC 02") 0 ≡ got (rents 300) 3
unfolding stream_opened
call_rent = refl

-- 2, a length and a settings sheet
call_settings : asked (bytes "02 03 AA BB CC 04") 0 ≡ got (sets (bytes "AA BB CC")) 5
unfolding stream_opened
call_settings = refl

-- 4 and a tenancy: Return 300
pub call_return : asked (bytes "04 AC 02") 0 ≡ got (returns 300) 3
unfolding stream_opened
call_return = refl

-- 5, a block, a disk, a length and a request: why block 200 is read from disk 3, or isn't
call_why : asked (bytes "05 C8 01 03 02 AA BB 04") 0 ≡ got (whys 200 3 (bytes "AA BB")) 7
unfolding stream_opened
call_why = refl

-- no such call
call_none : asked (bytes "09 AC 02") 0 ≡ refused (unplaced 3)
unfolding stream_opened
call_none = refl

-- a sheet that is not whole yet: more bytes may complete it
call_more : asked (bytes "02 03 AA BB") 0 ≡ refused (note 1 4)
unfolding stream_opened
call_more = refl

-- a block that is no number, before the disk is looked at
call_why_block : asked (bytes "05 80 00 80 00") 0 ≡ refused (note 2 1)
unfolding stream_opened
call_why_block = refl

-- a length of 9,235
pub call_length : asked (bytes "02 93 48") 0 ≡ refused (note 6 1)
unfolding stream_opened
call_length = refl

-- a length of 9,234, of which no byte has come yet
call_longest : asked (bytes "02 92 48") 0 ≡ refused (note 1 3)
unfolding stream_opened
call_longest = refl
