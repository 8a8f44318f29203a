-- An answer of several numbers as one number of 64 bits: bits 0 to 7 the refusal, 0 accepted.
--     refusals, blocks_at, ..         how many values a field has; what it is multiplied by, where it is not the lowest
--     pack_written, pack_plan, pack_refused     what is accepted; what is refused
--     writer_answer, reader_answer     what is answered
--     refusal_in, place_in, length_in, blocks_in, time_in, size_in     what a caller takes out
--     Fits32, FitsBits               values that have room in their bits
use Rattle.std.specs.Prelude.{ℕ, ◌+◌, ◌*◌, ◌/◌, ◌%◌, ◌^◌, ◌<◌, Result, Ok, Err}
use Rattle.field.specs.Sheet.{Note, Out, got, refused}
use Rattle.field.specs.declared.Fault.{Fault}
use Rattle.plan.specs.declared.Head.{Head}

-- bits 0 to 7 the refusal
abbrev pub refusals : ℕ
refusals = 2 ^ 8

-- bits 32 to 63 the length written, or the place of a refusal
abbrev pub length_at : ℕ
length_at = 2 ^ 32

abbrev pub lengths : ℕ
lengths = 2 ^ 32

-- bits 8 to 18 Q
abbrev pub blocks_at : ℕ
blocks_at = 2 ^ 8

-- bits 19 to 49 R
abbrev pub time_at : ℕ
time_at = 2 ^ 19

abbrev pub times : ℕ
times = 2 ^ 31

-- bits 50 to 60 m
abbrev pub size_at : ℕ
size_at = 2 ^ 50

-- Q and m are of 11 bits
abbrev pub counts : ℕ
counts = 2 ^ 11

unfoldable pub pack_written : ℕ → ℕ
pack_written n = n * length_at

unfoldable pub pack_plan : ℕ → ℕ → ℕ → ℕ
pack_plan q r m = q * blocks_at + r * time_at + m * size_at

-- the number and the place: all other bits are 0
unfoldable pub pack_refused : Note → ℕ
pack_refused e = e.number + e.place * length_at

-- what a writer answers
unfoldable pub writer_answer : Out Unit → ℕ
writer_answer (got u n) = pack_written n
writer_answer (refused e) = pack_refused e

-- what the plan reader answers
unfoldable pub reader_answer : Out Head → ℕ
reader_answer (got h n) = pack_plan h.blocks h.time h.size
reader_answer (refused e) = pack_refused e

unfoldable pub refusal_in : ℕ → ℕ
refusal_in a = a % refusals

unfoldable pub place_in : ℕ → ℕ
place_in a = a / length_at

unfoldable pub length_in : ℕ → ℕ
length_in a = a / length_at

unfoldable pub blocks_in : ℕ → ℕ
blocks_in a = a / blocks_at % counts

unfoldable pub time_in : ℕ → ℕ
time_in a = a / time_at % times

unfoldable pub size_in : ℕ → ℕ
size_in a = a / size_at % counts

-- a length or a place of 32 bits
abbrev pub Fits32 : Result ℕ Fault → Type 0
Fits32 (Ok n) = n < lengths
Fits32 (Err f) = f.place < lengths

-- Q and m of 11 bits, R of 31, a place of 32
abbrev pub FitsBits : Result Head Fault → Type 0
FitsBits (Ok h) = (h.blocks < counts) × (h.time < times) × (h.size < counts)
FitsBits (Err f) = f.place < lengths
