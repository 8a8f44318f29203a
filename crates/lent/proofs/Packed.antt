-- What a caller takes out of an answer is what was packed into it.
--     written_unpacks, plan_unpacks, refusal_unpacks     of each of the three answers
--     refusal_number    a refusal's number, whatever its place
--     fault_unpacks     of a refusal that the code has, whose number is of the table
use mathlib.Core.Path.{◌≡◌}
use Prim.Native.Nat.{ℕ, ◌+◌, ◌*◌, ◌%◌, ◌^◌, ◌<◌}
use native.Mathlib.Omega.{arith}
use Rattle.field.specs.declared.Fault.{Fault}
use Rattle.field.specs.Refusal.{number_of, note_of}
use Rattle.field.specs.Sheet.{Note}
use Rattle.field.proofs.Known.{refusal_known}
use Rattle.lent.specs.Packed.{pack_written, pack_plan, refusal_in, place_in}
use Rattle.lent.specs.Packed.{length_in, blocks_in, time_in, size_in}
use Rattle.lent.specs.Packed.{refusals, length_at, lengths, times, counts, pack_refused}

-- a writer's acceptance: no refusal, and the length
pub written_unpacks : (n : ℕ) → n < lengths
    → (pack_written n < 2 ^ 64) × (refusal_in (pack_written n) ≡ 0) × (length_in (pack_written n) ≡ n)
unfolding pack_written refusal_in length_in
written_unpacks n h = (omega arith, omega arith, omega arith)

-- the plan reader's acceptance: no refusal, and Q, R and m
pub record Unpacked (q r m a : ℕ) : Type 0 where
  pub fits : a < 2 ^ 64
  pub refusal : refusal_in a ≡ 0
  pub blocks : blocks_in a ≡ q
  pub time : time_in a ≡ r
  pub size : size_in a ≡ m

pub plan_unpacks : (q r m : ℕ) → q < counts → r < times → m < counts → Unpacked q r m (pack_plan q r m)
unfolding pack_plan refusal_in blocks_in time_in size_in
plan_unpacks q r m a b c =
    record { fits = omega arith; refusal = omega arith; blocks = omega arith; time = omega arith; size = omega arith }

-- a refusal: its number and its place, and no bit else
pub record Refuses (e : Note) (a : ℕ) : Type 0 where
  pub fits : a < 2 ^ 64
  pub refusal : refusal_in a ≡ e.number
  pub place : place_in a ≡ e.place
  -- bits 8 to 31 are 0
  pub between : a % length_at ≡ e.number

pub refusal_unpacks : (e : Note) → e.number < refusals → e.place < lengths → Refuses e (pack_refused e)
unfolding pack_refused refusal_in place_in
refusal_unpacks e h l = record { fits = omega arith; refusal = omega arith; place = omega arith; between = omega arith }

-- the number, whatever the place
pub refusal_number : (e : Note) → e.number < refusals → refusal_in (pack_refused e) ≡ e.number
unfolding pack_refused refusal_in
refusal_number e h = omega arith

pub fault_unpacks : (f : Fault) → f.place < lengths → Refuses (note_of f) (pack_refused (note_of f))
fault_unpacks f l = refusal_unpacks (note_of f) (omega (arith, (refusal_known f.refusal).1)) l

-- ---- what the code packs

pub refused_packs : (f : Fault) {n : ℕ} → n ≡ number_of f.refusal → n + f.place * length_at ≡ pack_refused (note_of f)
unfolding pack_refused
refused_packs f h = omega (arith, h)
