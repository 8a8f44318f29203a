-- A number that is a field of kind 6 alone, and that the other kinds say: the start rule's and a disk's mark.
--     alone         such a number as it is read, by the test of the kind; as it is written it is `field_if`
--     Fitting, alone_fits, fits_range     what is known of its value
--     reads_alone, alone_spelt, within_alone     reading what was written, the bytes of what was read, where it refuses
--     alone_top         how many bytes it has
use mathlib.Core.Path.{◌≡◌, refl, sym}
use mathlib.Core.Bool.{Bool, true, false}
use mathlib.Core.List.{List}
use Prim.Native.Nat.{ℕ, ◌^◌, ◌≤◌, ◌<◌}
use native.Mathlib.Omega.{arith}
use lib.ListN.{length}
use Rattle.basics.specs.Choice.{pick}
use Rattle.basics.specs.Count.{bit}
use Rattle.basics.proofs.Tests.{differ}
use Rattle.number.specs.Bytes.{Bytes}
use Rattle.number.specs.Encode.{width_of}
use Rattle.number.proofs.Encode.{width_one}
use Rattle.field.specs.Sheet.{Parser, got, pure}
use Rattle.field.specs.Field.{inside}
use Rattle.field.specs.Put.{field_if}
use Rattle.field.proofs.Read.{Reads, reads_between, reads_pure}
use Rattle.field.proofs.Sheet.{pure_got}
use Rattle.field.proofs.Spelt.{Spelt, spelt_none, between_spelt}
use Rattle.field.proofs.Values.{between_range}
use Rattle.field.proofs.Within.{Within, within_between, within_pure, within_more}

-- from low to high; the other kinds say v
abbrev pub alone : Bool → ℕ → ℕ → ℕ → Parser ℕ
alone b low high v = pick b (inside low high 15) (pure v)

-- ---- reading it

-- it is in its range where it is a field; else it is what is said
pub record Fitting (b : Bool) (low high v x : ℕ) : Type 0 where
  pub ranged : b ≡ true → (low ≤ x) × (x ≤ high)
  pub said : b ≡ false → x ≡ v

pub alone_fits : (b : Bool) (low high v : ℕ) (s : List ℕ) (at : ℕ) {x e : ℕ} → alone b low high v s at ≡ got x e → Fitting b low high v x
unfolding pick
alone_fits true low high v s at h = record { ranged = λ _. between_range low high 15 15 s at h; said = λ f. absurd (differ refl f) }
alone_fits false low high v s at {x} {e} h =
    record { ranged = λ t. absurd (differ t refl); said = λ _. sym (pure_got v x s at e h).0 }

pub fits_range : {b : Bool} {low high v x : ℕ} → Fitting b low high v x → low ≤ v → v ≤ high → (low ≤ x) × (x ≤ high)
fits_range {b = true} w l m = w.ranged refl
fits_range {b = false} w l m = (omega (arith, w.said refl), omega (arith, w.said refl))

pub reads_alone : (b : Bool) (low high v x : ℕ) → Fitting b low high v x → high < 2 ^ 32 → Reads (alone b low high v) (field_if b x) x
unfolding pick
reads_alone true low high v x w h =
    let r = w.ranged refl in reads_between low high 15 15 x r.0 r.1 (omega (arith, r.1))
reads_alone false low high v x w h = rw (w.said refl) (reads_pure v)

pub alone_spelt : (b : Bool) (low high v : ℕ) (s : List ℕ) → Bytes s → (at : ℕ) {x e : ℕ} → at ≤ length s
    → alone b low high v s at ≡ got x e → Spelt s at e (field_if b x)
unfolding pick
alone_spelt true low high v s z at l h = (between_spelt s z at low high 15 15 h).0
alone_spelt false low high v s z at {x} {e} l h = rw (sym (pure_got v x s at e h).1) (spelt_none s at l)

pub within_alone : (b : Bool) (low high v : ℕ) → Within 5 (alone b low high v)
unfolding pick
within_alone true low high v = within_between low high 15 15
within_alone false low high v = within_more (omega arith) (within_pure v)

-- ---- writing it

-- one byte where it is a field, else none
pub alone_top : (b : Bool) (x : ℕ) → x < 128 → length (field_if b x) ≡ bit b
unfolding pick bit width_of
alone_top true x h = width_one x h
alone_top false x h = refl
