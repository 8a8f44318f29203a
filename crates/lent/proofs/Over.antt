-- Laws of the numbers of a list of bytes, put over the start of a list that is lent as a part.
use mathlib.Core.Path.{◌≡◌, sym, ap, ◌∙◌}
use mathlib.Core.List.{List}
use Prim.Native.Nat.{ℕ, ◌/◌, ◌≤◌}
use native.Mathlib.Omega.{arith}
use lib.ListN.{length, take}
use Rattle.basics.specs.Buffer.{over}
use Rattle.basics.proofs.Buffer.{over_within, over_front}
use Rattle.lent.specs.Numbers.{numbers}
use Rattle.lent.proofs.Numbers.{numbers_length}

module _ (w : ℕ) (bytes out after : List ℕ) (h : after ≡ over (numbers w bytes) out) where
  pub part_numbers : take (length bytes / w) after ≡ numbers w bytes
  part_numbers = ap (take (length bytes / w)) h ∙ over_front (numbers w bytes) out (length bytes / w) (numbers_length w bytes)

  pub part_count : length bytes / w ≡ length (take (length bytes / w) after)
  part_count = sym (ap length part_numbers ∙ numbers_length w bytes)

  pub part_within : length bytes / w ≤ length after
  part_within = omega (arith, ap length h, over_within (numbers w bytes) out, numbers_length w bytes)
