-- The bytes that are not used yet, moved to the start of a buffer.
use mathlib.Core.Path.{◌≡◌, sym, ap, ◌∙◌}
use mathlib.Core.List.{List}
use Prim.Native.Nat.{ℕ, ◌+◌, ◌-◌, ◌≤◌}
use native.Mathlib.Omega.{arith}
use lib.ListN.{length, take, drop, length-drop}
use lib.Seq.{paste}
use Rattle.std.proofs.lemmas.List.{drop-take}
use Rattle.std.proofs.lemmas.List.Edits.{take-paste}

pub moved : (buf : List ℕ) (used have : ℕ) → used ≤ have → have ≤ length buf
    → take (have - used) (paste buf 0 (drop used buf) (have - used)) ≡ drop used (take have buf)
moved buf used have u h =
    let n : ℕ = have - used in
    ap (λ (k : ℕ). take k (paste buf 0 (drop used buf) n)) {x = n} {y = 0 + n} (omega arith)
    ∙ take-paste buf 0 (drop used buf) n (omega arith) (omega (arith, length-drop used buf))
    ∙ sym (drop-take used n buf)
    ∙ ap (λ (k : ℕ). drop used (take k buf)) {x = used + n} {y = have} (omega arith)
