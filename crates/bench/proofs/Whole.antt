-- What stands in the buffer gives the line of all of the input.
use mathlib.Core.Path.{ap, ◌∙◌}
use mathlib.Core.List.{List, ◌++◌, append-nil}
use Prim.Native.Nat.{ℕ, ◌≤◌, ◌<◌}
use native.Mathlib.Omega.{arith}
use borrow.Author.Tests.{leb-true, leb-false}
use lib.Dec.{leb}
use lib.ListN.{length, take}
use lib.Seq.{length-take-le}
use Rattle.basics.proofs.Tests.{by_cases}
use Rattle.console.specs.Bench.{input_most, bench_input, Tells}
use Rattle.console.proofs.Benching.{tells_same}
use Rattle.console.proofs.Cut.{bench_more}
use Rattle.bench.specs.Parts.{Answers}

pub answers : (input : List ℕ) (n : ℕ) {out : List ℕ} {r : ℕ} {after : List ℕ} → n ≤ length input → input_most < length input
    → Tells (bench_input (take n input) 0) out r after → Answers input n out r after
answers input n l m t = record {
  tells = λ rest none.
      tells_same
      (by_cases (leb (length input) n)
      (λ full. bench_more (take n input) rest (omega (arith, leb-true (length input) n full, length-take-le n input l)))
      (λ part. ap (λ (x : List ℕ). bench_input (take n input ++ x) 0) (none (leb-false (length input) n part))
      ∙ ap (λ (x : List ℕ). bench_input x 0) (append-nil (take n input))))
      t;
}
