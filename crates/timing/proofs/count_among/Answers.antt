-- `timing::count_among` meets its contract.
use Prim.Native.Nat.{ℕ}
use mathlib.Core.Path.{◌≡◌, ap, sym, ◌∙◌}
use mathlib.Core.Bool.{Bool, ◌&&◌}
use lib.Dec.{leb}
use Rattle.basics.specs.Count.{count}
use Rattle.places.specs.Among.{among}
use Rattle.timing.proofs.Counts.{count_from_start, count_from_more, count_from_same}
use native.Mathlib.Omega.{arith}
use Rattle.timing.proofs.count_among.Goals.{then-all_in, else-all_in}
use Rattle.timing.proofs.count_among.Goals as goal

pub loop-i-init : goal.loop-i-init
loop-i-init c = (omega arith, c.requires.0, sym (count_from_start (among c.args.masks.now c.args.x) c.args.b), omega arith)

pub loop-i-preserved : goal.loop-i-preserved
loop-i-preserved c =
    let a = c.args in
    let l = c.loop-i in
    let p : ℕ → Bool = among a.masks.now a.x in
    elim c.if-all_in.branch [
      | then-all_in s ↦ (
        omega arith,
        omega arith,
        omega (
          arith,
          s.total-is,
          l.invariant.2,
          count_from_more p a.b l.i l.invariant.0 (sym c.all_in.ensures ∙ s.if-all_in.true),
        ),
        omega (arith, s.total-is, l.invariant.3),
      )
      | else-all_in s ↦ (
        omega arith,
        omega arith,
        omega (
          arith,
          s.total-is,
          l.invariant.2,
          count_from_same p a.b l.i (sym c.all_in.ensures ∙ s.if-all_in.false),
        ),
        omega (arith, s.total-is, l.invariant.3),
      )
    ]

pub returns : goal.returns
returns c =
    let a = c.args in
    let l = c.loop-i in
    let e : l.i ≡ a.q = omega arith in
    l.invariant.2 ∙ ap (λ (y : ℕ). count y (λ j. among a.masks.now a.x j && leb a.b j)) e
