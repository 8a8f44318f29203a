-- `reason::keep`: block after block.
use native.Mathlib.Omega.{arith}
use Prim.Native.Nat.{ℕ}
use mathlib.Core.Path.{◌≡◌, subst}
use Rattle.reason.specs.Parts.{Kept}
use Rattle.reason.proofs.Cuts.{kept_start, kept_more}
use Rattle.reason.proofs.keep.Goals as goal

pub loop-b-init : goal.loop-b-init
loop-b-init c = kept_start c.args.disks.now c.args.masks.now

pub only-requires : goal.only-requires
only-requires c =
    c.requires.3 c.loop-b.b (omega arith)

pub bounds-masks-b : goal.bounds-masks-b
bounds-masks-b c =
    omega (arith, c.requires.1, c.requires.2, c.loop-b.invariant.long)

pub loop-b-preserved : goal.loop-b-preserved
loop-b-preserved c =
    kept_more _ c.loop-b.invariant (omega (arith, c.requires.1, c.requires.2)) c.only.ensures

pub returns : goal.returns
returns c =
    let l = c.loop-b in
    let e : l.b ≡ c.args.block = omega arith in
    subst (λ (x : ℕ). Kept x c.args.disks.now c.args.masks.now l.masks) e l.invariant
