-- `engine::load` meets its contract.
use mathlib.Core.Path.{refl}
use native.Mathlib.Omega.{arith}
use Rattle.engine.proofs.Lists.{copied_front, copied_loaded}
use Rattle.engine.proofs.load.Goals as goal

pub returns : goal.returns
returns c =
    let p = c.requires in
    rw c.copy_from_slice.ensures.after
    (copied_loaded (copied_front c.args.copies.now c.args.masks.now refl (omega (arith, p.0, p.1))) (omega arith) p.1 p.2)
