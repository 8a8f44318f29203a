-- `put`. The number writer works in `&mut self.out[self.at..]`: `put_of`.
use native.Mathlib.Omega.{arith}
use mathlib.Core.Path.{refl}
use Rattle.number.proofs.Encode.{wrote_fits}
use Rattle.field.proofs.Puts.{put_past, put_of}
use Rattle.field.proofs.Pen.put.Goals as goal

pub overflow_add-self : goal.overflow_add-self
overflow_add-self c = omega (arith, wrote_fits c.write.ensures)

pub returns-then-self : goal.returns-then-self
returns-then-self c = record {
  same = refl;
  one = rw c.unwrap_or.ensures (put_of _ _ _ _ _ (omega arith) c.write.ensures);
}

pub returns-else-self : goal.returns-else-self
returns-else-self c = record { same = refl; one = put_past _ _ _ c.if-self.false }
