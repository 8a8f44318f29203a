-- `byte`: with room the byte at the place, else nothing.
use native.Mathlib.Omega.{arith}
use mathlib.Core.Path.{refl}
use Rattle.line.proofs.Adding.{writes_byte, writes_full}
use Rattle.line.proofs.Pen.byte.Goals as goal

pub returns-then-self : goal.returns-then-self
returns-then-self c = writes_byte _ refl (omega arith) refl refl

pub returns-else-self : goal.returns-else-self
returns-else-self c = writes_full _ refl (omega arith) refl refl
