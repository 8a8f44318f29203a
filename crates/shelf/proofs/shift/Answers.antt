-- `shift`: as the library moves them.
use mathlib.Core.Path.{refl}
use Rattle.shelf.proofs.Moving.{moved}
use Rattle.shelf.proofs.shift.Goals as goal

pub returns : goal.returns
returns c = record {
  size = c.copy_within.ensures.len;
  count = refl;
  left = rw c.copy_within.ensures.after (moved c.args.buf.now c.args.used c.args.have c.requires.0 c.requires.1);
}
