-- What the number reader says of `&s[at..]` is what `number` says at the place.
use native.Mathlib.Omega.{arith}
use Prim.Native.Nat.{◌-◌}
use lib.ListN.{length, drop, length-take}
use mathlib.Core.Path.{sym, ap, ◌∙◌}
use Rattle.basics.specs.Choice.{pick}
use Rattle.number.specs.Decode.{refused as bad}
use Rattle.number.specs.Told.{number_of as number_in}
use Rattle.number.proofs.Decode.{decode_within}
use Rattle.field.specs.Field.{taken}
use Rattle.field.proofs.Readers.{refused_as, number_past, number_of}
use Rattle.field.proofs.number.Goals as goal

pub returns-then-s-at : goal.returns-then-s-at
returns-then-s-at c = refused_as c.at.ensures ∙ sym (number_past _ _ c.if-s-at.true)

pub overflow_add-result : goal.overflow_add-result
overflow_add-result c =
    let start = c.args in
    omega (
      arith,
      decode_within _ _ _ (sym c.in-Ok.ensures),
      length-take (length start.s.now - start.at) (drop start.at start.s.now),
    )

pub returns-in-Ok : goal.returns-in-Ok
unfolding taken pick
returns-in-Ok c = sym (number_of _ _ ∙ ap (taken _ _) (sym c.in-Ok.ensures))

pub returns-in-Err-Ends : goal.returns-in-Err-Ends
unfolding taken pick
returns-in-Err-Ends c =
    refused_as c.at-in-Err-Ends.ensures ∙ sym (number_of _ _ ∙ ap (taken _ _)
    (sym c.in-Err-Ends.ensures ∙ ap (λ e. bad (number_in e)) c.in-Err-Ends.field-0-is))

pub returns-in-Err-Malformed : goal.returns-in-Err-Malformed
unfolding taken pick
returns-in-Err-Malformed c =
    refused_as c.at-in-Err-Malformed.ensures ∙ sym (number_of _ _ ∙ ap (taken _ _)
    (sym c.in-Err-Malformed.ensures ∙ ap (λ e. bad (number_in e)) c.in-Err-Malformed.field-0-is))
