-- `read` meets its contract: the heading, and then the blocks.
use native.Mathlib.Omega.{arith}
use mathlib.Core.Path.{sym, ap, ◌∙◌}
use Rattle.basics.proofs.Question.{passed_on}
use Rattle.mask.specs.Has.{has}
use Rattle.field.specs.Field.{whole}
use Rattle.request.specs.Request.{body}
use Rattle.request.specs.Told.{handed}
use Rattle.request.proofs.Reading.{last_under, heading_within, sheet_stops, sheet_next, told_stopped}
use Rattle.request.proofs.read.Goals as goal

pub returns-in_err-h : goal.returns-in_err-h
returns-in_err-h c = told_stopped _ _ (passed_on c.from_residual.ensures) (sheet_stops _ _ _ _ _ (sym c.in_err-h.ensures))

pub blocks-requires : goal.blocks-requires
blocks-requires c = (
  heading_within _ _ _ _ _ (sym c.in_ok-h.ensures),
  omega (arith, c.last.ensures, last_under c.args.disks),
)

pub returns : goal.returns
returns c =
    c.blocks-2.ensures
    ∙ ap (λ k. handed (whole (body c.in_ok-h.h k (has c.args.out)) c.args.s.now c.in_ok-h.at)) c.last.ensures
    ∙ sym (ap handed (sheet_next _ _ _ _ _ (sym c.in_ok-h.ensures)))
