-- `answer`: the unit's own promise is the reply to each call; a verdict is printed by its word.
use mathlib.Core.Path.{refl}
use Rattle.hire.proofs.Runs.{rent_does, set_does, back_does}
use Rattle.line.specs.declared.Word.TheVariants.{Rented, Set, Returned}
use Rattle.service.specs.Shelf.{call_of, accepted_line}
use Rattle.service.proofs.Serving.{answers_said}
use Rattle.service.proofs.answer.Goals as goal

pub returns-in-Rent : goal.returns-in-Rent
unfolding call_of accepted_line
returns-in-Rent c =
    rw c.in-Rent.is (record {
      unit = c.rent.result.unit;
      ends = c.served.ensures.0;
      answers = answers_said Rented c.rent.result refl (rent_does _ _ _ c.rent.ensures) c.served.ensures.1;
    })

pub returns-in-Settings : goal.returns-in-Settings
unfolding call_of accepted_line
returns-in-Settings c =
    rw c.in-Settings.is (record {
      unit = c.settings.result.unit;
      ends = c.served-in-Settings.ensures.0;
      answers = answers_said Set c.settings.result refl (set_does _ _ _ (rw c.of.ensures at c.settings.ensures))
          c.served-in-Settings.ensures.1;
    })

pub returns-in-Request : goal.returns-in-Request
returns-in-Request c =
    rw c.in-Request.is
    (record { unit = c.args.u.now; ends = (refl, refl, refl); answers = rw c.of-in-Request.ensures at c.request.ensures })

pub returns-in-Return : goal.returns-in-Return
unfolding call_of accepted_line
returns-in-Return c =
    rw c.in-Return.is (record {
      unit = c.give_back.result.unit;
      ends = c.served-in-Return.ensures.0;
      answers = answers_said Returned c.give_back.result refl (back_does _ _ _ c.give_back.ensures) c.served-in-Return.ensures.1;
    })

pub returns-in-Why : goal.returns-in-Why
returns-in-Why c =
    rw c.in-Why.is (record { unit = c.args.u.now; ends = (refl, refl, refl); answers = rw c.of-in-Why.ensures at c.explain.ensures })
