-- `not_disk`: whatever number stands there is above the last disk.
use mathlib.Core.Path.{sym, ◌∙◌}
use Rattle.field.proofs.Readers.{refused_as}
use Rattle.request.proofs.Reading.{disk_above, disk_stops}
use Rattle.request.proofs.not_disk.Goals as goal

pub returns-in-Ok : goal.returns-in-Ok
returns-in-Ok c =
    let pre = c.requires in
    λ floor. disk_above _ _ _ floor pre.0 pre.1 pre.2 (sym c.in-Ok.ensures) ∙ sym (refused_as c.at.ensures)

pub returns-in-Err : goal.returns-in-Err
returns-in-Err c = λ floor. disk_stops _ _ _ floor (sym c.in-Err.ensures)
