-- `write_settings`: a list that is broken or too long is 6; else the parts that are lent hold the numbers of the bytes.
use Rattle.basics.proofs.Question.{passed_on}
use Rattle.desk.proofs.Writing.{listed, sent_six, sent_as, rows_unusable, costs_usable, loads_usable, delays_usable}
use Rattle.desk.proofs.Writing.{settings_unusable, settings_usable}
use Rattle.desk.proofs.write_settings.Goals as goal

pub returns-in_err-rows : goal.returns-in_err-rows
returns-in_err-rows c =
    sent_six _ (passed_on c.from_residual.ensures) c.in_err-rows.ensures.1
    (settings_unusable _ _ _ _ _ _ (rows_unusable _ _ _ _ _ c.in_err-rows.ensures.0))

pub of-c-requires : goal.of-c-requires
of-c-requires c = costs_usable _ _ _ c.in_ok-rows.ensures

pub of-l-requires : goal.of-l-requires
of-l-requires c = loads_usable _ _ _ c.in_ok-rows.ensures

pub of-d-requires : goal.of-d-requires
of-d-requires c = delays_usable _ _ _ c.in_ok-rows.ensures

pub returns : goal.returns
returns c =
    let h = c.in_ok-rows.ensures in
    sent_as
    (settings_usable _ _ _ (listed _ (costs_usable _ _ _ h, c.of-c.ensures) c.list.ensures)
    (listed _ (loads_usable _ _ _ h, c.of-l.ensures) c.list-2.ensures)
    (listed _ (delays_usable _ _ _ h, c.of-d.ensures) c.list-3.ensures)
    _ _ _)
    c.write.ensures
