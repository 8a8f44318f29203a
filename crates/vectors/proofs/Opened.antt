-- What is opened so that a worked answer computes, crate by crate: each name stands for the definitions on its line.
use Rattle.basics.specs.Choice.{pick}
use Rattle.number.specs.Decode.{under, more, decode}
use Rattle.number.specs.Encode.{encode_by, encode, width_of, fits, written, put_first}
use Rattle.field.specs.Sheet.{and_then, ◌>>=◌, ◌>>◌, pure, here, require, times}
use Rattle.basics.specs.Lists.{listed}
use Rattle.field.specs.Field.{taken, number, between, ascending, kind, addressed, opening, end, whole}
use Rattle.field.specs.Put.{spell_all, has_room, opening_bytes}
use Rattle.basics.specs.Buffer.{paste, over}
use Rattle.field.specs.Send.{answer_to, left_by}
use Rattle.settings.specs.Draft.{rows_of, heading_bytes as settings_heading_bytes, sheet_bytes, lists_fit}
use Rattle.settings.specs.Draft.{sheet_draft, settings_draft}
use Rattle.settings.specs.Kind.{kind_in}
use Rattle.settings.specs.Row.{mark, row, in_range, all_in_range, marked_bytes, row_bytes}
use Rattle.settings.specs.Sheet.{rule_in, rule, heading as settings_heading, body as settings_body, fields, settings_sheet}
use Rattle.basics.specs.Padded.{pad_to}
use Rattle.settings.specs.Table.{table, no_table}
use Rattle.settings.specs.Told.{table_of}
use Rattle.mask.specs.Has.{has}
use Rattle.basics.specs.Count.{bit, sum, count}
use Rattle.request.specs.Disks.{mask_of}
use Rattle.mask.specs.Disks.{disks_below, disks_of}
use Rattle.request.specs.Draft.{block_bytes, age_bytes, heading_bytes, request_bytes, aged, headed, checked, request_draft}
use Rattle.request.specs.Request.{last_disk, used, block, opening as request_opening, age, heading, body, request_sheet}
use Rattle.plan.specs.Draft.{plan_numbers, plan_bytes, plan_draft, counted as counted_plan}
use Rattle.plan.specs.Plan.{if_any, time_of, size_of, lists_of, plan_fields, plan_sheet}
use Rattle.plan.specs.Receive.{if_room, heads, disks_left, short_left}
use Rattle.unit.specs.Life.{rent, settled, set, give_back}
use Rattle.planner.specs.Answered.{draft_of}
use Rattle.model.specs.Case.{in_use}
use Rattle.planner.specs.Asked.{is_out, case_in, Plans, asked as asked_case}
use Rattle.unit.specs.Unit.{new_unit, tenancy_of, tenanted, returned}
use Rattle.desk.specs.Desk.{broken_rows, settings_draft_of_bytes, marked_draft_of_bytes}
use Rattle.desk.specs.Desk.{tenancy_with, request_draft_of_bytes, plan_if_room, set_left}
use Rattle.lent.specs.Numbers.{value_of, bytes_of, first_numbers, numbers, broken}
use Rattle.lent.specs.Packed.{pack_plan, pack_refused, writer_answer, reader_answer}
use Rattle.line.specs.Text.{digit, digits_by, decimal, spaced, pair, hex}
use Rattle.line.specs.Line.{feed, word_returned, word_refused, word_stopped, word_reason, word_plan, bar}
use Rattle.line.specs.Line.{refused_text, refused_at_text, stopped_text}
use Rattle.line.specs.Line.{plan_text, plan_line, sheet_line}
use Rattle.stream.specs.Frame.{sheet, bytes as framed}
use Rattle.stream.specs.Call.{of_tenancy, of_settings, of_request, of_why, none, behind, asked}
use Rattle.console.specs.Bench.{judge, accept, close, hire, bench_input, answer_line as bench_line, Line, apply as apply_input}
use Rattle.hire.specs.Calls.{Comes as Came, sent, Does}
use Rattle.why.specs.Why.{within, Explains}
use Rattle.service.specs.Shelf.{due, call_of, accepted_line, line_of, Serves, last_line, waits, Comes}
use Rattle.vectors.specs.Text.{bytes, digit as hex_digit}

unfoldable pub number_opened : Type 0
unfolding pick over under more decode encode_by encode width_of fits written put_first bytes hex_digit
number_opened = Unit

unfoldable pub field_opened : Type 0
unfolding
    number_opened and_then ◌>>=◌ ◌>>◌ pure here require times taken number between ascending kind addressed opening end whole listed
    spell_all paste has_room opening_bytes answer_to left_by
field_opened = Unit

unfoldable pub settings_opened : Type 0
unfolding
    field_opened rows_of kind_in settings_heading_bytes sheet_bytes lists_fit sheet_draft settings_draft mark
    row in_range
    all_in_range marked_bytes row_bytes rule_in rule settings_heading settings_body fields settings_sheet pad_to table no_table table_of
settings_opened = Unit

unfoldable pub request_opened : Type 0
unfolding
    field_opened has bit sum count mask_of disks_below disks_of block_bytes age_bytes heading_bytes request_bytes aged headed checked
    request_draft
    last_disk used block request_opening age heading body request_sheet
request_opened = Unit

unfoldable pub plan_opened : Type 0
unfolding
    field_opened plan_numbers plan_bytes counted_plan plan_draft if_any time_of size_of lists_of plan_fields plan_sheet
    if_room heads over disks_left short_left
plan_opened = Unit

unfoldable pub unit_opened : Type 0
unfolding
    settings_opened request_opened rent settled set give_back is_out in_use case_in asked_case Plans draft_of new_unit
    tenancy_of
    tenanted returned
unit_opened = Unit

unfoldable pub desk_opened : Type 0
unfolding
    settings_opened request_opened plan_opened broken_rows settings_draft_of_bytes marked_draft_of_bytes tenancy_with request_draft_of_bytes
    plan_if_room set_left
    value_of bytes_of first_numbers numbers broken pack_plan pack_refused writer_answer reader_answer
desk_opened = Unit

unfoldable pub line_opened : Type 0
unfolding
    plan_opened digit digits_by decimal spaced pair hex feed word_returned word_refused word_stopped word_reason
    word_plan bar refused_text refused_at_text stopped_text plan_text plan_line sheet_line
line_opened = Unit

unfoldable pub stream_opened : Type 0
unfolding field_opened framed sheet of_tenancy of_settings of_request of_why none behind asked
stream_opened = Unit

unfoldable pub program_opened : Type 0
unfolding
    unit_opened line_opened stream_opened judge accept close hire apply_input bench_input bench_line Line
    within Explains Came sent Does due call_of accepted_line line_of Serves last_line waits Comes
program_opened = Unit
