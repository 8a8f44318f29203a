-- The lines that the programs print.
use mathlib.Core.Path.{◌≡◌, refl}
use mathlib.Core.List.{[]}
use Rattle.line.specs.declared.Word.TheVariants.{Refused, RefusedAt, Reason}
use Rattle.line.specs.Line.{spoken, plan_line, sheet_line}
use Rattle.line.specs.Text.{ascii}
use Rattle.vectors.proofs.Opened.{line_opened}
use Rattle.vectors.proofs.Plan.{plan}
use Rattle.vectors.proofs.Plan.{example as sheet}

-- ---- say

-- a refusal and its number, after a single space
refused_6 : spoken (Refused 6) ≡ ascii "refused 6\n"
unfolding line_opened
refused_6 = refl

-- with its place
refused_16_11 : spoken (RefusedAt 16 11) ≡ ascii "refused 16 11\n"
unfolding line_opened
refused_16_11 = refl

-- the second reason and its time
reason_2_12 : spoken (Reason 2 12) ≡ ascii "reason 2 12\n"
unfolding line_opened
reason_2_12 = refl

-- ---- plan_line

-- document 01's line
plan_example : plan_line 7 300 plan ≡ ascii "plan 7 300 4 9 | 0 0 1 1 | 0 1 2 3\n"
unfolding line_opened
plan_example = refl

-- and the line of a plan for no blocks
no_blocks : plan_line 7 300 (record { time = 0; disks = []; short = [] }) ≡ ascii "plan 7 300 0 0 | |\n"
unfolding line_opened
no_blocks = refl

-- ---- sheet_line

-- a plan sheet's bytes in hex
sheet_example : sheet_line sheet ≡ ascii "plan 0307ac020409000001010400010203\n"
unfolding line_opened
sheet_example = refl
