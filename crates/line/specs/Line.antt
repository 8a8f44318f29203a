-- The lines that the programs print, in ASCII; each ends with one line feed.
--     spoken        a word, or a word and one or two numbers
--     refused_text, refused_at_text, stopped_text    the lines of refusals, by number and place
--     plan_line      a plan's fields
--     sheet_line     a plan sheet's bytes
use Rattle.std.specs.Prelude.{ℕ, ◌-◌, ◌/◌, List, [], ◌∷◌, ◌++◌, length, leb}
use Rattle.basics.specs.Choice.{pick}
use Rattle.field.specs.Put.{spell_all}
use Rattle.plan.specs.Plan.{Plan}
use Rattle.plan.specs.Draft.{counted}
use Rattle.line.specs.declared.Word.{Word}
use Rattle.line.specs.declared.Word.TheVariants.{Rented, Set, Returned, Refused, RefusedAt, Stopped, Reason}
use Rattle.line.specs.Text.{ascii, spaced, hex}

-- a program's buffer for a line; the longest sheet that has room there, in hex behind "plan " and before the line feed
abbrev pub line_most : ℕ
line_most = 65536

abbrev pub sheet_most : ℕ
sheet_most = (line_most - 6) / 2

-- the line feed
unfoldable pub feed : List ℕ
feed = ascii "\n"

unfoldable pub word_rented : List ℕ
word_rented = ascii "rented"

unfoldable pub word_set : List ℕ
word_set = ascii "set"

unfoldable pub word_returned : List ℕ
word_returned = ascii "returned"

unfoldable pub word_refused : List ℕ
word_refused = ascii "refused"

unfoldable pub word_stopped : List ℕ
word_stopped = ascii "stopped"

unfoldable pub word_reason : List ℕ
word_reason = ascii "reason"

unfoldable pub word_plan : List ℕ
word_plan = ascii "plan"

-- " |"
unfoldable pub bar : List ℕ
bar = ascii " |"

-- a refusal's number, without its place or with it; the number of the refusal at which a stream stops
unfoldable pub refused_text : ℕ → List ℕ
refused_text n = word_refused ++ (spaced n ++ feed)

unfoldable pub refused_at_text : ℕ → ℕ → List ℕ
refused_at_text n p = word_refused ++ (spaced n ++ (spaced p ++ feed))

unfoldable pub stopped_text : ℕ → List ℕ
stopped_text n = word_stopped ++ (spaced n ++ feed)

-- a word; a refusal; a reason's number and its time
abbrev pub spoken : Word → List ℕ
spoken Rented = word_rented ++ feed
spoken Set = word_set ++ feed
spoken Returned = word_returned ++ feed
spoken (Refused n) = refused_text n
spoken (RefusedAt n p) = refused_at_text n p
spoken (Stopped n) = stopped_text n
spoken (Reason k t) = word_reason ++ (spaced k ++ (spaced t ++ feed))

-- plan, unit, tenancy, Q, R, the disks by block, the short set, parted by single spaces
unfoldable pub plan_text : ℕ → ℕ → Plan → List ℕ
plan_text unit t p =
    word_plan ++ (spell_all spaced (unit ∷ t ∷ length p.disks ∷ p.time ∷ []) ++
    (bar ++ (spell_all spaced p.disks ++ (bar ++ (spell_all spaced p.short ++ feed)))))

-- no line where Q or m is above 1,024
unfoldable pub plan_line : ℕ → ℕ → Plan → List ℕ
plan_line unit t p = pick (counted p) (plan_text unit t p) []

-- plan, and the sheet's bytes in hex; no line where it would be longer than its buffer
unfoldable pub sheet_line : List ℕ → List ℕ
sheet_line bytes = pick (leb (length bytes) sheet_most) (ascii "plan " ++ (hex bytes ++ feed)) []
