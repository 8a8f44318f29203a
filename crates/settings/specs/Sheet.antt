-- The settings sheet: kind 1, 5 or 6, unit, tenancy, disk count N, with kind 6 the start rule, then for each disk its cost, load and delay,
-- with kind 6 its mark.
--     kinds             the kinds of sheets that a unit takes as settings
--     rule_in            the start rule of a number
--     rule              the rule's number: a field of kind 6, said by the other kinds
--     heading           all before the rows: the kind, N and the rule
--     body              what follows: the rows of N disks, as a table
--     settings_sheet     the whole sheet, as a unit with a tenancy reads it
use Rattle.std.specs.Prelude.{ℕ, List, [], ◌∷◌, eqb}
use Rattle.basics.specs.Choice.{pick}
use Rattle.basics.specs.Limits.{disks_most}
use Rattle.field.specs.Sheet.{Parser, ◌>>=◌, pure, times}
use Rattle.field.specs.Field.{opening, inside, whole}
use Rattle.model.specs.declared.Rule.{Rule}
use Rattle.model.specs.declared.Rule.TheVariants.{Sum, Larger}
use Rattle.settings.specs.declared.Head.{Head}
use Rattle.settings.specs.declared.Table.{Table}
use Rattle.settings.specs.Kind.{kind_number, kind_in}
use Rattle.settings.specs.Row.{row}
use Rattle.settings.specs.Table.{table}

abbrev pub kinds : List ℕ
kinds = 1 ∷ 5 ∷ 6 ∷ []

-- 2 is the larger of delay and load, 1 their sum
unfoldable pub rule_in : ℕ → Rule
rule_in r = pick (eqb r 2) Larger Sum

-- kind 6 has it as a field, 1 or 2; kind 5 says 2, kind 1 says 1
unfoldable pub rule : ℕ → Parser ℕ
rule k = pick (eqb k 6) (inside 1 2 15) (pure (pick (eqb k 5) 2 1))

unfoldable pub heading : ℕ → ℕ → Parser Head
heading unit t = do
  k ← opening kinds unit t
  n ← inside 1 disks_most 6
  r ← rule k
  pure (record { kind = kind_in k; disks = n; rule = rule_in r })

unfoldable pub body : Head → Parser Table
body h = do
  rows ← times h.disks (row (kind_number h.kind))
  pure (table h.disks h.rule rows)

-- its fields
unfoldable pub fields : ℕ → ℕ → Parser Table
fields unit t = do
  h ← heading unit t
  body h

unfoldable pub settings_sheet : ℕ → ℕ → Parser Table
settings_sheet unit t = whole (fields unit t)
