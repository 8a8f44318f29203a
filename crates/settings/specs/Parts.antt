-- What the private functions promise.
--     told_rule                  a start rule and the place after it, by its number, or a refusal
--     FitOr6                     the lists of a draft fit, or are refused with 6
--     Level, level, rows_in      four lists of one length, and the rows that they have
--     row_width, rows_width      the bytes of a row, and of all rows; none where a value is out of its range
use Rattle.std.specs.Prelude.{ℕ, ◌≡◌, true, false, Option, Some, None, Result, MatchResult, List, length}
use Rattle.basics.specs.Choice.{pick}
use Rattle.field.specs.declared.Fault.{Fault}
use Rattle.field.specs.declared.Refusal.TheVariants.{OutOfRange}
use Rattle.field.specs.Refusal.{fault_at}
use Rattle.field.specs.Put.{spell_all}
use Rattle.field.specs.Sheet.{Out, got}
use Rattle.field.specs.Told.{told_by}
use Rattle.model.specs.Rule.{rule_number}
use Rattle.model.specs.declared.Rule.{Rule}
use Rattle.settings.specs.declared.Lists.{Lists}
use Rattle.settings.specs.declared.Row.{Row}
use Rattle.settings.specs.Draft.{rows_of, lists_fit}
use Rattle.settings.specs.Row.{in_range, all_in_range, row_bytes}

abbrev pub told_rule : Result (Rule × ℕ) Fault → Out ℕ
told_rule = told_by (λ r. got (rule_number r.0) r.1)

pub record Level (cs ls ds ms : List ℕ) : Type 0 where
  pub loads : length ls ≡ length cs
  pub delays : length ds ≡ length cs
  pub marks : length ms ≡ length cs

abbrev pub level : Lists → Type 0
level l = Level l.costs.now l.loads.now l.delays.now l.marks.now

abbrev pub rows_in : Lists → List Row
rows_in l = rows_of l.costs.now l.loads.now l.delays.now l.marks.now

abbrev pub FitOr6 : ℕ → Lists → Result Unit Fault → Type 0
FitOr6 t l r =
    let fit = lists_fit t l.costs.now l.loads.now l.delays.now l.marks.now in
    MatchResult r (λ _. fit ≡ true) (λ e. (fit ≡ false) × (e ≡ fault_at OutOfRange 0))

unfoldable pub row_width : ℕ → Row → Option ℕ
row_width k r = pick (in_range r) (Some (length (row_bytes k r))) None

unfoldable pub rows_width : ℕ → List Row → Option ℕ
rows_width k rs = pick (all_in_range rs) (Some (length (spell_all (row_bytes k) rs))) None
