-- The kinds of settings sheets and their numbers.
--     kind_number     the number of a kind
--     kind_in         the kind of a number that is one of them
--     Kinded          the kind of a number, or a refusal
use Rattle.std.specs.Prelude.{ℕ, ◌≡◌, ◌≢◌, Result, MatchResult, eqb}
use Rattle.basics.specs.Choice.{pick}
use Rattle.field.specs.declared.Refusal.{Refusal}
use Rattle.settings.specs.declared.Kind.{Kind}
use Rattle.settings.specs.declared.Kind.TheVariants.{Sum, Larger, Marked}

-- kind 1 says the sum of delay and load, kind 5 the larger, kind 6 has the rule and the marks as fields
abbrev pub kind_number : Kind → ℕ
kind_number Sum = 1
kind_number Larger = 5
kind_number Marked = 6

unfoldable pub kind_in : ℕ → Kind
kind_in k = pick (eqb k 6) Marked (pick (eqb k 5) Larger Sum)

-- the kind of this number; or no kind has it
abbrev pub Kinded : ℕ → Result Kind Refusal → Type 0
Kinded n r = MatchResult r (λ kind. kind_number kind ≡ n) (λ _. (n ≢ 1) × (n ≢ 5) × (n ≢ 6))
