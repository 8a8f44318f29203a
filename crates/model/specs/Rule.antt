-- The number that a sheet has for a start rule.
use Rattle.std.specs.Prelude.{ℕ, ◌≡◌, ◌≢◌, Result, MatchResult}
use Rattle.model.specs.declared.Rule.{Rule}
use Rattle.model.specs.declared.Rule.TheVariants.{Sum, Larger}
use Rattle.model.specs.declared.NoRule.{NoRule}

-- 1 is the sum of delay and load, 2 the larger
abbrev pub rule_number : Rule → ℕ
rule_number Sum = 1
rule_number Larger = 2

-- the rule of this number; or no rule has it
abbrev pub Numbered : ℕ → Result Rule NoRule → Type 0
Numbered n r = MatchResult r (λ rule. rule_number rule ≡ n) (λ _. (n ≢ 1) × (n ≢ 2))
