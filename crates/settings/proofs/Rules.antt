-- The kinds of settings sheets, the start rules and the marks that they say.
--     rule_number_law, number_rule, rule_range, numbered_range, numbered_none     a rule and its number
--     rule_taken, rule_missed      the rule that `?` goes on with, or none and what is made of that
--     by_kind                      what holds of each kind that a unit takes
--     kind_again, kind_number_law, number_taken, kinded_ok, kinded_is     a kind and its number
--     kind_listed, kind_small      the kind that says a rule is one of them; each takes one byte
--     kind_rule                    each but kind 6 is the one that says its rule
--     InUse, zero_marks            rows of marks 0
--     Says, says_rule, says_marked     a rule's number and rows that a sheet of a kind can say
use mathlib.Core.Path.{◌≡◌, refl, sym, subst}
use mathlib.Core.Bool.{true, false}
use mathlib.Core.Logic.{⊎_elim}
use mathlib.Core.List.{List, [], ◌∷◌}
use Prim.Native.Nat.{ℕ, zero, suc, ◌≤◌, ◌<◌}
use native.Mathlib.Omega.{arith}
use borrow.Author.Tests.{eqb-true}
use lib.Dec.{eqb}
use lib.ListN.{length, replicate}
use Rattle.std.specs.Prelude.{◌≢◌, Result, Ok, Err, MatchResult}
use Rattle.std.specs.Result.{IsOk, is_err}
use Rattle.field.specs.declared.Refusal.{Refusal}
use Rattle.field.specs.declared.Fault.{Fault}
use Rattle.basics.specs.Choice.{pick}
use Rattle.basics.specs.Lists.{All, listed}
use Rattle.basics.proofs.Lists.{listed_one}
use Rattle.basics.proofs.Tests.{differ, or_elim}
use Rattle.model.specs.declared.Rule.{Rule}
use Rattle.model.specs.declared.Rule.TheVariants.{Sum, Larger}
use Rattle.settings.specs.declared.Row.{Row}
use Rattle.model.specs.declared.NoRule.{NoRule}
use Rattle.model.specs.Rule.{rule_number, Numbered}
use Rattle.settings.specs.declared.Kind.{Kind}
use Rattle.settings.specs.declared.Kind.TheVariants.{Sum as SumKind, Larger as LargerKind, Marked}
use Rattle.settings.specs.Kind.{kind_number, kind_in, Kinded}
use Rattle.settings.specs.Sheet.{kinds, rule_in}
use Rattle.settings.specs.Draft.{rows_of, kind_of}

-- ---- a rule and its number

pub rule_number_law : (r : Rule) → rule_in (rule_number r) ≡ r
unfolding rule_in pick
rule_number_law Sum = refl
rule_number_law Larger = refl

pub number_rule : (n : ℕ) → 1 ≤ n → n ≤ 2 → rule_number (rule_in n) ≡ n
unfolding rule_in pick
number_rule zero l h = absurd (omega arith)
number_rule (suc zero) l h = refl
number_rule (suc (suc zero)) l h = refl
number_rule (suc (suc (suc n))) l h = absurd (omega arith)

pub rule_range : (r : Rule) → (1 ≤ rule_number r) × (rule_number r ≤ 2)
rule_range Sum = (omega arith, omega arith)
rule_range Larger = (omega arith, omega arith)

-- a number is a rule's, or it isn't
pub numbered_range : (n : ℕ) (r : Result Rule NoRule) → Numbered n r → false ≡ is_err r → (1 ≤ n) × (n ≤ 2)
numbered_range n (Ok rule) h e = (omega (arith, h, rule_range rule), omega (arith, h, rule_range rule))
numbered_range n (Err x) h e = absurd (differ refl (sym e))

pub numbered_none : (n : ℕ) (r : Result Rule NoRule) → Numbered n r → true ≡ is_err r → 1 ≤ n → n ≤ 2 → ⊥
numbered_none n (Ok rule) h e l m = differ (sym e) refl
numbered_none n (Err x) h e l m = omega (arith, h.0, h.1)

-- a `?` goes on with its rule, or hands on what is made of the refusal
pub rule_taken : {n : ℕ} (rule : Rule) (r : Result Rule NoRule) → Numbered n r
    → MatchResult r (λ x. ◌≡◌ {A = Result Rule Fault} (Ok rule) (Ok x)) (λ _. ⊥) → rule_number rule ≡ n
rule_taken rule (Ok x) h q = cc
rule_taken rule (Err e) h q = absurd q

pub rule_missed : {n : ℕ} (f : Fault) {P : NoRule → Type 0} (r : Result Rule NoRule) → Numbered n r
    → MatchResult r (λ x. ◌≡◌ {A = Result Rule Fault} (Err f) (Ok x)) P → ((n ≢ 1) × (n ≢ 2)) × ((e : NoRule) × P e)
rule_missed f (Ok x) h q = absurd cc
rule_missed f (Err e) h q = (h, (e, q))

-- ---- the kinds

pub by_kind : (P : ℕ → Type 0) → P 1 → P 5 → P 6 → (k : ℕ) → listed kinds k ≡ true → P k
unfolding listed
by_kind P one five six k h =
    ⊎_elim (λ e. subst P (eqb-true 1 k e) one)
    (λ g. ⊎_elim (λ e. subst P (eqb-true 5 k e) five) (λ e. subst P (sym (listed_one 6 k e)) six)
    (or_elim (eqb 5 k) (listed (6 ∷ []) k) g))
    (or_elim (eqb 1 k) (listed (5 ∷ 6 ∷ []) k) h)

pub kind_listed : (r : Rule) → listed kinds (kind_of r) ≡ true
unfolding listed
kind_listed Sum = refl
kind_listed Larger = refl

pub kind_small : (k : ℕ) → listed kinds k ≡ true → k < 128
kind_small = by_kind (λ k. k < 128) (omega arith) (omega arith) (omega arith)

-- a kind's number gives it again
pub kind_again : (k : Kind) → kind_in (kind_number k) ≡ k
unfolding kind_in pick
kind_again SumKind = refl
kind_again LargerKind = refl
kind_again Marked = refl

pub kind_number_law : (k : ℕ) → listed kinds k ≡ true → kind_number (kind_in k) ≡ k
unfolding kind_in pick
kind_number_law = by_kind (λ k. kind_number (kind_in k) ≡ k) refl refl refl

pub number_taken : (k : Kind) → listed kinds (kind_number k) ≡ true
unfolding listed
number_taken SumKind = refl
number_taken LargerKind = refl
number_taken Marked = refl

-- a number that a unit takes is one of a kind
pub kinded_ok : (n : ℕ) (r : Result Kind Refusal) → listed kinds n ≡ true → Kinded n r → IsOk r
kinded_ok n (Ok k) l h = refl
kinded_ok n (Err e) l h =
    absurd (by_kind (λ k. (k ≢ 1) × (k ≢ 5) × (k ≢ 6) → ⊥) (λ q. q.0 refl) (λ q. q.1 refl) (λ q. q.2 refl) n l h)

pub kinded_is : (n : ℕ) (r : Result Kind Refusal) (k : Kind) → Kinded n r → r ≡ Ok k → n ≡ kind_number k
kinded_is n r k h e = sym (subst (Kinded n) e h)

pub kind_rule : (k : ℕ) → listed kinds k ≡ true → eqb k 6 ≡ false → kind_of (rule_in (pick (eqb k 5) 2 1)) ≡ k
unfolding rule_in pick
kind_rule =
    by_kind (λ k. eqb k 6 ≡ false → kind_of (rule_in (pick (eqb k 5) 2 1)) ≡ k) (λ _. refl) (λ _. refl) (λ f. absurd (differ refl f))

-- ---- what they say

-- its disk is in use
abbrev pub InUse : Row → Type 0
InUse r = r.mark ≡ 0

pub zero_marks : (cs ls ds : List ℕ) (n : ℕ) → All InUse (rows_of cs ls ds (replicate n 0))
unfolding All rows_of
zero_marks [] ls ds n = tt
zero_marks (c ∷ cs) [] ds n = tt
zero_marks (c ∷ cs) (l ∷ ls) [] n = tt
zero_marks (c ∷ cs) (l ∷ ls) (d ∷ ds) zero = tt
zero_marks (c ∷ cs) (l ∷ ls) (d ∷ ds) (suc n) = (refl, zero_marks cs ls ds n)

-- kind 6 any, the others their own rule and no disk that is out
pub record Says (k r : ℕ) (rows : List Row) : Type 0 where
  pub taken : listed kinds k ≡ true
  pub rule : eqb k 6 ≡ false → r ≡ pick (eqb k 5) 2 1
  pub marks : eqb k 6 ≡ false → All InUse rows

pub says_rule : (r : Rule) (cs ls ds : List ℕ) → Says (kind_of r) (rule_number r) (rows_of cs ls ds (replicate (length cs) 0))
unfolding pick
says_rule Sum cs ls ds =
    record { taken = kind_listed Sum; rule = λ _. refl; marks = λ _. zero_marks cs ls ds (length cs) }
says_rule Larger cs ls ds =
    record { taken = kind_listed Larger; rule = λ _. refl; marks = λ _. zero_marks cs ls ds (length cs) }

pub says_marked : (r : ℕ) (rows : List Row) → Says 6 r rows
unfolding listed
says_marked r rows = record { taken = refl; rule = λ f. absurd (differ refl f); marks = λ f. absurd (differ refl f) }
