-- Laws of a number's digits.
use mathlib.Core.Path.{◌≡◌, sym, ap, ◌∙◌}
use mathlib.Core.List.{List, [], ◌∷◌, ◌++◌}
use Prim.Native.Nat.{ℕ, zero, suc, ◌+◌, ◌/◌, ◌%◌, ◌^◌, ◌≤◌, ◌<◌}
use native.Mathlib.Omega.{arith}
use native.Mathlib.Nat.{pow-suc}
use borrow.Author.Tests.{lt-ltb, le-ltb}
use lib.Dec.{ltb}
use lib.ListN.{length, length-append}
use Rattle.basics.specs.Choice.{pick}
use Rattle.basics.proofs.Choice.{pick_true, pick_false, pick_elim}
use Rattle.line.specs.Text.{digit, digits_by, decimal, spaced}

pub digit_low : (d : ℕ) → d < 10 → digit d ≡ 48 + d
unfolding digit
digit_low d h = pick_true _ _ (lt-ltb d 10 h)

pub digit_high : (d : ℕ) → 10 ≤ d → digit d ≡ 87 + d
unfolding digit
digit_high d h = pick_false _ _ (le-ltb d 10 h)

-- one digit more at hand changes nothing where the digits are enough
enough : (k v : ℕ) → v < 10 ^ suc k → digits_by (suc k) v ≡ digits_by k v
unfolding digits_by
enough zero v h = pick_true _ _ (lt-ltb v 10 h)
enough (suc k) v h =
    let q : v / 10 < 10 ^ suc k = omega (arith, pow-suc 10 (suc k)) in
    ap (λ (r : List ℕ). pick (ltb v 10) (digit v ∷ []) (r ++ (digit (v % 10) ∷ []))) (enough k (v / 10) q)

-- a number below 10 is one digit
pub decimal_one : (v : ℕ) → v < 10 → (48 + v) ∷ [] ≡ decimal v
unfolding decimal digits_by
decimal_one v h = sym (pick_true _ _ (lt-ltb v 10 h) ∙ ap (λ (d : ℕ). d ∷ []) (digit_low v h))

-- a larger one has its last digit last
pub decimal_more : (v : ℕ) → 10 ≤ v → v < 2 ^ 64 → decimal (v / 10) ++ ((48 + v % 10) ∷ []) ≡ decimal v
unfolding decimal digits_by
decimal_more v h l =
    sym (pick_false _ _ (le-ltb v 10 h) ∙ ap (λ (r : List ℕ). r ++ (digit (v % 10) ∷ [])) (sym (enough 18 (v / 10) (omega arith)))
    ∙ ap (λ (d : ℕ). digits_by 19 (v / 10) ++ (d ∷ [])) (digit_low (v % 10) (omega arith)))

digits_bound : (k v : ℕ) → length (digits_by k v) ≤ suc k
unfolding digits_by
digits_bound zero v = omega arith
digits_bound (suc k) v =
    pick_elim (λ (r : List ℕ). length r ≤ suc (suc k)) _ _ _
    (λ _. omega arith)
    (λ _. omega (arith, length-append (digits_by k (v / 10)) (digit (v % 10) ∷ []), digits_bound k (v / 10)))

-- twenty digits at the most, and a space
abbrev pub spaced_most : ℕ
spaced_most = 21

pub spaced_bound : (v : ℕ) → length (spaced v) ≤ spaced_most
unfolding spaced decimal
spaced_bound v = omega (arith, digits_bound 19 v)
