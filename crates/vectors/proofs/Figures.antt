-- The figures of the model, as cases with masks.
--     join              the mask of a list of disks
--     same_case         a figure's case, spelled with masks and starts
--     P5, P6, P10, P13, P14, P15     some figures, as the model proves them
use Prim.Native.Nat.{ℕ, zero, suc, ◌^◌}
use mathlib.Core.Bool.{Bool, ◌||◌}
use mathlib.Core.List.{List, [], ◌∷◌, map}
use mathlib.Core.Path.{◌≡◌, refl, sym, ap, ap₂, fun_ext, ◌∙◌}
use native.Mathlib.Omega.{arith}
use borrow.Author.Tests.{eqb-true, eqb-false, eq-eqb, ne_eqb}
use lib.Bits.{bit_or}
use lib.Dec.{eqb}
use lib.ListN.{length, get_or, length-map}
use Rattle.mask.specs.Has.{has}
use Rattle.mask.proofs.Bits.{has_or, has_pow}
use Rattle.mask.proofs.Has.{has_zero}
use Rattle.basics.specs.Lists.{listed}
use Rattle.model.specs.declared.Rule.{Rule}
use Rattle.model.specs.Case.{Case, left, starting, base}
use Rattle.model.specs.Figures.{Disks, paper, overlapping, asked, Holds, AllHold, table}
use Rattle.model.specs.Plan.{Optimal}
use Rattle.model.proofs.Capacity.{start_within}
use Rattle.model.proofs.Figures.{figures}
use Rattle.model.proofs.Left.{left_most}
use Rattle.engine.specs.Spelled.{spelled}
use Rattle.basics.proofs.Tests.{by_cases}

unfoldable pub join : List ℕ → ℕ
join [] = 0
join (d ∷ ds) = bit_or (2 ^ d) (join ds)

swap : (x b : ℕ) → eqb b x ≡ eqb x b
swap x b =
    by_cases (eqb x b) (λ t. eq-eqb b x (sym (eqb-true x b t)) ∙ sym t) (λ f. ne_eqb b x (λ e. eqb-false x b f (sym e)) ∙ sym f)

on_mask : (ds : List ℕ) (d : ℕ) → listed ds d ≡ has (join ds) d
unfolding listed join
on_mask [] d = sym (has_zero d)
on_mask (x ∷ ds) d = ap₂ (λ (p q : Bool). p || q) (sym (has_pow x d ∙ swap x d)) (on_mask ds d) ∙ sym (has_or (2 ^ x) (join ds) d)

same_copies : (ls : List (List ℕ)) (b d : ℕ) → listed (get_or ls b []) d ≡ has (get_or (map join ls) b 0) d
unfolding listed
same_copies [] b d = sym (has_zero d)
same_copies (l ∷ ls) zero d = on_mask l d
same_copies (l ∷ ls) (suc b) d = same_copies ls b d

-- when each disk starts, by the rule and at an age, from delays and loads
unfoldable pub starts : Rule → ℕ → List ℕ → List ℕ → List ℕ
starts r age (d ∷ ds) (l ∷ ls) = starting r d (left age l) ∷ starts r age ds ls
starts r age (d ∷ ds) [] = []
starts r age [] ls = []

same_start : (r : Rule) (age : ℕ) (ds ls : List ℕ) → length ds ≡ length ls → (d : ℕ)
    → starting r (get_or ds d 0) (left age (get_or ls d 0)) ≡ get_or (starts r age ds ls) d 0
unfolding starts
same_start r age [] [] e d = omega (arith, start_within r 0 (left age 0), left_most age 0)
same_start r age [] (l ∷ ls) e d = absurd (omega (arith, e))
same_start r age (x ∷ ds) [] e d = absurd (omega (arith, e))
same_start r age (x ∷ ds) (l ∷ ls) e zero = refl
same_start r age (x ∷ ds) (l ∷ ls) e (suc d) = same_start r age ds ls (omega (arith, e)) d

-- so many blocks on some disks
abbrev on : List ℕ → ℕ → (ℕ → ℕ) → (ℕ → ℕ → Bool) → Case
on costs q start copy = record { disks = length costs; blocks = q; start = start; cost = λ d. get_or costs d 0; copy = copy }

pub same_case : (u : Disks) → length u.delays ≡ length u.loads → (age : ℕ) (ls : List (List ℕ))
    → asked u age ls ≡ spelled (map join ls) u.costs (starts u.rule age u.delays u.loads)
unfolding asked base
same_case u e age ls =
    ap₂ (on u.costs (length ls)) (fun_ext (same_start u.rule age u.delays u.loads e))
    (fun_ext (λ b. fun_ext (same_copies ls b)))
    ∙ ap (λ (q : ℕ). on u.costs q (λ d. get_or (starts u.rule age u.delays u.loads) d 0) (λ b d. has (get_or (map join ls) b 0) d))
    (sym (length-map ls join))

-- {2} {0} {0}
abbrev pub copies_p5 : List (List ℕ)
copies_p5 = (2 ∷ []) ∷ (0 ∷ []) ∷ (0 ∷ []) ∷ []

pub P5 : Optimal (asked paper 0 copies_p5) 10 (λ b. get_or (2 ∷ 0 ∷ 0 ∷ []) b 0) (listed (0 ∷ []))
unfolding AllHold Holds table
P5 = figures.1.1.1.1.0.plan

-- {0,1} {0,1} {0,1} {1,2}
abbrev pub copies_p6 : List (List ℕ)
copies_p6 = (0 ∷ 1 ∷ []) ∷ (0 ∷ 1 ∷ []) ∷ (0 ∷ 1 ∷ []) ∷ (1 ∷ 2 ∷ []) ∷ []

pub P6 : Optimal (asked paper 0 copies_p6) 9 (λ b. get_or (0 ∷ 0 ∷ 1 ∷ 1 ∷ []) b 0) (listed (0 ∷ 1 ∷ 2 ∷ 3 ∷ []))
unfolding AllHold Holds table
P6 = figures.1.1.1.1.1.0.plan

-- {0,1} {0,1} {0,1}
abbrev pub copies_p7 : List (List ℕ)
copies_p7 = (0 ∷ 1 ∷ []) ∷ (0 ∷ 1 ∷ []) ∷ (0 ∷ 1 ∷ []) ∷ []

-- P7's blocks at age 3
pub P10 : Optimal (asked paper 3 copies_p7) 6 (λ b. get_or (0 ∷ 1 ∷ 1 ∷ []) b 0) (listed (0 ∷ 1 ∷ 2 ∷ []))
unfolding AllHold Holds table
P10 = figures.1.1.1.1.1.1.1.1.1.0.plan

-- where the wait overlaps the queue: the same blocks, two of them at age 2, and {0}
pub P13 : Optimal (asked overlapping 0 copies_p7) 11 (λ b. get_or (0 ∷ 0 ∷ 1 ∷ []) b 0) (listed (0 ∷ 1 ∷ 2 ∷ []))
unfolding AllHold Holds table
P13 = figures.1.1.1.1.1.1.1.1.1.1.1.1.0.plan

abbrev pub copies_p14 : List (List ℕ)
copies_p14 = (0 ∷ 1 ∷ []) ∷ (0 ∷ 1 ∷ []) ∷ []

pub P14 : Optimal (asked overlapping 2 copies_p14) 10 (λ b. get_or (0 ∷ 0 ∷ []) b 0) (listed (0 ∷ 1 ∷ []))
unfolding AllHold Holds table
P14 = figures.1.1.1.1.1.1.1.1.1.1.1.1.1.0.plan

abbrev pub copies_p15 : List (List ℕ)
copies_p15 = (0 ∷ []) ∷ []

pub P15 : Optimal (asked overlapping 0 copies_p15) 7 (λ b. get_or (0 ∷ []) b 0) (listed (0 ∷ []))
unfolding AllHold Holds table
P15 = figures.1.1.1.1.1.1.1.1.1.1.1.1.1.1.0.plan
