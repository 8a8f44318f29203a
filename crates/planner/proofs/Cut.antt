-- The copies in use: the disks that are out, as one number, and the copies without them.
--     Gathered           that number is made up to a row: at the start, one row more, at the end
--     kept_start, kept_step, kept_done     the copies are cut up to a block: at the start, one block more, at the end
--     kept_count, kept_whole     of copies up to Q, and 0 behind them: so are those that are left
--     kept_case          the case that those spell is the case of copies in use
use mathlib.Core.Path.{◌≡◌, refl, sym, ap, ap₂, ◌∙◌, subst, fun_ext}
use mathlib.Core.Bool.{Bool, false, not, ◌&&◌, ◌||◌}
use mathlib.Core.List.{List, ◌++◌}
use Prim.Native.Nat.{ℕ, ◌+◌, ◌-◌, ◌≤◌, ◌<◌}
use native.Mathlib.Omega.{arith}
use borrow.Author.Count.{below_more}
use borrow.Author.Tests.{eq-eqb, ne_eqb}
use lib.Dec.{eqb}
use lib.ListN.{length, get_or, set, take, drop, replicate, length-set, get_or-eq_default}
use lib.Seq.{get_or-set_same, get_or-set_other}
use Rattle.basics.specs.Limits.{disks_most, blocks_most}
use Rattle.basics.specs.Padded.{pad_to}
use Rattle.basics.proofs.Tests.{below_or}
use Rattle.mask.specs.Has.{has}
use Rattle.mask.proofs.Has.{has_zero}
use Rattle.model.specs.Case.{Case}
use Rattle.engine.specs.Spelled.{spelled}
use Rattle.settings.specs.declared.Row.{Row}
use Rattle.settings.specs.declared.Table.{Table}
use Rattle.settings.specs.Row.{no_disk}
use Rattle.settings.specs.Table.{Proper}
use Rattle.settings.proofs.Accepted.{proper_zero}
use Rattle.model.specs.Case.{in_use}
use Rattle.planner.specs.Asked.{is_out}
use Rattle.planner.specs.Parts.{Kept}

-- ---- the disks that are out

pub record Gathered (rows : List Row) (m i : ℕ) : Type 0 where
  pub below : i ≤ disks_most
  pub held : (d : ℕ) → d < i → has m d ≡ eqb (get_or rows d no_disk).mark 1
  pub rest : (d : ℕ) → i ≤ d → has m d ≡ false

pub gathered_start : (rows : List Row) → Gathered rows 0 0
gathered_start rows = record { below = omega arith; held = λ d l. absurd (omega arith); rest = λ d l. has_zero d }

module _ {rows : List Row} {m i : ℕ} (r : Row) (l : i < disks_most) (e : r ≡ get_or rows i no_disk) (w : Gathered rows m i) where
  -- a disk that is out is put in
  pub gathered_out : {x m' : ℕ} → r.mark ≡ 1 → x ≡ m' → ((d : ℕ) → has m' d ≡ (eqb d i || has m d)) → Gathered rows x (i + 1)
  gathered_out {x} {m'} o z h = subst (λ (y : ℕ). Gathered rows y (i + 1)) (sym z)
      (let other : (d : ℕ) → (d ≡ i → ⊥) → has m' d ≡ has m d = λ d z. h d ∙ ap (λ (b : Bool). b || has m d) (ne_eqb d i z) in
      record {
        below = omega arith;
        held =
            below_more (λ d. has m' d ≡ eqb (get_or rows d no_disk).mark 1) i
            (λ d k. other d (λ z. omega arith) ∙ w.held d k)
            (h i ∙ ap (λ (b : Bool). b || has m i) (eq-eqb i i refl) ∙ sym (eq-eqb _ 1 (ap (λ x. x.mark) (sym e) ∙ o)));
        rest = λ d k. other d (λ z. omega arith) ∙ w.rest d (omega arith);
      })

  -- one in use is not
  pub gathered_in : {x : ℕ} → (r.mark ≡ 1 → ⊥) → x ≡ m → Gathered rows x (i + 1)
  gathered_in o z = subst (λ (y : ℕ). Gathered rows y (i + 1)) (sym z) (record {
    below = omega arith;
    held =
        below_more (λ d. has m d ≡ eqb (get_or rows d no_disk).mark 1) i w.held
        (w.rest i (omega arith) ∙ sym (ne_eqb _ 1 (λ z. o (ap (λ x. x.mark) e ∙ z))));
    rest = λ d k. w.rest d (omega arith);
  })

pub gathered_done : {t : Table} {m i : ℕ} → Proper t → disks_most ≤ i → Gathered t.rows m i → (d : ℕ) → has m d ≡ is_out t d
unfolding is_out
gathered_done {t} {m} {i} p l w d =
    below_or d i (w.held d) (λ k. w.rest d k ∙ sym (ap (λ x. eqb x.mark 1) (proper_zero p d (omega (arith, p.few)))))

-- ---- the copies without them

pub kept_start : (out : ℕ) (copies : List ℕ) → Kept 0 out copies copies
kept_start out copies = record { long = refl; used = λ b d l. absurd (omega arith); beyond = λ b l. refl }

pub kept_step : {i out : ℕ} {copies after : List ℕ} (m : ℕ) → i < length copies → Kept i out copies after
    → ((d : ℕ) → has m d ≡ (has (get_or after i 0) d && not (has out d))) → Kept (i + 1) out copies (set after i m)
kept_step {i} {out} {copies} {after} m l w h = record {
  long = length-set after i m ∙ w.long;
  used = λ b d k.
      below_or b i
      (λ j. ap (λ x. has x d) (get_or-set_other after i b m 0 (λ z. omega arith)) ∙ w.used b d j)
      (λ j.
      let z : b ≡ i = omega arith in
      rw (z) (ap (λ x. has x d) (get_or-set_same after i m 0 (omega (arith, w.long))) ∙ h d
      ∙ ap (λ x. has x d && not (has out d)) (w.beyond i (omega arith))));
  beyond = λ b k. get_or-set_other after i b m 0 (λ z. omega arith) ∙ w.beyond b (omega arith);
}

pub kept_done : {i q out : ℕ} {copies after : List ℕ} → i ≤ q → q ≤ i → Kept i out copies after → Kept q out copies after
kept_done {i} {q} {out} {copies} {after} l k w = let e : i ≡ q = omega arith in subst (λ (j : ℕ). Kept j out copies after) e w

-- copies up to Q, and 0 behind them
module _ (q : ℕ) (copies : List ℕ) {out : ℕ} {kept : List ℕ} (count : length (take q copies) ≡ q)
    (beyond : drop q copies ≡ replicate (blocks_most - q) 0)
    (w : Kept (length (take q copies)) out (take q copies) kept) where
  pub kept_count : length kept ≡ q
  kept_count = w.long ∙ count

  pub kept_whole : kept ++ drop q copies ≡ pad_to 0 blocks_most kept
  unfolding pad_to
  kept_whole = ap (λ (xs : List ℕ). kept ++ xs) (beyond ∙ ap (λ (k : ℕ). replicate (blocks_most - k) 0) (sym kept_count))

  kept_copy : (b d : ℕ) → has (get_or kept b 0) d ≡ (has (get_or (take q copies) b 0) d && not (has out d))
  kept_copy b d =
      below_or b q
      (λ l. w.used b d (omega (arith, count)))
      (λ l.
      let z : get_or kept b 0 ≡ 0 = get_or-eq_default kept 0 {n = b} (omega (arith, kept_count)) in
      let y : get_or (take q copies) b 0 ≡ 0 = get_or-eq_default (take q copies) 0 {n = b} (omega (arith, count)) in
      rw (z, y, has_zero d) refl)

  pub kept_case : (costs starts : List ℕ) {f : ℕ → Bool} → ((d : ℕ) → has out d ≡ f d)
      → spelled kept costs starts ≡ in_use f (spelled (take q copies) costs starts)
  unfolding in_use
  kept_case costs starts {f} h =
      let on : ℕ → (ℕ → ℕ → Bool) → Case =
      λ n c. record { disks = length costs; blocks = n; start = λ d. get_or starts d 0; cost = λ d. get_or costs d 0; copy = c } in
      ap₂ on w.long (fun_ext λ b. fun_ext λ d. kept_copy b d ∙ ap (λ (x : Bool). has (get_or (take q copies) b 0) d && not x) (h d))
