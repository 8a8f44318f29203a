-- Laws of the lines: each has room in a line's buffer, and what its parts leave is the line.
use mathlib.Core.Path.{◌≡◌, sym, subst}
use mathlib.Core.Bool.{false}
use mathlib.Core.Logic.{◌⊎◌, inl, inr}
use mathlib.Core.List.{List, [], ◌∷◌, ◌++◌, append_assoc}
use Prim.Native.Nat.{ℕ, ◌≤◌, ◌<◌}
use native.Mathlib.Omega.{arith}
use borrow.Author.Tests.{le-leb, lt-leb}
use lib.Dec.{leb}
use lib.ListN.{length, length-append}
use Rattle.basics.specs.Limits.{blocks_most}
use Rattle.basics.proofs.Choice.{pick_true, pick_false}
use Rattle.basics.proofs.Tests.{and_both, first_false, second_false}
use Rattle.field.specs.Put.{spell_all}
use Rattle.field.proofs.Spell.{spell_bound}
use Rattle.plan.specs.Plan.{Plan}
use Rattle.plan.specs.Draft.{counted}
use Rattle.line.specs.Text.{ascii, spaced, pair, hex}
use Rattle.line.specs.Line.{line_most, sheet_most, feed, word_plan, bar, plan_text, plan_line, sheet_line, spoken}
use Rattle.line.specs.Line.{refused_text, refused_at_text, stopped_text}
use Rattle.line.specs.Line.{word_rented, word_set, word_returned, word_refused, word_stopped, word_reason}
use Rattle.line.specs.Printed.{Printed}
use Rattle.line.specs.Parts.{Writes}
use Rattle.line.specs.declared.Pen.{Pen}
use Rattle.line.specs.declared.Word.{Word}
use Rattle.line.specs.declared.Word.TheVariants.{Rented, Set, Returned, Refused, RefusedAt, Stopped, Reason}
use Rattle.line.proofs.Adding.{writes_same, writes_join, no_line}
use Rattle.line.proofs.Digits.{spaced_most, spaced_bound}

-- a line that is chosen
pub printed_same : {xs ys out after : List ℕ} {n : ℕ} → xs ≡ ys → Printed xs out n after → Printed ys out n after
printed_same {xs} {ys} {out} {after} {n} e p = subst (λ (z : List ℕ). Printed z out n after) e p

-- ---- a word

-- a number, or two, behind a word of up to eight letters
one_bound : (v : ℕ) → length (spaced v ++ feed) ≤ 22
unfolding feed
one_bound v = omega (arith, length-append (spaced v) (10 ∷ []), spaced_bound v)

two_bound : (v w : ℕ) → length (spaced v ++ (spaced w ++ feed)) ≤ 43
two_bound v w = omega (arith, length-append (spaced v) (spaced w ++ feed), spaced_bound v, one_bound w)

pub spoken_bound : (w : Word) → length (spoken w) ≤ 64
unfolding refused_text refused_at_text stopped_text feed word_rented word_set word_returned word_refused word_stopped word_reason
spoken_bound Rented = omega arith
spoken_bound Set = omega arith
spoken_bound Returned = omega arith
spoken_bound (Refused n) = omega (arith, one_bound n)
spoken_bound (RefusedAt n p) = omega (arith, two_bound n p)
spoken_bound (Stopped n) = omega (arith, one_bound n)
spoken_bound (Reason k t) = omega (arith, two_bound k t)

-- ---- a plan

module _ (unit t : ℕ) (p : Plan) where
  -- too many blocks, or too large a short set
  pub uncounted : (out : List ℕ) → (blocks_most < length p.disks) ⊎ ((length p.disks ≤ blocks_most) × (blocks_most < length p.short))
      → Printed (plan_line unit t p) out 0 out
  unfolding plan_line counted
  uncounted out h =
      let e : counted p ≡ false = elim h [
        | inl d ↦ first_false _ (lt-leb _ _ d)
        | inr s ↦ second_false (leb (length p.disks) blocks_most) (lt-leb _ _ s.1)
      ] in
      printed_same (sym (pick_false (plan_text unit t p) [] e)) (no_line out)

  module _ (k : length p.disks ≤ blocks_most) (l : length p.short ≤ blocks_most) where
    pub plan_bound : length (plan_line unit t p) ≤ line_most
    unfolding plan_line counted plan_text word_plan bar feed
    plan_bound =
        let fields : List ℕ = spell_all spaced (unit ∷ t ∷ length p.disks ∷ p.time ∷ []) in
        let ds : List ℕ = spell_all spaced p.disks in
        let bs : List ℕ = spell_all spaced p.short in
        rw (pick_true (plan_text unit t p) [] (and_both _ _ (le-leb _ _ k) (le-leb _ _ l)))
        (omega (
          arith,
          length-append fields (32 ∷ 124 ∷ (ds ++ (32 ∷ 124 ∷ (bs ++ (10 ∷ []))))),
          length-append ds (32 ∷ 124 ∷ (bs ++ (10 ∷ []))),
          length-append bs (10 ∷ []),
          spell_bound spaced spaced_most spaced_bound (unit ∷ t ∷ length p.disks ∷ p.time ∷ []),
          spell_bound spaced spaced_most spaced_bound p.disks,
          spell_bound spaced spaced_most spaced_bound p.short,
        ))

    -- the fields, and then the lists, each behind its bar
    pub plan_written : {first a b c last : Pen}
        → Writes (word_plan ++ spell_all spaced (unit ∷ t ∷ length p.disks ∷ p.time ∷ [])) first a
        → Writes (bar ++ spell_all spaced p.disks) a b → Writes (bar ++ spell_all spaced p.short) b c → Writes feed c last
        → Writes (plan_line unit t p) first last
    unfolding plan_line counted plan_text
    plan_written w x y z =
        let fields : List ℕ = spell_all spaced (unit ∷ t ∷ length p.disks ∷ p.time ∷ []) in
        let ds : List ℕ = bar ++ spell_all spaced p.disks in
        let bs : List ℕ = bar ++ spell_all spaced p.short in
        rw (pick_true (plan_text unit t p) [] (and_both _ _ (le-leb _ _ k) (le-leb _ _ l)))
        (writes_same (simp append_assoc) (writes_join w (writes_join x (writes_join y z))))

-- ---- a sheet

module _ (sheet : List ℕ) where
  pub long_sheet : (out : List ℕ) → sheet_most < length sheet → Printed (sheet_line sheet) out 0 out
  unfolding sheet_line
  long_sheet out h = printed_same (sym (pick_false _ _ (lt-leb _ _ h))) (no_line out)

  pair_bound : (v : ℕ) → length (pair v) ≤ 2
  unfolding pair
  pair_bound v = omega arith

  module _ (h : length sheet ≤ sheet_most) where
    pub sheet_bound : length (sheet_line sheet) ≤ line_most
    unfolding sheet_line feed hex
    sheet_bound =
        rw (pick_true (ascii "plan " ++ (hex sheet ++ feed)) [] (le-leb _ _ h))
        (omega (arith, length-append (spell_all pair sheet) (10 ∷ []), spell_bound pair 2 pair_bound sheet))

    pub sheet_written : {first a b last : Pen} → Writes (ascii "plan ") first a → Writes (hex sheet) a b → Writes feed b last
        → Writes (sheet_line sheet) first last
    unfolding sheet_line
    sheet_written x y z = writes_same (sym (pick_true _ _ (le-leb _ _ h))) (writes_join x (writes_join y z))
