-- Laws of the readers of a field: their answer in each case.
--     refused_as                      what a refusal at a place is told as
--     number_past, number_of          any number
--     tenancy_none, tenancy_due       the tenancy that is due
--     between_got, between_above, between_under, between_stops     a bounded one
--     kind_got, kind_other, kind_stops                             a kind
--     end_here, end_extra             the end
use mathlib.Core.Path.{◌≡◌, sym, ap, ◌∙◌}
use mathlib.Core.Bool.{true, false}
use mathlib.Core.List.{List}
use Prim.Native.Nat.{ℕ, ◌-◌, ◌≤◌, ◌<◌, max}
use native.Mathlib.Omega.{arith}
use borrow.Author.Tests.{eq-eqb, ne_eqb, le-leb, lt-leb}
use lib.ListN.{length, take, drop, length-drop}
use Rattle.basics.specs.Lists.{listed}
use Rattle.basics.specs.Choice.{pick}
use Rattle.basics.proofs.Buffer.{rest}
use Rattle.basics.proofs.Choice.{pick_true, pick_false}
use Rattle.number.specs.Decode.{decode}
use Rattle.number.proofs.Decode.{decode_none}
use Rattle.field.specs.Sheet.{Note, note, Out, got, refused, pure}
use Rattle.field.specs.declared.Fault.{Fault}
use Rattle.field.specs.Refusal.{note_of}
use Rattle.field.specs.Field.{taken, number, between, exactly, tenancy, kind, end}
use Rattle.field.proofs.Sheet.{next, stops, pass, fail, at_here}

-- what a refusal at a place is told as
pub refused_as : {A : Type 0} {f g : Fault} → f ≡ g → ◌≡◌ {A = Out A} (refused (note_of f)) (refused (note_of g))
refused_as e = ap (λ f. refused (note_of f)) e

module _ (s : List ℕ) (at : ℕ) where
  -- from the end on no number is due any more
  pub number_past : length s ≤ at → number s at ≡ refused (note 1 (length s))
  unfolding number taken pick
  number_past h = ap (taken (length s) at) (decode_none (drop at s) (length-drop at s ∙ omega arith))

  -- what was decoded of `&s[at..]`
  pub number_of : number s at ≡ taken (length s) at (decode (take (length s - at) (drop at s)))
  unfolding number
  number_of = ap (λ (x : List ℕ). taken (length s) at (decode x)) (sym (rest s at))

  -- ---- the tenancy that is due

  -- where none is due the range is empty
  pub tenancy_none : (due : ℕ) → due ≡ 0 → between 1 0 5 5 s at ≡ tenancy due s at
  tenancy_none due z =
      ap (λ (low : ℕ). between low 0 5 5 s at) {x = 1} {y = max due 1} (omega arith)
      ∙ ap (λ (high : ℕ). between (max due 1) high 5 5 s at) (sym z)

  -- else it is that number alone
  pub tenancy_due : (due : ℕ) → (due ≡ 0 → ⊥) → exactly due 5 s at ≡ tenancy due s at
  tenancy_due due z = ap (λ (low : ℕ). between low due 5 5 s at) {x = due} {y = max due 1} (omega arith)

  -- ---- where a number stands there

  module _ {v e : ℕ} (h : number s at ≡ got v e) where
    module _ (low high under above : ℕ) where
      pub between_got : low ≤ v → v ≤ high → between low high under above s at ≡ got v e
      unfolding between pure
      between_got l r = at_here _ s at ∙ next number _ s at h ∙ pass _ _ s e (le-leb v high r) ∙ pass _ _ s e (le-leb low v l)

      pub between_above : high < v → between low high under above s at ≡ refused (note above at)
      unfolding between
      between_above r = at_here _ s at ∙ next number _ s at h ∙ fail _ _ s e (lt-leb v high r)

      pub between_under : v ≤ high → v < low → between low high under above s at ≡ refused (note under at)
      unfolding between
      between_under r l =
          at_here _ s at ∙ next number _ s at h ∙ pass _ _ s e (le-leb v high r) ∙ fail _ _ s e (lt-leb low v l)

    pub kind_got : (kinds : List ℕ) → listed kinds v ≡ true → kind kinds s at ≡ got v e
    unfolding kind pure
    kind_got kinds t = at_here _ s at ∙ next number _ s at h ∙ pass _ _ s e t

    pub kind_other : (kinds : List ℕ) → listed kinds v ≡ false → kind kinds s at ≡ refused (note 3 at)
    unfolding kind
    kind_other kinds t = at_here _ s at ∙ next number _ s at h ∙ fail _ _ s e t

  -- ---- where none does

  module _ {n : Note} (h : number s at ≡ refused n) where
    pub between_stops : (low high under above : ℕ) → between low high under above s at ≡ refused n
    unfolding between
    between_stops low high under above = at_here _ s at ∙ stops number _ s at h

    pub kind_stops : (kinds : List ℕ) → kind kinds s at ≡ refused n
    unfolding kind
    kind_stops kinds = at_here _ s at ∙ stops number _ s at h

  -- ---- the end

  pub end_here : at ≡ length s → end s at ≡ got 0 at
  unfolding end
  end_here h = pick_true _ _ (eq-eqb at (length s) h)

  pub end_extra : (at ≡ length s → ⊥) → end s at ≡ refused (note 9 at)
  unfolding end
  end_extra h = pick_false _ _ (ne_eqb at (length s) h)
