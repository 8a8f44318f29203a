-- A call in a stream does not depend on what follows it: more bytes change only an answer of 1.
--     Wants            an answer of 1, whatever the place that it tells: that is where the bytes end
--     Steady           such a reader
--     steady_got       what it gave it gives with more bytes too
--     steady_refused   what it refused with another number than 1 it refuses with more bytes too, at the same place
--     asked_steady     one call is such a reader
use mathlib.Core.Path.{◌≡◌, refl, sym, ap, ◌∙◌, subst}
use mathlib.Core.Bool.{Bool, true, false}
use mathlib.Core.List.{List, [], ◌∷◌, ◌++◌}
use mathlib.Core.Logic.{◌⊎◌, inl, inr}
use Prim.Native.Nat.{ℕ, zero, suc, ◌+◌, ◌≤◌}
use native.Mathlib.Omega.{arith}
use borrow.Author.Tests.{le-leb, leb-true, eqb-true}
use lib.Dec.{eqb, leb, ltb}
use lib.ListN.{length, take, drop, length-append, length-drop}
use lib.Seq.{drop-append-le, take-append-le}
use Rattle.basics.specs.Limits.{request_most}
use Rattle.basics.specs.Choice.{pick}
use Rattle.number.specs.Decode.{Decoded, value, decode, more, under, refused as bad}
use Rattle.basics.proofs.Choice.{pick_true, pick_false, pick_elim}
use Rattle.basics.proofs.Tests.{by_cases}
use Rattle.number.proofs.Decode.{decode_within}
use Rattle.field.specs.Field.{taken, number, between, inside}
use Rattle.field.specs.Sheet.{Note, note, Out, got, refused, Parser, and_then, ◌>>=◌, ◌>>◌, pure, here, require}
use Rattle.stream.specs.Frame.{bytes, sheet}
use Rattle.stream.specs.Call.{room_most, Asked, rents, returns, of_tenancy, of_settings, of_request, of_why, none, behind, asked}

-- ---- one number

-- more bytes change nothing but a 1
Firm : Decoded → Decoded → Type 0
Firm d e = (d ≡ bad 1) ⊎ (e ≡ d)

firm_under : (b : ℕ) (d e : Decoded) → Firm d e → Firm (under b d) (under b e)
unfolding Firm under
firm_under b d e (inl h) = inl (ap (under b) h)
firm_under b d e (inr h) = inr (ap (under b) h)

firm_pick : (b : Bool) (x d e : Decoded) → Firm d e → Firm (pick b x d) (pick b x e)
unfolding Firm pick
firm_pick true x d e h = inr refl
firm_pick false x d e h = h

more_firm : (k : ℕ) (s r : List ℕ) → Firm (more k s) (more k (s ++ r))
unfolding more Firm
more_firm zero [] r = inl refl
more_firm (suc k) [] r = inl refl
more_firm zero (b ∷ s) r = inr refl
more_firm (suc k) (b ∷ s) r = firm_pick (eqb b 0) (bad 2) _ _ (firm_pick (ltb b 128) (value b 1) _ _ (firm_under b _ _ (more_firm k s r)))

decode_firm : (s r : List ℕ) → Firm (decode s) (decode (s ++ r))
unfolding decode Firm
decode_firm [] r = inl refl
decode_firm (b ∷ s) r = firm_pick (ltb b 128) (value b 1) _ _ (firm_under b _ _ (more_firm 3 s r))

-- ---- readers

-- the answer, and that it ends within the bytes
unfoldable pub Ends : {A : Type 0} → ℕ → Out A → Type 0
Ends n (got a e) = e ≤ n
Ends n (refused m) = Unit

-- a refusal of 1, wherever the bytes end
unfoldable pub Wants : {A : Type 0} → Out A → Type 0
Wants (got a e) = ⊥
Wants (refused m) = m.number ≡ 1

unfoldable pub Same : {A : Type 0} → ℕ → Out A → Out A → Type 0
Same n o q = Wants o ⊎ ((q ≡ o) × Ends n o)

pub record Steady {A : Type 0} (p : Parser A) : Type 0 where
  pub more_bytes : (s r : List ℕ) (at : ℕ) → at ≤ length s → Same (length s) (p s at) (p (s ++ r) at)

same_got : {A : Type 0} (n : ℕ) (o q : Out A) (a : A) (e : ℕ) → o ≡ got a e → Same n o q → (q ≡ got a e) × (e ≤ n)
unfolding Same Ends Wants
same_got n o q a e h (inl x) = absurd (subst Wants h x)
same_got n o q a e h (inr x) = (x.0 ∙ h, subst (Ends n) h x.1)

-- what was read is there with more bytes too, and ends within those that were there
pub steady_got : {A : Type 0} {p : Parser A} → Steady p → (s r : List ℕ) {a : A} {e : ℕ} → p s 0 ≡ got a e
    → (p (s ++ r) 0 ≡ got a e) × (e ≤ length s)
steady_got {A} {p} w s r {a} {e} h = same_got (length s) (p s 0) (p (s ++ r) 0) a e h (w.more_bytes s r 0 (omega arith))

same_refused : {A : Type 0} (n : ℕ) (o q : Out A) (m : Note) → o ≡ refused m → (m.number ≡ 1 → ⊥) → Same n o q → q ≡ refused m
unfolding Same Wants
same_refused n o q m h z (inl x) = absurd (z (subst Wants h x))
same_refused n o q m h z (inr x) = x.0 ∙ h

-- any other refusal than 1 stands, with its place, whatever follows
pub steady_refused : {A : Type 0} {p : Parser A} → Steady p → (s r : List ℕ) {m : Note} → p s 0 ≡ refused m → (m.number ≡ 1 → ⊥)
    → p (s ++ r) 0 ≡ refused m
steady_refused {A} {p} w s r {m} h z = same_refused (length s) (p s 0) (p (s ++ r) 0) m h z (w.more_bytes s r 0 (omega arith))

firm_taken : (n k at : ℕ) (d e : Decoded) → ((v m : ℕ) → d ≡ value v m → at + m ≤ n) → Firm d e → Same n (taken n at d) (taken k at e)
unfolding Firm Same Ends Wants taken
firm_taken n k at (value v m) e w (inl h) = absurd (let z : ◌≡◌ {A = ℕ} 0 1 = cc in omega arith)
firm_taken n k at (bad m) e w (inl h) = inl cc
firm_taken n k at (value v m) e w (inr h) = inr (ap (taken k at) h, w v m refl)
firm_taken n k at (bad m) e w (inr h) =
    by_cases (eqb m 1)
    (λ t. inl (eqb-true m 1 t))
    (λ f. inr (ap (taken k at) h ∙ ap (λ (p : ℕ). refused (note m p)) (pick_false k at f ∙ sym (pick_false n at f)), tt))

pub number_steady : Steady number
unfolding number
number_steady = record {
  more_bytes = λ s r at l.
      subst (λ (x : List ℕ). Same (length s) (taken (length s) at (decode (drop at s))) (taken (length (s ++ r)) at (decode x)))
      (sym (drop-append-le at s r l))
      (firm_taken (length s) (length (s ++ r)) at (decode (drop at s)) (decode (drop at s ++ r))
      (λ v k h. omega (arith, decode_within (drop at s) v k h, length-drop at s)) (decode_firm (drop at s) r));
}

-- one reader, then another
module _ {A B : Type 0} where
  then_same : (n : ℕ) (o q : Out A) (f g : A → ℕ → Out B) → Same n o q → ((a : A) (e : ℕ) → e ≤ n → Same n (f a e) (g a e))
      → Same n (and_then o f) (and_then q g)
  unfolding Same Ends Wants and_then
  then_same n (got a e) q f g (inl h) w = absurd h
  then_same n (refused m) q f g (inl h) w = inl h
  then_same n (got a e) q f g (inr h) w = subst (λ (x : Out A). Same n (f a e) (and_then x g)) (sym h.0) (w a e h.1)
  then_same n (refused m) q f g (inr h) w = inr (ap (λ (x : Out A). and_then x g) h.0, tt)

  pub steady_bind : {p : Parser A} {k : A → Parser B} → Steady p → ((a : A) → Steady (k a)) → Steady (p >>= k)
  unfolding ◌>>=◌
  steady_bind {p} {k} a b =
      record {
        more_bytes = λ s r at l. then_same (length s) (p s at) (p (s ++ r) at) _ _ (a.more_bytes s r at l)
            (λ x e j. (b x).more_bytes s r e j);
      }

  steady_then : {p : Parser A} {q : Parser B} → Steady p → Steady q → Steady (p >> q)
  unfolding ◌>>◌
  steady_then {p} {q} a b =
      record {
        more_bytes = λ s r at l. then_same (length s) (p s at) (p (s ++ r) at) _ _ (a.more_bytes s r at l)
            (λ x e j. b.more_bytes s r e j);
      }

pub steady_pure : {A : Type 0} (a : A) → Steady (pure a)
unfolding pure Same Ends
steady_pure a = record { more_bytes = λ s r at l. inr (refl, l) }

steady_here : Steady here
unfolding here Same Ends
steady_here = record { more_bytes = λ s r at l. inr (refl, l) }

steady_none : Steady none
unfolding none Same Ends
steady_none = record { more_bytes = λ s r at l. inr (refl, tt) }

require_same : (n : ℕ) (b : Bool) (m : Note) (at : ℕ) → at ≤ n
    → Same {A = Unit} n (pick b (got tt at) (refused m)) (pick b (got tt at) (refused m))
unfolding Same Ends pick
require_same n true m at l = inr (refl, l)
require_same n false m at l = inr (refl, tt)

steady_require : (b : Bool) (m : Note) → Steady (require b m)
unfolding require
steady_require b m = record { more_bytes = λ s r at l. require_same (length s) b m at l }

steady_inside : (low high e : ℕ) → Steady (inside low high e)
unfolding between
steady_inside low high e =
    steady_bind steady_here
    (λ at. steady_bind number_steady
    (λ v. steady_then (steady_require _ _) (steady_then (steady_require _ _) (steady_pure v))))

-- so many bytes
steady_bytes : (n : ℕ) → Steady (bytes n)
unfolding bytes Same Ends Wants
steady_bytes n = record {
  more_bytes = λ s r at l.
      by_cases (leb (at + n) (length s))
      (λ t.
      let h : at + n ≤ length s = leb-true _ _ t in
      let x : bytes n s at ≡ got (take n (drop at s)) (at + n) = pick_true _ _ t in
      let y : bytes n (s ++ r) at ≡ got (take n (drop at (s ++ r))) (at + n) =
      pick_true _ _ (le-leb (at + n) (length (s ++ r)) (omega (arith, length-append s r))) in
      let z : take n (drop at (s ++ r)) ≡ take n (drop at s) = ap (take n) (drop-append-le at s r l)
      ∙ take-append-le n (drop at s) r (omega (arith, length-drop at s)) in
      inr (y ∙ ap (λ (w : List ℕ). got w (at + n)) z ∙ sym x, subst (Ends (length s)) (sym x) h))
      (λ f. inl (subst Wants (sym (pick_false _ _ f)) refl));
}

pub steady_sheet : Steady sheet
unfolding sheet
steady_sheet = steady_bind (steady_inside 0 request_most 6) steady_bytes

steady_tenancy : (ask : ℕ → Asked) → Steady (of_tenancy ask)
unfolding of_tenancy
steady_tenancy ask = steady_bind number_steady (λ t. steady_pure (ask t))

steady_settings : Steady of_settings
unfolding of_settings
steady_settings = steady_bind steady_sheet (λ s. steady_pure _)

steady_request : Steady of_request
unfolding of_request
steady_request = steady_bind (steady_inside 0 room_most 6) (λ room. steady_bind steady_sheet (λ s. steady_pure _))

steady_why : Steady of_why
unfolding of_why
steady_why = steady_bind number_steady (λ b. steady_bind number_steady (λ d. steady_bind steady_sheet (λ s. steady_pure _)))

steady_behind : (c : ℕ) → Steady (behind c)
unfolding behind
steady_behind c =
    pick_elim Steady (eqb c 1) _ _ (λ _. steady_tenancy rents) λ _.
    pick_elim Steady (eqb c 2) _ _ (λ _. steady_settings) λ _.
    pick_elim Steady (eqb c 3) _ _ (λ _. steady_request) λ _.
    pick_elim Steady (eqb c 4) _ _ (λ _. steady_tenancy returns) λ _.
    pick_elim Steady (eqb c 5) _ _ (λ _. steady_why) λ _. steady_none

pub asked_steady : Steady asked
unfolding asked
asked_steady = steady_bind number_steady steady_behind
