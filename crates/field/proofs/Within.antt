-- Where a reader refuses: at a byte of the sheet or at its end, and not far on, so that a place fits 32 bits however long a lent sheet is.
--     Reach      a place that is so many bytes on at the most, and within the sheet
--     place_of, Places     what reading gives stands there: the place after a value, or the place that a refusal tells
--     Within     a reader that reads so many bytes at the most, and refuses no further on
--     within_bind, within_then, within_known, within_bounded, within_pure, within_more     reader after reader
--     within_number, within_between, within_kind, within_opening, within_due, within_end     the fields
--     within_times, within_ascending, within_whole     lists and a whole sheet
--     place_inside     a sheet that is read from its first byte is refused at one of its bytes, or at its end
use Prim.Native.Nat.{ℕ, zero, suc, ◌+◌, ◌*◌, ◌≤◌}
use mathlib.Core.Bool.{Bool}
use mathlib.Core.Path.{◌≡◌, refl, subst}
use mathlib.Core.List.{List, [], ◌∷◌}
use native.Mathlib.Omega.{arith}
use borrow.Author.Tests.{eqb-true}
use lib.Dec.{eqb}
use lib.ListN.{length, drop, length-drop}
use Rattle.basics.proofs.Choice.{pick_elim}
use Rattle.number.specs.Decode.{Decoded, value, under, more, decode, refused as bad}
use Rattle.field.specs.Sheet.{Note, note, Out, got, refused, Parser, and_then, ◌>>=◌, ◌>>◌, pure, here, require, times}
use Rattle.field.specs.Field.{taken, number, between, ascending, kind, addressed, opening, end, whole}

pub record Reach (len at k p : ℕ) : Type 0 where
  pub near : p ≤ at + k
  pub inside : at ≤ len → p ≤ len

unfoldable pub place_of : {A : Type 0} → Out A → ℕ
place_of (got a e) = e
place_of (refused n) = n.place

pub record Places {A : Type 0} (len at k : ℕ) (o : Out A) : Type 0 where
  pub place : Reach len at k (place_of o)

pub record Within {A : Type 0} (k : ℕ) (p : Parser A) : Type 0 where
  pub places : (s : List ℕ) (at : ℕ) → Places (length s) at k (p s at)

reach_more : {len at j k p : ℕ} → j ≤ k → Reach len at j p → Reach len at k p
reach_more l r = record { near = omega (arith, r.near); inside = r.inside }

reach_join : {len at n j k p : ℕ} → Reach len at j n → Reach len n k p → Reach len at (j + k) p
reach_join r q = record { near = omega (arith, r.near, q.near); inside = λ l. q.inside (r.inside l) }

reach_here : {len at k : ℕ} → Reach len at k at
reach_here = record { near = omega arith; inside = λ l. l }

module _ {A : Type 0} {len at j k : ℕ} {o : Out A} where
  places_more : j ≤ k → Places len at j o → Places len at k o
  places_more l h = record { place = reach_more l h.place }

  places_from : {n : ℕ} → Reach len at j n → Places len n k o → Places len at (j + k) o
  places_from r h = record { place = reach_join r h.place }

-- what follows is judged from where the first reader began
after : {A B : Type 0} {len at j k : ℕ} (o : Out A) (g : A → ℕ → Out B) → j ≤ k → Places len at j o
    → ((a : A) (n : ℕ) → o ≡ got a n → Reach len at j n → Places len at k (g a n)) → Places len at k (and_then o g)
unfolding and_then place_of
after (got a n) g l h f = f a n refl h.place
after (refused e) g l h f = record { place = reach_more l h.place }

-- ---- reader after reader

module _ {A B : Type 0} {j k : ℕ} where
  pub within_bind : {p : Parser A} {g : A → Parser B} → Within j p → ((a : A) → Within k (g a)) → Within (j + k) (p >>= g)
  unfolding ◌>>=◌
  within_bind {p} {g} w v = record {
    places = λ s at.
        after (p s at) (λ a n. g a s n) (omega arith) (w.places s at) (λ a n _ r. places_from r ((v a).places s n));
  }

  pub within_then : {p : Parser A} {q : Parser B} → Within j p → Within k q → Within (j + k) (p >> q)
  unfolding ◌>>◌
  within_then {p} {q} w v = record {
    places = λ s at.
        after (p s at) (λ a n. q s n) (omega arith) (w.places s at) (λ a n _ r. places_from r (v.places s n));
  }

-- what follows is told a value of which something is known
pub within_known : {A B : Type 0} {j k : ℕ} (P : A → Type 0) {p : Parser A} {g : A → Parser B} → Within j p
    → ((s : List ℕ) (at : ℕ) (v : A) (e : ℕ) → p s at ≡ got v e → P v) → ((v : A) → P v → Within k (g v)) → Within (j + k) (p >>= g)
unfolding ◌>>=◌
within_known P {p} {g} w b v = record {
  places = λ s at.
      after (p s at) (λ a n. g a s n) (omega arith) (w.places s at) (λ a n q r. places_from r ((v a (b s at a n q)).places s n));
}

-- a number that has a bound
pub within_bounded : {B : Type 0} {j k : ℕ} (most : ℕ) {p : Parser ℕ} {g : ℕ → Parser B} → Within j p
    → ((s : List ℕ) (at v e : ℕ) → p s at ≡ got v e → v ≤ most) → ((v : ℕ) → v ≤ most → Within k (g v)) → Within (j + k) (p >>= g)
within_bounded most w b v = within_known (λ x. x ≤ most) w b v

pub within_pure : {A : Type 0} (a : A) → Within 0 (pure a)
unfolding pure place_of
within_pure a = record { places = λ s at. record { place = reach_here } }

pub within_more : {A : Type 0} {j k : ℕ} {p : Parser A} → j ≤ k → Within j p → Within k p
within_more {p = p} l w = record { places = λ s at. places_more l (w.places s at) }

-- a test that refuses where reading began, or before that
require_back : {len at k p : ℕ} (b : Bool) (m : ℕ) (s : List ℕ) (n : ℕ) → p ≤ at → Reach len at k n
    → Places len at k (require b (note m p) s n)
unfolding require place_of
require_back {len} {at} {k} b m s n l r =
    pick_elim (Places len at k) b _ _ (λ _. record { place = r })
    (λ _. record { place = record { near = omega arith; inside = λ i. omega arith } })

require_places : {len at k : ℕ} (b : Bool) (m : ℕ) (s : List ℕ) (n : ℕ) → Reach len at k n → Places len at k (require b (note m at) s n)
require_places b m s n r = require_back b m s n (omega arith) r

-- ---- a number

-- of so many bytes: a value takes no more of them than there are, and five at the most; where they end too soon there are four
unfoldable Spans : ℕ → ℕ → Decoded → Type 0
Spans k len (value v n) = (n ≤ len) × (n ≤ suc k)
Spans k len (bad e) = e ≡ 1 → len ≤ k

spans_under : (b k len : ℕ) (d : Decoded) → Spans k len d → Spans (suc k) (suc len) (under b d)
unfolding under Spans
spans_under b k len (value v n) h = (omega (arith, h.0), omega (arith, h.1))
spans_under b k len (bad e) h = λ q. omega (arith, h q)

spans_more : (k : ℕ) (s : List ℕ) → Spans k (length s) (more k s)
unfolding more Spans
spans_more zero [] = λ _. omega arith
spans_more zero (b ∷ s) =
    pick_elim (Spans 0 (length (b ∷ s))) _ _ _ (λ _ q. absurd (omega (arith, q)))
    (λ _. pick_elim (Spans 0 (length (b ∷ s))) _ _ _ (λ _. (omega arith, omega arith)) (λ _ q. absurd (omega (arith, q))))
spans_more (suc k) [] = λ _. omega arith
spans_more (suc k) (b ∷ s) =
    pick_elim (Spans (suc k) (length (b ∷ s))) _ _ _ (λ _ q. absurd (omega (arith, q)))
    (λ _. pick_elim (Spans (suc k) (length (b ∷ s))) _ _ _ (λ _. (omega arith, omega arith))
    (λ _. spans_under b k (length s) (more k s) (spans_more k s)))

spans_decode : (s : List ℕ) → Spans 4 (length s) (decode s)
unfolding decode Spans
spans_decode [] = λ _. omega arith
spans_decode (b ∷ s) =
    pick_elim (Spans 4 (length (b ∷ s))) _ _ _ (λ _. (omega arith, omega arith))
    (λ _. spans_under b 3 (length s) (more 3 s) (spans_more 3 s))

taken_places : (s : List ℕ) (at : ℕ) (d : Decoded) → Spans 4 (length (drop at s)) d → Places (length s) at 5 (taken (length s) at d)
unfolding taken place_of Spans
taken_places s at (value v n) h =
    record { place = record { near = omega (arith, h.1); inside = λ l. omega (arith, h.0, length-drop at s) } }
taken_places s at (bad e) h = record {
  place =
      pick_elim (Reach (length s) at 5) (eqb e 1) (length s) at
      (λ t. record { near = omega (arith, h (eqb-true e 1 t), length-drop at s); inside = λ _. omega arith })
      (λ _. reach_here);
}

pub within_number : Within 5 number
unfolding number
within_number = record { places = λ s at. taken_places s at (decode (drop at s)) (spans_decode (drop at s)) }

-- ---- the fields

pub within_between : (low high below above : ℕ) → Within 5 (between low high below above)
unfolding between ◌>>=◌ ◌>>◌ here pure place_of
within_between low high below above = record {
  places = λ s at.
      after (number s at) _ (omega arith) (within_number.places s at) (λ v n _ r.
      after (require _ (note above at) s n) _ (omega arith) (require_places _ above s n r) (λ _ m _ q.
      after (require _ (note below at) s m) _ (omega arith) (require_places _ below s m q) (λ _ e _ z. record { place = z })));
}

pub within_kind : (kinds : List ℕ) → Within 5 (kind kinds)
unfolding kind ◌>>=◌ ◌>>◌ here pure place_of
within_kind kinds = record {
  places = λ s at.
      after (number s at) _ (omega arith) (within_number.places s at) (λ v n _ r.
      after (require _ (note 3 at) s n) _ (omega arith) (require_places _ 3 s n r) (λ _ e _ z. record { place = z }));
}

pub within_opening : (kinds : List ℕ) (unit due : ℕ) → Within 15 (opening kinds unit due)
unfolding opening addressed
within_opening kinds unit due =
    within_bind {j = 5} (within_kind kinds)
    (λ k. within_then {j = 10} (within_then (within_between unit unit 4 4) (within_between _ due 5 5)) (within_pure k))

-- a test at the present place, that refuses there or before it
pub within_due : (b : Bool) (m : ℕ) (f : ℕ → ℕ) → ((at : ℕ) → f at ≤ at) → Within 0 (here >>= λ at. require b (note m (f at)))
unfolding ◌>>=◌ here
within_due b m f l = record { places = λ s at. require_back b m s at (l at) reach_here }

within_end : Within 0 end
unfolding end place_of
within_end = record {
  places = λ s at.
      pick_elim (Places (length s) at 0) _ _ _ (λ _. record { place = reach_here }) (λ _. record { place = reach_here });
}

-- ---- lists

pub within_times : {A : Type 0} {k : ℕ} (n : ℕ) {p : Parser A} → Within k p → Within (n * k) (times n p)
unfolding times
within_times zero w = within_more (omega arith) (within_pure [])
within_times {k = k} (suc n) w =
    within_more {j = k + (n * k + 0)} (omega arith) (within_bind w (λ a. within_bind (within_times n w) (λ as'. within_pure (a ∷ as'))))

pub within_ascending : (n floor high : ℕ) → Within (n * 5) (ascending n floor high)
unfolding ascending
within_ascending zero floor high = within_more (omega arith) (within_pure [])
within_ascending (suc n) floor high =
    within_more {j = 5 + (n * 5 + 0)} (omega arith) (within_bind (within_between floor high 8 16)
    (λ v. within_bind (within_ascending n (v + 1) high) (λ vs. within_pure (v ∷ vs))))

-- ---- a whole sheet

pub within_whole : {A : Type 0} {k : ℕ} {p : Parser A} → Within k p → Within k (whole p)
unfolding whole
within_whole {k = k} w = within_more {j = k + (0 + 0)} (omega arith) (within_bind w (λ a. within_then within_end (within_pure a)))

told_place : {A : Type 0} {len at k : ℕ} (o : Out A) {n : Note} → Places len at k o → o ≡ refused n → Reach len at k n.place
unfolding place_of
told_place (got a e) h q = absurd (let z : ◌≡◌ {A = ℕ} 0 1 = cc in omega arith)
told_place {len = len} {at = at} {k = k} (refused m) {n} h q =
    let e : m ≡ n = cc in subst (λ (x : Note). Reach len at k x.place) e h.place

module _ {A : Type 0} {k : ℕ} {p : Parser A} (w : Within k p) {s : List ℕ} {n : Note} where
  pub place_inside : p s 0 ≡ refused n → n.place ≤ length s
  place_inside q = (told_place (p s 0) (w.places s 0) q).inside (omega arith)

  pub place_near : p s 0 ≡ refused n → n.place ≤ k
  place_near q = omega (arith, (told_place (p s 0) (w.places s 0) q).near)
