-- Numbers of one byte, read in place.
--     number_ends     no number where the sheet has ended
--     number_byte     a byte below 128 is a number
--     number_above    a number is above what its first byte is above
--     number_one      a number below 128 is one byte
--     ascending_last  the last of some numbers below 128 is the byte before the place after them
use Prim.Native.Nat.{ℕ, zero, suc, ◌+◌, ◌-◌, ◌≤◌, ◌<◌}
use mathlib.Core.Path.{◌≡◌, sym, ap, ◌∙◌}
use mathlib.Core.List.{List, [], ◌∷◌}
use native.Mathlib.Omega.{arith}
use borrow.Author.Tests.{lt-ltb, eqb-false}
use lib.ListN.{length, drop, get_or, length-drop}
use lib.Seq.{drop-cons}
use Rattle.basics.specs.Choice.{pick}
use Rattle.basics.proofs.Choice.{pick_true, pick_elim}
use Rattle.basics.proofs.Tests.{below_or}
use Rattle.number.specs.Decode.{Decoded, value, under, more, decode, refused as bad}
use Rattle.number.proofs.Decode.{decode_none}
use Rattle.field.specs.Sheet.{note, got, refused, ◌>>=◌, pure}
use Rattle.field.specs.Field.{taken, number, rising, ascending}
use Rattle.field.proofs.Sheet.{bind_got, pure_got}
use Rattle.field.proofs.Values.{between_within}

-- a value that is above a number
unfoldable Above : ℕ → Decoded → Type 0
Above high (value v n) = high < v
Above high (bad e) = Unit

above_under : (high b : ℕ) (d : Decoded) → high < 128 → Above 0 d → Above high (under b d)
unfolding Above under
above_under high b (value v n) l h = omega (arith, h)
above_under high b (bad e) l h = tt

-- the groups behind the first are not 0
above_more : (k : ℕ) (s : List ℕ) → Above 0 (more k s)
unfolding Above more
above_more zero [] = tt
above_more (suc k) [] = tt
above_more zero (b ∷ s) =
    pick_elim (Above 0) _ _ _ (λ _. tt) λ z. pick_elim (Above 0) _ _ _ (λ _. omega (arith, eqb-false b 0 z)) λ _. tt
above_more (suc k) (b ∷ s) =
    pick_elim (Above 0) _ _ _ (λ _. tt)
    λ z. pick_elim (Above 0) _ _ _ (λ _. omega (arith, eqb-false b 0 z)) λ _. above_under 0 b (more k s) (omega arith) (above_more k s)

above_decode : (high b : ℕ) (s : List ℕ) → high < 128 → high < b → Above high (decode (b ∷ s))
unfolding Above decode
above_decode high b s l h = pick_elim (Above high) _ _ _ (λ _. h) (λ _. above_under high b (more 3 s) l (above_more 3 s))

above_taken : {high v e : ℕ} (len at : ℕ) (d : Decoded) → Above high d → taken len at d ≡ got v e → high < v
unfolding Above taken
above_taken {high} {v} {e} len at (value w n) h q = let z : w ≡ v = cc in omega (arith, h, z)
above_taken len at (bad m) h q = absurd (let z : ◌≡◌ {A = ℕ} 0 1 = cc in omega arith)

module _ (s : List ℕ) (at : ℕ) where
  pub number_ends : length s ≤ at → number s at ≡ refused (note 1 (length s))
  unfolding number taken pick
  number_ends h = ap (taken (length s) at) (decode_none (drop at s) (length-drop at s ∙ omega arith))

  module _ (h : at < length s) where
    first : number s at ≡ taken (length s) at (decode (get_or s at 0 ∷ drop (suc at) s))
    unfolding number
    first = ap (λ (x : List ℕ). taken (length s) at (decode x)) (drop-cons s at 0 h)

    pub number_byte : get_or s at 0 < 128 → number s at ≡ got (get_or s at 0) (at + 1)
    unfolding decode taken
    number_byte l = first ∙ ap (taken (length s) at) (pick_true _ _ (lt-ltb _ 128 l))

    pub number_above : {high v e : ℕ} → high < 128 → high < get_or s at 0 → number s at ≡ got v e → high < v
    number_above l b q = above_taken (length s) at (decode (get_or s at 0 ∷ drop (suc at) s)) (above_decode _ _ _ l b) (sym first ∙ q)

  pub number_one : {v e : ℕ} → number s at ≡ got v e → v < 128 → e ≡ at + 1
  number_one {v} {e} q l =
      below_or at (length s)
      (λ h. below_or (get_or s at 0) 128
      (λ b. let g : got (get_or s at 0) (at + 1) ≡ got v e = sym (number_byte h b) ∙ q in cc)
      (λ b. let over : 127 < v = number_above h (omega arith) (omega arith) q in absurd (omega arith)))
      (λ h. let g : refused (note 1 (length s)) ≡ got v e = sym (number_ends h) ∙ q in cc)

-- the first of some numbers, and the rest
record Climbs (high : ℕ) (s : List ℕ) (n floor at : ℕ) (vs : List ℕ) (e : ℕ) : Type 0 where
  value : ℕ
  rest : List ℕ
  first : number s at ≡ got value (at + 1)
  last : ascending n (value + 1) high s (at + 1) ≡ got rest e
  all : vs ≡ value ∷ rest

module _ (high : ℕ) (few : high < 128) (s : List ℕ) where
  climbs : (n floor at : ℕ) (vs : List ℕ) (e : ℕ) → ascending (suc n) floor high s at ≡ got vs e → Climbs high s n floor at vs e
  unfolding ascending
  climbs n floor at vs e h =
      let w = bind_got (rising floor high) s at vs e (λ v. ascending n (v + 1) high >>= λ rest. pure (v ∷ rest)) h in
      let u = bind_got (ascending n (w.found + 1) high) s w.mid vs e (λ rest. pure (w.found ∷ rest)) w.last in
      let q = pure_got (w.found ∷ u.found) vs s u.mid e u.last in
      let f = between_within floor high 8 16 s at w.first in
      let one : w.mid ≡ at + 1 = number_one s at f.0 (omega (arith, f.2)) in
      record {
        value = w.found;
        rest = u.found;
        first = f.0 ∙ ap (got w.found) one;
        last = ap (ascending n (w.found + 1) high s) (sym one) ∙ u.first ∙ ap (got u.found) q.1;
        all = sym q.0;
      }

  pub ascending_last : (n floor at : ℕ) (vs : List ℕ) (e : ℕ) → ascending (suc n) floor high s at ≡ got vs e
      → (0 < e) × (number s (e - 1) ≡ got (get_or vs n 0) e)
  unfolding ascending
  ascending_last zero floor at vs e h =
      let w = climbs 0 floor at vs e h in
      let p = pure_got [] w.rest s (at + 1) e w.last in
      let back : e - 1 ≡ at = omega (arith, p.1) in
      (omega (arith, p.1), rw (w.all, back) (w.first ∙ ap (got w.value) p.1))
  ascending_last (suc n) floor at vs e h =
      let w = climbs (suc n) floor at vs e h in rw w.all (ascending_last n (w.value + 1) (at + 1) w.rest e w.last)
