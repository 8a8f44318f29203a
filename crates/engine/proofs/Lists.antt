-- Lists that are written entry by entry.
--     Copied         the entries below b are those of another list, the rest is as it was
--     Listing        the blocks below b that pass the test are listed, rising
--     listing_front, listing_same     the same by the buffer's start, as a list
use Prim.Native.Nat.{ℕ, ◌+◌, ◌-◌, ◌≤◌, ◌<◌}
use mathlib.Core.Path.{◌≡◌, refl, sym, ap, ◌∙◌}
use mathlib.Core.Bool.{Bool, true, false, ◌||◌}
use mathlib.Core.List.{List, ◌++◌}
use native.Mathlib.Omega.{arith}
use native.Mathlib.Numerals.{add-one}
use lib.Dec.{eqb, ltb}
use lib.ListN.{get_or, set, take, drop, length, length-set, length-append, length-drop, get_or-eq_default}
use Rattle.std.proofs.lemmas.List.{get_or_append_left, get_or-append_right, get_or-drop}
use lib.Seq.{get_or-set_same, get_or-set_other, get_or-take, length-take-le}
use borrow.Author.Count.{below_more}
use borrow.Author.Tests.{ltb-true, ltb-false, eqb-true, eqb-false, eq-eqb, ne_eqb}
use Rattle.basics.specs.Limits.{blocks_most}
use Rattle.basics.specs.Count.{any}
use Rattle.basics.specs.Lists.{listed}
use Rattle.basics.proofs.Lists.{rises_by, listed_take}
use Rattle.basics.proofs.Tests.{by_cases, differ, or_right, not_here}
use Rattle.basics.proofs.Count.{any_ext, any_some}
use Rattle.engine.specs.Planned.{Front}
use Rattle.engine.specs.Spelled.{Loaded}
use Rattle.engine.specs.Parts.{Stored}

pub record Copied (b : ℕ) (from to₀ to : List ℕ) : Type 0 where
  pub long : length to ≡ length to₀
  pub same : (i : ℕ) → i < b → get_or to i 0 ≡ get_or from i 0
  pub rest : (i : ℕ) → b ≤ i → get_or to i 0 ≡ get_or to₀ i 0

-- copied at the start
pub copied_front : (from to₀ : List ℕ) {q : ℕ} → length from ≡ q → q ≤ length to₀ → Copied q from to₀ (from ++ drop q to₀)
copied_front from to₀ {q} e h =
    record {
      long = simp (length-append, length-drop) (omega arith);
      same = λ i l. get_or_append_left from (drop q to₀) 0 i (omega arith);
      rest = λ i l.
          get_or-append_right from (drop q to₀) q i 0 e l ∙ get_or-drop q to₀ (i - q) 0
          ∙ ap (λ (k : ℕ). get_or to₀ k 0) {x = q + (i - q)} {y = i} (omega arith);
    }

module _ {b : ℕ} {from to₀ to : List ℕ} (s : Copied b from to₀ to) where
  pub copied_loaded : length from ≤ b → length to₀ ≡ blocks_most → ((i : ℕ) → get_or to₀ i 0 ≡ 0) → Loaded from to
  copied_loaded h l z =
      record {
        long = s.long ∙ l;
        same = λ i. by_cases (ltb i b)
            (λ t. s.same i (ltb-true i b t))
            (λ t. let m = ltb-false i b t in s.rest i m ∙ z i ∙ sym (get_or-eq_default from 0 (omega arith)));
      }

-- the first of a longer list
pub copied_stored : {q : ℕ} (seats : List ℕ) {disks disks' : List ℕ} → Copied q (take q seats) disks disks' → Stored q seats disks disks'
copied_stored {q} seats s = record { same = λ i l. s.same i l ∙ get_or-take q seats i 0 l; rest = s.rest; long = s.long }

-- ---- the listed blocks

any_next : (m : ℕ) (p : ℕ → Bool) → any (m + 1) p ≡ (any m p || p m)
unfolding any
any_next m p = ap (λ (y : ℕ). any y p) (add-one m)

any_false : (m : ℕ) (p : ℕ → Bool) → ((i : ℕ) → i < m → p i ≡ false) → any m p ≡ false
any_false m p f = not_here (any m p) (λ t. let s = any_some m p t in differ s.2 (f s.0 s.1))

or_false : (a b : Bool) → b ≡ false → (a || b) ≡ a
or_false true b e = refl
or_false false b e = e

-- of the blocks below b those of S, by their places
pub record Listing (b : ℕ) (S : ℕ → Bool) (short₀ short : List ℕ) (m : ℕ) : Type 0 where
  pub few : m ≤ b
  pub below : (i : ℕ) → i < m → get_or short i 0 < b
  pub rising : (i j : ℕ) → i < j → j < m → get_or short i 0 < get_or short j 0
  pub rest : (i : ℕ) → m ≤ i → get_or short i 0 ≡ get_or short₀ i 0
  pub long : length short ≡ length short₀
  pub same : (c : ℕ) → c < b → any m (λ i. eqb (get_or short i 0) c) ≡ S c

pub listing_start : (S : ℕ → Bool) (short₀ : List ℕ) → Listing 0 S short₀ short₀ 0
listing_start S short₀ =
    record {
      few = omega arith;
      below = λ i l. omega (arith, l);
      rising = λ i j l k. absurd (omega (arith, l, k));
      rest = λ i l. refl;
      long = refl;
      same = λ c l. absurd (omega (arith, l));
    }

module _ {b : ℕ} {S : ℕ → Bool} {short₀ short : List ℕ} {m : ℕ} (s : Listing b S short₀ short m) where
  pub listing_skip : S b ≡ false → Listing (b + 1) S short₀ short m
  listing_skip e =
      record {
        few = omega (arith, s.few);
        below = λ i l. omega (arith, s.below i l);
        rising = s.rising;
        rest = s.rest;
        long = s.long;
        same = below_more (λ c. any m (λ i. eqb (get_or short i 0) c) ≡ S c) b s.same
            (any_false m (λ i. eqb (get_or short i 0) b)
            (λ i l. ne_eqb (get_or short i 0) b (λ z. omega (arith, z, s.below i l))) ∙ sym e);
      }

  pub listing_put : S b ≡ true → m < length short → Listing (b + 1) S short₀ (set short m b) (m + 1)
  listing_put e h =
      let here : get_or (set short m b) m 0 ≡ b = get_or-set_same short m b 0 h in
      let else : (i : ℕ) → (i ≡ m → ⊥) → get_or (set short m b) i 0 ≡ get_or short i 0 = λ i n. get_or-set_other short m i b 0 n in
      let old : (c : ℕ) → any m (λ i. eqb (get_or (set short m b) i 0) c) ≡ any m (λ i. eqb (get_or short i 0) c) =
      λ c. any_ext m (λ i. eqb (get_or (set short m b) i 0) c) (λ i. eqb (get_or short i 0) c)
      (λ i l. ap (λ (y : ℕ). eqb y c) (else i (omega arith))) in
      record {
        few = omega (arith, s.few);
        below = λ i l. by_cases (eqb i m)
            (λ t. let z = ap (λ (y : ℕ). get_or (set short m b) y 0) (eqb-true i m t) in omega (arith, z, here))
            (λ t. let n = eqb-false i m t in omega (arith, else i n, s.below i (omega arith)));
        rising = λ i j l k. by_cases (eqb j m)
            (λ t. let z = ap (λ (y : ℕ). get_or (set short m b) y 0) (eqb-true j m t) in
            let r = eqb-true j m t in omega (arith, z, here, else i (omega arith), s.below i (omega arith)))
            (λ t. let n = eqb-false j m t in
            omega (arith, else i (omega arith), else j n, s.rising i j l (omega arith)));
        rest = λ i l. else i (omega arith) ∙ s.rest i (omega arith);
        long = length-set short m b ∙ s.long;
        same = below_more (λ c. any (m + 1) (λ i. eqb (get_or (set short m b) i 0) c) ≡ S c) b
            (λ c l. any_next m (λ i. eqb (get_or (set short m b) i 0) c)
            ∙ or_false (any m (λ i. eqb (get_or (set short m b) i 0) c)) (eqb (get_or (set short m b) m 0) c)
            (ne_eqb (get_or (set short m b) m 0) c (λ z. omega (arith, z, here, l)))
            ∙ old c ∙ s.same c l)
            (any_next m (λ i. eqb (get_or (set short m b) i 0) b)
            ∙ or_right (any m (λ i. eqb (get_or (set short m b) i 0) b)) (eqb (get_or (set short m b) m 0) b)
            (eq-eqb (get_or (set short m b) m 0) b here)
            ∙ sym e);
      }

  -- the same by the buffer's start, as a list
  module _ (h : b ≤ length short₀) where
    fits : m ≤ length short
    fits = omega (arith, s.few, s.long)

    at : (i : ℕ) → i < m → get_or (take m short) i 0 ≡ get_or short i 0
    at i l = get_or-take m short i 0 l

    pub listing_front : Front b m short₀ short
    listing_front =
        record {
          few = s.few;
          fits = fits;
          rises = rises_by 0 (b - 1) (take m short)
              (λ i l. let k : i < m = omega (arith, length-take-le m short fits) in
              (omega arith, omega (arith, at i k, s.below i k)))
              (λ i j l k. let n : j < m = omega (arith, length-take-le m short fits) in
              omega (arith, at i (omega arith), at j n, s.rising i j l n));
          short_rest = s.rest;
          short_long = s.long;
        }

    pub listing_same : (c : ℕ) → c < b → listed (take m short) c ≡ S c
    listing_same c l = sym (listed_take short m c fits) ∙ s.same c l
