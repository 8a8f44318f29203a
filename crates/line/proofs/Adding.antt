-- Laws of bytes behind bytes: none yet, one more, one text behind another, entry by entry, and a whole line.
use mathlib.Core.Path.{◌≡◌, refl, sym, ap, ◌∙◌, subst}
use mathlib.Core.List.{List, [], ◌∷◌, ◌++◌, append_assoc, append-nil}
use Prim.Native.Nat.{ℕ, ◌+◌, ◌*◌, ◌/◌, ◌%◌, ◌≤◌, ◌<◌}
use Rattle.basics.specs.Buffer.{over}
use native.Mathlib.Omega.{arith}
use lib.ListN.{length, take, get_or, set, length-append}
use Rattle.std.proofs.lemmas.List.{get_or_default}
use Rattle.basics.proofs.Buffer.{over_none, over_length, over_within, over_more}
use Rattle.field.specs.Put.{spell_all}
use Rattle.field.proofs.Spell.{spell_more}
use Rattle.line.specs.Printed.{Printed}
use Rattle.line.specs.Parts.{Writes}
use Rattle.line.specs.declared.Pen.{Pen}
use Rattle.line.specs.Text.{digit, pair, hex}

-- a buffer keeps its length
printed_length : {line out after : List ℕ} {n : ℕ} → Printed line out n after → length line ≤ length out → length after ≡ length out
printed_length {line} {out} p h = ap length p.held ∙ over_length line out h

-- ---- a pen: no byte, one byte, one text behind another

pub writes_none : (pen : Pen) → Writes [] pen pen
writes_none pen = record { same = refl; add = λ out line w h. rw append-nil w }

module _ (b : ℕ) {pen pen' : Pen} (same : pen'.out.ghost_name ≡ pen.out.ghost_name) where
  -- what has no room is not added
  pub writes_full : length pen.out.now ≤ pen.at → pen'.out.now ≡ pen.out.now → pen'.at ≡ pen.at → Writes (b ∷ []) pen pen'
  writes_full l e k = record {
    same = same;
    add = λ out line w h.
        absurd (omega (
          arith,
          w.count,
          length-append line (b ∷ []),
          printed_length w (omega (arith, length-append line (b ∷ []))),
        ));
  }

  pub writes_byte : pen.at < length pen.out.now → pen'.out.now ≡ set pen.out.now pen.at b → pen'.at ≡ pen.at + 1
      → Writes (b ∷ []) pen pen'
  writes_byte l e k = record {
    same = same;
    add = λ out line w h.
        record {
          count = omega (arith, k, w.count, length-append line (b ∷ []));
          held = e ∙ ap (λ (x : List ℕ). set x pen.at b) w.held
              ∙ over_more line out pen.at b (sym w.count) (omega (arith, w.count, length-append line (b ∷ [])));
        };
  }

  -- two bytes
  pub writes_two : {c : ℕ} → pen.at + 1 < length pen.out.now → pen'.out.now ≡ set (set pen.out.now pen.at b) (pen.at + 1) c
      → pen'.at ≡ pen.at + 2 → Writes (b ∷ c ∷ []) pen pen'
  writes_two {c} l e k = record {
    same = same;
    add = λ out line w h.
        let one = length-append line (b ∷ []) in
        let two = length-append line (b ∷ c ∷ []) in
        let first = over_more line out pen.at b (sym w.count) (omega (arith, w.count, two)) in
        let second = over_more (line ++ (b ∷ [])) out (pen.at + 1) c (omega (arith, w.count, one)) (omega (arith, w.count, two)) in
        record {
          count = omega (arith, k, w.count, two);
          held = e ∙ ap (λ (x : List ℕ). set (set x pen.at b) (pen.at + 1) c) w.held
              ∙ ap (λ (x : List ℕ). set x (pen.at + 1) c) first ∙ second
              ∙ ap (λ (x : List ℕ). over x out) (append_assoc line (b ∷ []) (c ∷ []));
        };
  }

  -- a text that has no room
  pub writes_short : (xs : List ℕ) → length pen.out.now < pen.at + length xs → pen'.out.now ≡ pen.out.now → Writes xs pen pen'
  writes_short xs l e = record {
    same = same;
    add = λ out line w h.
        absurd (omega (arith, w.count, length-append line xs, printed_length w (omega (arith, length-append line xs))));
  }

pub writes_join : {xs ys : List ℕ} {first mid last : Pen} → Writes xs first mid → Writes ys mid last → Writes (xs ++ ys) first last
writes_join {xs} {ys} {first} {mid} {last} a b = record {
  same = b.same ∙ a.same;
  add = λ out line w h.
      let e : (line ++ xs) ++ ys ≡ line ++ (xs ++ ys) = append_assoc line xs ys in
      let m : length ((line ++ xs) ++ ys) ≡ length (line ++ (xs ++ ys)) = ap length e in
      let g : Printed (line ++ xs) out mid.at mid.out.now = a.add out line w (omega (arith, length-append (line ++ xs) ys)) in
      subst (λ (z : List ℕ). Printed z out last.at last.out.now) e (b.add out (line ++ xs) g (omega arith));
}

-- a text that is the same
pub writes_same : {xs ys : List ℕ} {first last : Pen} → xs ≡ ys → Writes xs first last → Writes ys first last
writes_same {first = first} {last = last} e a = subst (λ (z : List ℕ). Writes z first last) e a

-- ---- a list, entry by entry

module _ {A : Type 0} (spell : A → List ℕ) where
  pub writes_start : (pen : Pen) → Writes (spell_all spell []) pen pen
  unfolding spell_all
  writes_start pen = writes_none pen

  -- the entry at i is put behind those before it
  pub writes_entry : {first mid last : Pen} {i : ℕ} (xs : List A) (x : A) → i < length xs → x ≡ get_or xs i x
      → Writes (spell_all spell (take i xs)) first mid → Writes (spell x) mid last → Writes (spell_all spell (take (i + 1) xs)) first last
  writes_entry {first} {mid} {last} {i} xs x h e a b =
      writes_same (spell_more spell xs i x h) (writes_join a (subst (λ (y : A). Writes (spell y) mid last) e b))

-- ---- bytes in hex

pub hex_length : (xs : List ℕ) → length (hex xs) ≡ 2 * length xs
unfolding hex spell_all pair
hex_length [] = refl
hex_length (x ∷ xs) = omega (arith, hex_length xs)

-- two digits are put behind those of the bytes before
pub writes_pair : {first mid last : Pen} {i hi lo : ℕ} (xs : List ℕ) → i < length xs → hi ≡ digit (get_or xs i 0 / 16)
    → lo ≡ digit (get_or xs i 0 % 16) → Writes (hex (take i xs)) first mid → Writes (hi ∷ lo ∷ []) mid last
    → Writes (hex (take (i + 1) xs)) first last
unfolding pair hex
writes_pair {i = i} xs l h k a b =
    writes_entry pair xs (get_or xs i 0) l (get_or_default xs i 0 (get_or xs i 0) l) a (rw (sym h, sym k) b)

-- ---- a whole line

-- no line
pub no_line : (out : List ℕ) → Printed [] out 0 out
no_line out = record { count = refl; held = over_none out }

-- what a pen has put from a buffer's start on; the buffer is then what the pen left
pub writes_line : {line after : List ℕ} {pen last : Pen} → Writes line pen last → pen.at ≡ 0 → length line ≤ length pen.out.now
    → (pen.out.ghost_name ≡ last.out.ghost_name → after ≡ last.out.now) → Printed line pen.out.now last.at after
writes_line {line} {after} {pen} {last} a z h e =
    let start : Printed [] pen.out.now pen.at pen.out.now = record { count = z; held = over_none pen.out.now } in
    subst (λ (x : List ℕ). Printed line pen.out.now last.at x) (sym (e (sym a.same))) (a.add pen.out.now [] start h)

-- a line and a buffer leave one answer and one buffer
pub printed_unique : (line out : List ℕ) (n m : ℕ) (x y : List ℕ) → Printed line out n x → Printed line out m y → (n ≡ m) × (x ≡ y)
printed_unique line out n m x y p q = (p.count ∙ sym q.count, p.held ∙ sym q.held)

-- a line lies within its buffer
pub printed_within : {line out after : List ℕ} {n : ℕ} → Printed line out n after → n ≤ length after
printed_within {line} {out} p = omega (arith, p.count, ap length p.held, over_within line out)
