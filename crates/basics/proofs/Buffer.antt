-- Laws of entries laid into a lent buffer.
--     rest, put_rest     `&s[at..]`, and what comes back from `&mut out[at..]`
--     over_length, over_within, over_front, over_more     the buffer's length; the entries lie within it, and in front; one entry more
--     paste_length, paste_paste     from a place on: the buffer's length; entries behind entries
use Prim.Native.Nat.{ℕ, suc, ◌+◌, ◌-◌, ◌≤◌, ◌<◌}
use mathlib.Core.Path.{◌≡◌, refl, sym, ap, ◌∙◌}
use mathlib.Core.List.{List, [], ◌∷◌, ◌++◌, append_assoc, append-nil}
use native.Mathlib.Omega.{arith}
use lib.ListN.{length, take, drop, set, get_or, length-append, length-drop, drop_of_length-le}
use lib.Seq.{take_all, drop-cons, set_at, take_at, drop_at, drop-drop, length-take-le}
use borrow.Rule.Slice.PartMut.{put_mid}
use Rattle.basics.specs.Buffer.{over, paste}

module _ {A : Type 0} where
  pub rest : (s : List A) (at : ℕ) → take (length s - at) (drop at s) ≡ drop at s
  rest s at = take_all (length s - at) (drop at s) (omega (arith, length-drop at s))

  pub put_rest : (out : List A) (at : ℕ) (ys : List A) → put_mid at (length out - at) out ys ≡ take at out ++ ys
  put_rest out at ys =
      ap (λ (z : List A). take at out ++ (ys ++ z))
      (drop_of_length-le (drop at out) {i = length out - at} (omega (arith, length-drop at out)))
      ∙ ap (λ (z : List A). take at out ++ z) (append-nil ys)

  -- ---- at the start

  pub over_none : (out : List A) → out ≡ over [] out
  unfolding over
  over_none out = refl

  pub over_length : (xs out : List A) → length xs ≤ length out → length (over xs out) ≡ length out
  unfolding over
  over_length xs out h = simp (length-append, length-drop) (omega arith)

  pub over_within : (xs out : List A) → length xs ≤ length (over xs out)
  unfolding over
  over_within xs out = simp length-append (omega arith)

  pub over_front : (xs out : List A) (n : ℕ) → length xs ≡ n → take n (over xs out) ≡ xs
  unfolding over
  over_front xs out n h = take_at xs (drop (length xs) out) n h

  pub over_append : (xs ys out : List A) → xs ++ over ys (drop (length xs) out) ≡ over (xs ++ ys) out
  unfolding over
  over_append xs ys out =
      ap (λ (z : List A). xs ++ (ys ++ z)) (drop-drop (length ys) (length xs) out ∙ ap (λ (k : ℕ). drop k out) (sym (length-append xs ys)))
      ∙ sym (append_assoc xs ys (drop (length (xs ++ ys)) out))

  -- one entry more
  pub over_more : (xs out : List A) (i : ℕ) (v : A) → length xs ≡ i → i < length out → set (over xs out) i v ≡ over (xs ++ (v ∷ [])) out
  unfolding over
  over_more xs [] i v e h = absurd (omega arith)
  over_more xs (y ∷ ys) i v e h =
      let out : List A = y ∷ ys in
      ap (λ (z : List A). set (xs ++ z) i v) (drop-cons out (length xs) y (omega arith))
      ∙ set_at xs (get_or out (length xs) y) (drop (suc (length xs)) out) v i e
      ∙ ap (λ (k : ℕ). xs ++ (v ∷ drop k out)) {x = suc (length xs)} {y = length xs + 1} (omega arith)
      ∙ ap (λ (z : List A). xs ++ (v ∷ z)) (sym (drop-drop 1 (length xs) out))
      ∙ over_append xs (v ∷ []) out

  -- ---- from a place on

  pub paste_length : (out : List A) (at : ℕ) (xs : List A) → at + length xs ≤ length out → length (paste out at xs) ≡ length out
  unfolding paste
  paste_length out at xs h =
      length-append (take at out) (over xs (drop at out))
      ∙ omega (
        arith,
        length-take-le at out (omega arith),
        over_length xs (drop at out)
            (omega (arith, length-drop at out)),
        length-drop at out,
      )

  pub paste_paste : (out : List A) (at : ℕ) (xs ys : List A) → at + length xs ≤ length out
      → paste (paste out at xs) (at + length xs) ys ≡ paste out at (xs ++ ys)
  unfolding paste over
  paste_paste out at xs ys h =
      let front : List A = take at out in
      let back : List A = drop (length xs) (drop at out) in
      let n : length (front ++ xs) ≡ at + length xs = length-append front xs
      ∙ ap (λ (k : ℕ). k + length xs) (length-take-le at out (omega arith)) in
      let e : front ++ (xs ++ back) ≡ (front ++ xs) ++ back = sym (append_assoc front xs back) in
      ap (λ (z : List A). take (at + length xs) z ++ over ys (drop (at + length xs) z)) e
      ∙ ap (λ (z : List A). z ++ over ys (drop (at + length xs) ((front ++ xs) ++ back))) (take_at (front ++ xs) back (at + length xs) n)
      ∙ ap (λ (z : List A). (front ++ xs) ++ over ys z) (drop_at (front ++ xs) back (at + length xs) n)
      ∙ append_assoc front xs (over ys back)
      ∙ ap (λ (z : List A). front ++ z) (over_append xs ys (drop at out))
