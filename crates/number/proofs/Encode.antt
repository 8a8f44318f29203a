-- Laws of `encode`: its groups one by one, its width, and what a write leaves in a buffer.
use mathlib.Core.Path.{◌≡◌, refl, sym, ap, ◌∙◌}
use mathlib.Core.List.{List, [], ◌∷◌, ◌++◌}
use Prim.Native.Nat.{ℕ, zero, suc, ◌+◌, ◌-◌, ◌/◌, ◌%◌, ◌^◌, ◌≤◌, ◌<◌}
use native.Mathlib.Omega.{arith}
use native.Mathlib.Nat.{pow-suc}
use borrow.Author.Tests.{lt-ltb, le-ltb, ltb-true, ltb-false, le-leb, lt-leb, leb-true, leb-false}
use lib.Dec.{ltb, leb}
use lib.ListN.{length, take, drop, set, length-drop, take-append-drop}
use Rattle.basics.specs.Choice.{pick}
use Rattle.basics.specs.Buffer.{over}
use Rattle.std.specs.Prelude.{Option, Some, None}
use Rattle.std.specs.Option.{unwrap_or}
use Rattle.number.specs.Encode.{encode_by, encode, width_of, fits, written, put_first, WroteNumber}
use borrow.Rule.Slice.PartMut.{put_mid}
use Rattle.basics.proofs.Buffer.{rest, put_rest}
use Rattle.basics.proofs.Choice.{pick_true, pick_false, pick_elim}
use Rattle.basics.proofs.Tests.{by_cases}

-- ---- the groups of a number

-- one group more at hand changes nothing where the groups are enough
enough : (k v : ℕ) → v < 128 ^ suc k → encode_by (suc k) v ≡ encode_by k v
unfolding encode_by
enough zero v h = pick_true _ _ (lt-ltb v 128 h)
enough (suc k) v h =
    let q : v / 128 < 128 ^ suc k = omega (arith, pow-suc 128 (suc k)) in
    ap (λ (r : List ℕ). pick (ltb v 128) (v ∷ []) ((v % 128 + 128) ∷ r)) (enough k (v / 128) q)

-- a number below 128 is its own byte
pub encode_one : (v : ℕ) → v < 128 → encode v ≡ v ∷ []
unfolding encode encode_by
encode_one v h = pick_true _ _ (lt-ltb v 128 h)

-- a larger one has its lowest group first
pub encode_more : (v : ℕ) → 128 ≤ v → v < 2 ^ 32 → encode v ≡ (v % 128 + 128) ∷ encode (v / 128)
unfolding encode encode_by
encode_more v h l =
    pick_false _ _ (le-ltb v 128 h) ∙ ap (λ (r : List ℕ). (v % 128 + 128) ∷ r) (sym (enough 3 (v / 128) (omega arith)))

-- ---- its width

pub width_one : (v : ℕ) → v < 128 → width_of v ≡ 1
unfolding width_of
width_one v h = ap length (encode_one v h)

pub width_more : (v : ℕ) → 128 ≤ v → v < 2 ^ 32 → width_of v ≡ suc (width_of (v / 128))
unfolding width_of
width_more v h l = ap length (encode_more v h l)

-- two to five bytes, by how large the number is
pub width_two : (v : ℕ) → 128 ≤ v → v < 16384 → width_of v ≡ 2
width_two v h l = width_more v h (omega arith) ∙ ap suc (width_one (v / 128) (omega arith))

pub width_three : (v : ℕ) → 16384 ≤ v → v < 2097152 → width_of v ≡ 3
width_three v h l = width_more v (omega arith) (omega arith) ∙ ap suc (width_two (v / 128) (omega arith) (omega arith))

pub width_four : (v : ℕ) → 2097152 ≤ v → v < 268435456 → width_of v ≡ 4
width_four v h l = width_more v (omega arith) (omega arith) ∙ ap suc (width_three (v / 128) (omega arith) (omega arith))

pub width_five : (v : ℕ) → 268435456 ≤ v → v < 2 ^ 32 → width_of v ≡ 5
width_five v h l = width_more v (omega arith) l ∙ ap suc (width_four (v / 128) (omega arith) (omega arith))

-- a number below a power of 128 has so many bytes at the most
pub width_top : (k v : ℕ) → v < 2 ^ 32 → v < 128 ^ suc k → width_of v ≤ suc k
width_top zero v l h = omega (arith, width_one v h)
width_top (suc k) v l h =
    by_cases (ltb v 128)
    (λ t. omega (arith, width_one v (ltb-true v 128 t)))
    (λ f. omega (arith, width_more v (ltb-false v 128 f) l, width_top k (v / 128) (omega arith) (omega (arith, pow-suc 128 (suc k)))))

width_by : (k v : ℕ) → (1 ≤ length (encode_by k v)) × (length (encode_by k v) ≤ suc k)
unfolding encode_by
width_by zero v = (omega arith, omega arith)
width_by (suc k) v =
    pick_elim (λ (r : List ℕ). (1 ≤ length r) × (length r ≤ suc (suc k))) _ _ _
    (λ _. (omega arith, omega arith))
    (λ _. (omega arith, omega (arith, width_by k (v / 128))))

-- one to five bytes
pub width_bounds : (v : ℕ) → (1 ≤ width_of v) × (width_of v ≤ 5)
unfolding width_of encode
width_bounds v = width_by 4 v

-- ---- what a write leaves

some_none : {k : ℕ} → ◌≡◌ {A = Option ℕ} (Some k) None → ⊥
some_none e = cc

some_same : {k m : ℕ} → ◌≡◌ {A = Option ℕ} (Some k) (Some m) → k ≡ m
some_same e = ap (λ (x : Option ℕ). unwrap_or x 0) e

-- with room the number stands at the start
pub wrote_room : (v : ℕ) (out : List ℕ) → width_of v ≤ length out → WroteNumber v out (Some (width_of v)) (over (encode v) out)
unfolding written put_first fits
wrote_room v out h = let t = le-leb _ _ h in record { count = sym (pick_true _ _ t); left = sym (pick_true _ _ t) }

-- without it nothing has changed
pub wrote_none : (v : ℕ) (out : List ℕ) → length out < width_of v → WroteNumber v out None out
unfolding written put_first fits
wrote_none v out h = let t = lt-leb _ _ h in record { count = sym (pick_false _ _ t); left = sym (pick_false _ _ t) }

-- the one or the other
pub wrote_cases : {C : Type 0} {v : ℕ} {n : Option ℕ} {out after : List ℕ} → WroteNumber v out n after
    → (width_of v ≤ length out → n ≡ Some (width_of v) → after ≡ over (encode v) out → C)
    → (length out < width_of v → n ≡ None → after ≡ out → C) → C
wrote_cases {v = v} {out = out} w f g =
    by_cases (leb (width_of v) (length out))
    (λ t. let h = leb-true _ _ t in let r = wrote_room v out h in f h (w.count ∙ sym r.count) (w.left ∙ sym r.left))
    (λ t. let h = leb-false _ _ t in let r = wrote_none v out h in g h (w.count ∙ sym r.count) (w.left ∙ sym r.left))

-- one byte is the whole number
pub wrote_one : (v : ℕ) (out : List ℕ) → v < 128 → 0 < length out → WroteNumber v out (Some 1) (set out 0 v)
unfolding over
wrote_one v [] h l = absurd (omega arith)
wrote_one v (b ∷ s) h l =
    let r = wrote_room v (b ∷ s) (omega (arith, width_one v h)) in
    rw (encode_one v h, width_one v h) at r

-- two bytes are the whole number
pub wrote_two : (v : ℕ) (out : List ℕ) → 128 ≤ v → v < 128 ^ 2 → 1 < length out
    → WroteNumber v out (Some 2) (set (set out 0 (v % 128 + 128)) 1 (v / 128))
unfolding over
wrote_two v [] h l p = absurd (omega arith)
wrote_two v (b ∷ []) h l p = absurd (omega arith)
wrote_two v (b ∷ c ∷ s) h l p =
    let e : encode v ≡ (v % 128 + 128) ∷ (v / 128) ∷ [] =
    encode_more v h (omega arith) ∙ ap (λ (r : List ℕ). (v % 128 + 128) ∷ r) (encode_one (v / 128) (omega arith)) in
    let w : width_of v ≡ 2 = width_more v h (omega arith) ∙ ap suc (width_one (v / 128) (omega arith)) in
    let r = wrote_room v (b ∷ c ∷ s) (omega (arith, w)) in
    rw (e, w) at r

-- a number of more than one byte has no room in one
pub wrote_short : (v : ℕ) (out : List ℕ) → 128 ≤ v → v < 2 ^ 32 → length out ≤ 1 → WroteNumber v out None out
wrote_short v out h l p = wrote_none v out (omega (arith, width_more v h l, width_bounds (v / 128)))

-- bytes behind the first
behind : (b : ℕ) (xs out : List ℕ) → 0 < length out → set (take 1 out ++ over xs (drop 1 out)) 0 b ≡ over (b ∷ xs) out
unfolding over
behind b xs [] h = absurd (omega arith)
behind b xs (c ∷ s) h = refl

-- a number of more than one byte, where the rest of it was written behind the first
module _ (v : ℕ) (n : Option ℕ) (out ys : List ℕ) (h : 128 ≤ v) (l : v < 2 ^ 32) (p : 0 < length out)
    (w : WroteNumber (v / 128) (take (length out - 1) (drop 1 out)) n ys) where
  rest_wrote : WroteNumber (v / 128) (drop 1 out) n ys
  rest_wrote = rw rest at w

  -- the rest had no room, so the number has none
  pub wrote_rest_none : n ≡ None → WroteNumber v out None (put_mid 1 (length out - 1) out ys)
  wrote_rest_none z =
      wrote_cases rest_wrote
      (λ _ e _. absurd (some_none (sym e ∙ z)))
      (λ full _ e.
      let r = wrote_none v out (omega (arith, length-drop 1 out, width_more v h l)) in
      record { count = r.count; left = put_rest out 1 ys ∙ ap (λ (t : List ℕ). take 1 out ++ t) e ∙ take-append-drop 1 out ∙ r.left })

  -- the rest stands behind the first byte
  pub wrote_rest : {k : ℕ} → n ≡ Some k → WroteNumber v out (Some (k + 1)) (set (put_mid 1 (length out - 1) out ys) 0 (v % 128 + 128))
  wrote_rest z =
      wrote_cases rest_wrote
      (λ room e q.
      let r = wrote_room v out (omega (arith, length-drop 1 out, width_more v h l)) in
      record {
        count = ap Some (omega (arith, width_more v h l, some_same (sym z ∙ e))) ∙ r.count;
        left = ap (λ (t : List ℕ). set t 0 (v % 128 + 128)) (put_rest out 1 ys ∙ ap (λ (t : List ℕ). take 1 out ++ t) q)
            ∙ behind _ _ out p ∙ ap (λ (x : List ℕ). over x out) (sym (encode_more v h l)) ∙ r.left;
      })
      (λ _ e _. absurd (some_none (sym z ∙ e)))

-- five bytes at the most were written
pub wrote_small : {v : ℕ} {out : List ℕ} {n : Option ℕ} {k : ℕ} {after : List ℕ} → WroteNumber v out n after → n ≡ Some k → k ≤ 5
wrote_small {v} w q =
    wrote_cases w (λ _ e _. omega (arith, width_bounds v, some_same (sym q ∙ e))) (λ _ e _. absurd (some_none (sym q ∙ e)))

-- what was written lies within the buffer
pub wrote_fits : {v : ℕ} {out : List ℕ} {n : Option ℕ} {after : List ℕ} → WroteNumber v out n after → unwrap_or n 0 ≤ length out
wrote_fits w = wrote_cases w (λ h e _. rw e h) (λ _ e _. rw e (omega arith))
