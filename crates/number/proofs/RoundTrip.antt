-- Reading what was written gives the value, whatever follows; what was read, written, gives the same bytes.
--     decode_encode     the first
--     decode_exact      the second
use mathlib.Core.Path.{◌≡◌, refl, sym, ap, ◌∙◌}
use mathlib.Core.List.{List, [], ◌∷◌, ◌++◌}
use Prim.Native.Nat.{ℕ, zero, suc, ◌+◌, ◌*◌, ◌/◌, ◌%◌, ◌^◌, ◌≤◌, ◌<◌}
use native.Mathlib.Omega.{arith}
use native.Mathlib.Nat.{pow-suc, one-le-pow}
use native.Mathlib.Numerals.{add-one}
use borrow.Author.Tests.{ne_eqb, lt-ltb, le-ltb, ltb-true, ltb-false, eqb-false}
use lib.ListN.{length, drop}
use lib.Dec.{ltb, lit<}
use Rattle.number.specs.Bytes.{Bytes}
use Rattle.number.specs.Decode.{Decoded, value, refused, under, more, decode}
use Rattle.number.specs.Encode.{encode_by, encode, width_of}
use Rattle.basics.proofs.Choice.{pick_true, pick_false, pick_elim}
use Rattle.basics.proofs.Tests.{by_cases}
use Rattle.number.proofs.Part.{drop_bytes}

-- ---- reading what was written

-- a group that others follow, before the value of those
joined : (v n : ℕ) (d : Decoded) → d ≡ value (v / 128) n → under (v % 128 + 128) d ≡ value v (suc n)
unfolding under
joined v n d e = ap (under (v % 128 + 128)) e ∙ ap (λ (w : ℕ). value w (n + 1)) (omega arith) ∙ ap (value v) (add-one n)

more_encode : (k v : ℕ) (r : List ℕ) → 0 < v → v < 16 * 128 ^ k → more k (encode_by k v ++ r) ≡ value v (length (encode_by k v))
unfolding more encode_by
more_encode zero v r p h = pick_false _ _ (ne_eqb v 0 (λ z. omega arith)) ∙ pick_true _ _ (lt-ltb v 16 (omega arith))
more_encode (suc k) v r p h =
    by_cases (ltb v 128)
    (λ t.
    let e : encode_by (suc k) v ≡ v ∷ [] = pick_true _ _ t in
    rw e (pick_false _ _ (ne_eqb v 0 (λ z. omega arith)) ∙ pick_true _ _ t))
    (λ f.
    let g : 128 ≤ v = ltb-false v 128 f in
    let e : encode_by (suc k) v ≡ (v % 128 + 128) ∷ encode_by k (v / 128) = pick_false _ _ f in
    rw e
    (pick_false _ _ (ne_eqb (v % 128 + 128) 0 (λ z. omega arith)) ∙ pick_false _ _ (le-ltb (v % 128 + 128) 128 (omega arith))
    ∙ joined v _ _ (more_encode k (v / 128) r (omega arith) (omega (arith, pow-suc 128 k)))))

-- reading what was written gives the value, whatever follows
pub decode_encode : (v : ℕ) (r : List ℕ) → v < 2 ^ 32 → decode (encode v ++ r) ≡ value v (width_of v)
unfolding decode encode width_of encode_by
decode_encode v r h =
    by_cases (ltb v 128)
    (λ t.
    let e : encode_by 4 v ≡ v ∷ [] = pick_true _ _ t in
    rw e (pick_true _ _ t))
    (λ f.
    let g : 128 ≤ v = ltb-false v 128 f in
    let e : encode_by 4 v ≡ (v % 128 + 128) ∷ encode_by 3 (v / 128) = pick_false _ _ f in
    rw e
    (pick_false _ _ (le-ltb (v % 128 + 128) 128 (omega arith))
    ∙ joined v _ _ (more_encode 3 (v / 128) r (omega arith) (omega arith))))

-- ---- writing what was read

-- s begins with these bytes, n of them
pub record Begins (s : List ℕ) (n : ℕ) (bs : List ℕ) : Type 0 where
  pub bytes : s ≡ bs ++ drop n s
  pub count : n ≡ length bs

Exact : ℕ → List ℕ → Decoded → Type 0
Exact k s (value v n) = Begins s n (encode_by k v) × (0 < v) × (v < 16 * 128 ^ k)
Exact k s (refused e) = Unit

-- one group of seven bits before a value
exact_next : (k b v n : ℕ) (s : List ℕ) → 128 ≤ b → b < 256 → 0 < v → Begins s n (encode_by k v)
    → Begins (b ∷ s) (n + 1) (encode_by (suc k) (b % 128 + 128 * v))
unfolding encode_by
exact_next k b v n s h l p x =
    let w : ℕ = b % 128 + 128 * v in
    let low : w % 128 + 128 ≡ b = omega arith in
    let high : w / 128 ≡ v = omega arith in
    let e : encode_by (suc k) w ≡ b ∷ encode_by k v =
    pick_false _ _ (le-ltb w 128 (omega arith)) ∙ ap (λ (z : ℕ). z ∷ encode_by k (w / 128)) low ∙ ap (λ (z : ℕ). b ∷ encode_by k z) high in
    record {
      bytes = ap (λ (z : List ℕ). b ∷ z) x.bytes ∙ ap (λ (z : List ℕ). z ++ drop n s) (sym e)
          ∙ ap (λ (z : ℕ). encode_by (suc k) w ++ drop z (b ∷ s)) (sym (add-one n));
      count = omega (arith, x.count, ap length e);
    }

exact_under : (k b : ℕ) (s : List ℕ) (d : Decoded) → 128 ≤ b → b < 256 → Exact k s d → Exact (suc k) (b ∷ s) (under b d)
unfolding Exact under
exact_under k b s (refused e) h l x = tt
exact_under k b s (value v n) h l x = (exact_next k b v n s h l x.1 x.0, omega (arith, x.1), omega (arith, x.2, pow-suc 128 k))

exact : (k : ℕ) (s : List ℕ) → Bytes s → Exact k s (more k s)
unfolding Exact more encode_by Bytes
exact zero [] h = tt
exact (suc k) [] h = tt
exact zero (b ∷ s) h =
    pick_elim (Exact 0 (b ∷ s)) _ _ _ (λ _. tt) λ z.
    pick_elim (Exact 0 (b ∷ s)) _ _ _
    (λ l. (record { bytes = refl; count = refl }, omega (arith, eqb-false b 0 z), omega (arith, ltb-true b 16 l))) λ _. tt
exact (suc k) (b ∷ s) h =
    pick_elim (Exact (suc k) (b ∷ s)) _ _ _ (λ _. tt) λ z.
    pick_elim (Exact (suc k) (b ∷ s)) _ _ _
    (λ l.
    let e : encode_by (suc k) b ≡ b ∷ [] = pick_true _ _ l in (
      record { bytes = ap (λ (x : List ℕ). x ++ s) (sym e); count = ap length (sym e) },
      omega (arith, eqb-false b 0 z),
      omega (arith, ltb-true b 128 l, pow-suc 128 k, one-le-pow k 128 (lit< tt)),
    ))
    (λ l. exact_under k b s (more k s) (ltb-false b 128 l) (h 0) (exact k s (drop_bytes (b ∷ s) 1 h)))

Whole : List ℕ → Decoded → Type 0
Whole s (value v n) = Begins s n (encode v) × (v < 2 ^ 32)
Whole s (refused e) = Unit

whole_under : (b : ℕ) (s : List ℕ) (d : Decoded) → 128 ≤ b → b < 256 → Exact 3 s d → Whole (b ∷ s) (under b d)
unfolding Whole Exact under encode
whole_under b s (refused e) h l x = tt
whole_under b s (value v n) h l x = (exact_next 3 b v n s h l x.1 x.0, omega (arith, x.2))

whole : (s : List ℕ) → Bytes s → Whole s (decode s)
unfolding Whole decode encode encode_by Bytes
whole [] h = tt
whole (b ∷ s) h =
    pick_elim (Whole (b ∷ s)) _ _ _
    (λ l.
    let e : encode_by 4 b ≡ b ∷ [] = pick_true _ _ l in
    (record { bytes = ap (λ (x : List ℕ). x ++ s) (sym e); count = ap length (sym e) }, omega (arith, ltb-true b 128 l)))
    (λ l. whole_under b s (more 3 s) (ltb-false b 128 l) (h 0) (exact 3 s (drop_bytes (b ∷ s) 1 h)))

-- what was read, written, gives the same bytes
pub decode_exact : (s : List ℕ) (v n : ℕ) → Bytes s → decode s ≡ value v n → Begins s n (encode v) × (v < 2 ^ 32)
unfolding Whole
decode_exact s v n h e = rw e at (whole s h)
