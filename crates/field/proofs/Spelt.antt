-- Writing after reading: the bytes of what a reader accepted.
--     Spelt s at e bs      from `at` to `e` the sheet has these bytes
--     spelt_none, spelt_join, spelt_whole      no field, field after field, a whole sheet
--     number_spelt, between_spelt, kind_spelt     one field, and what is known of its value
use mathlib.Core.Path.{◌≡◌, refl, sym, ap, ◌∙◌}
use mathlib.Core.Bool.{true}
use mathlib.Core.List.{List, [], ◌++◌, append_assoc, append-nil}
use Prim.Native.Nat.{ℕ, ◌+◌, ◌^◌, ◌≤◌, ◌<◌}
use native.Mathlib.Omega.{arith}
use lib.ListN.{length, drop, length-append, length-drop}
use lib.Seq.{drop-drop, drop-length}
use Rattle.basics.specs.Lists.{listed}
use Rattle.number.specs.Bytes.{Bytes}
use Rattle.number.specs.Decode.{Decoded, value, decode, refused as bad}
use Rattle.number.specs.Encode.{encode, width_of}
use Rattle.number.proofs.Encode.{width_bounds}
use Rattle.number.proofs.Part.{drop_bytes}
use Rattle.number.proofs.RoundTrip.{decode_exact}
use Rattle.field.specs.Sheet.{got}
use Rattle.field.specs.Field.{taken, number, between, kind}
use Rattle.field.proofs.Values.{between_within, kind_within}

pub record Spelt (s : List ℕ) (at e : ℕ) (bs : List ℕ) : Type 0 where
  pub within : e ≤ length s
  pub place : e ≡ at + length bs
  pub bytes : drop at s ≡ bs ++ drop e s

-- ---- field after field

pub spelt_none : (s : List ℕ) (at : ℕ) → at ≤ length s → Spelt s at at []
spelt_none s at h = record { within = h; place = omega arith; bytes = refl }

pub spelt_join : {s : List ℕ} {at mid e : ℕ} {bs cs : List ℕ} → Spelt s at mid bs → Spelt s mid e cs → Spelt s at e (bs ++ cs)
spelt_join {s} {at} {mid} {e} {bs} {cs} f g = record {
  within = g.within;
  place = omega (arith, f.place, g.place, length-append bs cs);
  bytes = f.bytes ∙ ap (λ (x : List ℕ). bs ++ x) g.bytes ∙ sym (append_assoc bs cs (drop e s));
}

-- ---- any number

decoded : (s : List ℕ) (at v e : ℕ) (d : Decoded) → taken (length s) at d ≡ got v e → (n : ℕ) × (d ≡ value v n) × (e ≡ at + n)
unfolding taken
decoded s at v e (value w n) h = (n, cc, cc)
decoded s at v e (bad m) h = absurd (let z : ◌≡◌ {A = ℕ} 0 1 = cc in omega arith)

pub number_spelt : (s : List ℕ) (at v e : ℕ) → Bytes s → number s at ≡ got v e → Spelt s at e (encode v) × (v < 2 ^ 32)
unfolding number width_of
number_spelt s at v e b h =
    let d = decoded s at v e (decode (drop at s)) h in
    let x = decode_exact (drop at s) v d.0 (drop_bytes s at b) d.1 in
    let long = ap length x.0.bytes ∙ length-append (encode v) (drop d.0 (drop at s)) in (
      record {
        within = omega (arith, d.2, x.0.count, long, length-drop at s, width_bounds v);
        place = omega (arith, d.2, x.0.count);
        bytes = x.0.bytes ∙ ap (λ (y : List ℕ). encode v ++ y) (drop-drop d.0 at s ∙ ap (λ (k : ℕ). drop k s) (sym d.2));
      },
      x.1,
    )

-- ---- a number that passed its checks

module _ (s : List ℕ) (b : Bytes s) (at : ℕ) {v e : ℕ} where
  pub between_spelt : (low high under above : ℕ) → between low high under above s at ≡ got v e
      → Spelt s at e (encode v) × (low ≤ v) × (v ≤ high)
  between_spelt low high under above h =
      let w = between_within low high under above s at h in ((number_spelt s at v e b w.0).0, w.1, w.2)

  pub kind_spelt : (kinds : List ℕ) → kind kinds s at ≡ got v e → Spelt s at e (encode v) × (listed kinds v ≡ true)
  kind_spelt kinds h = let w = kind_within kinds s at h in ((number_spelt s at v e b w.0).0, w.1)

-- ---- a whole sheet

pub spelt_whole : (s : List ℕ) (e : ℕ) (bs : List ℕ) → e ≡ length s → Spelt s 0 e bs → s ≡ bs
spelt_whole s e bs h x = x.bytes ∙ ap (λ (k : ℕ). bs ++ drop k s) h ∙ ap (λ (y : List ℕ). bs ++ y) (drop-length s) ∙ append-nil bs
