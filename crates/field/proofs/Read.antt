-- Reading after writing: a reader that reads certain bytes as a value, whatever stands before and after them.
--     Reads p bs a      p reads exactly bs as a
--     reads_bind, reads_then, reads_pure, reads_here, reads_require      reader after reader
--     reads_number, reads_between, reads_kind      one field
--     reads_whole       a whole sheet
use mathlib.Core.Path.{◌≡◌, refl, sym, ap, ◌∙◌}
use mathlib.Core.Bool.{Bool, true}
use mathlib.Core.List.{List, [], ◌++◌, append_assoc, append-nil}
use Prim.Native.Nat.{ℕ, ◌+◌, ◌^◌, ◌≤◌, ◌<◌}
use native.Mathlib.Omega.{arith}
use native.Mathlib.Nat.{add-zero, zero-add}
use borrow.Author.Tests.{le-leb}
use lib.ListN.{length, length-append}
use lib.Seq.{drop-append_seam}
use Rattle.basics.specs.Lists.{listed}
use Rattle.number.specs.Decode.{decode}
use Rattle.number.specs.Encode.{encode, width_of}
use Rattle.basics.proofs.Choice.{pick_true}
use Rattle.number.proofs.RoundTrip.{decode_encode}
use Rattle.field.specs.Sheet.{Note, got, Parser, ◌>>=◌, ◌>>◌, pure, here, require}
use Rattle.field.specs.Field.{taken, number, between, kind, end, whole}
use Rattle.field.proofs.Sheet.{next, then, at_here}
use Rattle.field.proofs.Readers.{end_here}

pub record Reads {A : Type 0} (p : Parser A) (bs : List ℕ) (a : A) : Type 0 where
  pub read : (before after : List ℕ) → p (before ++ (bs ++ after)) (length before) ≡ got a (length before + length bs)

-- ---- reader after reader

-- where the first reader ends, the second finds its own bytes
seam : {B : Type 0} (q : Parser B) (bs cs : List ℕ) (b : B) → Reads q cs b → (before after : List ℕ)
    → q (before ++ ((bs ++ cs) ++ after)) (length before + length bs) ≡ got b (length before + length (bs ++ cs))
seam q bs cs b r before after =
    let n : length (before ++ bs) ≡ length before + length bs = length-append before bs in
    let e : before ++ ((bs ++ cs) ++ after) ≡ (before ++ bs) ++ (cs ++ after) = simp append_assoc in
    let m : length (before ++ bs) + length cs ≡ length before + length (bs ++ cs) = omega (arith, n, length-append bs cs) in
    ap (λ (x : List ℕ). q x (length before + length bs)) e ∙ ap (λ (k : ℕ). q ((before ++ bs) ++ (cs ++ after)) k) (sym n)
    ∙ r.read (before ++ bs) after ∙ ap (got b) m

-- the first reader finds its own
front : {A : Type 0} (p : Parser A) (bs cs : List ℕ) (a : A) → Reads p bs a → (before after : List ℕ)
    → p (before ++ ((bs ++ cs) ++ after)) (length before) ≡ got a (length before + length bs)
front p bs cs a r before after =
    ap (λ (x : List ℕ). p (before ++ x) (length before)) (append_assoc bs cs after) ∙ r.read before (cs ++ after)

pub reads_bind : {A B : Type 0} {p : Parser A} (k : A → Parser B) {bs cs : List ℕ} {a : A} {b : B}
    → Reads p bs a → Reads (k a) cs b → Reads (p >>= k) (bs ++ cs) b
reads_bind {p = p} k {bs = bs} {cs = cs} {a = a} {b = b} f g = record {
  read = λ before after. next p k _ _ (front p bs cs a f before after) ∙ seam (k a) bs cs b g before after;
}

pub reads_then : {A B : Type 0} {p : Parser A} {q : Parser B} {bs cs : List ℕ} {a : A} {b : B}
    → Reads p bs a → Reads q cs b → Reads (p >> q) (bs ++ cs) b
reads_then {p = p} {q = q} {bs = bs} {cs = cs} {a = a} {b = b} f g = record {
  read = λ before after. then p q _ _ (front p bs cs a f before after) ∙ seam q bs cs b g before after;
}

pub reads_pure : {A : Type 0} (a : A) → Reads (pure a) [] a
unfolding pure
reads_pure a = record { read = λ before after. ap (got a) (sym (add-zero (length before))) }

-- at whatever place
pub reads_here : {A : Type 0} (k : ℕ → Parser A) {bs : List ℕ} {a : A} → ((at : ℕ) → Reads (k at) bs a) → Reads (here >>= k) bs a
reads_here k f = record { read = λ before after. at_here k _ _ ∙ (f (length before)).read before after }

pub reads_require : {b : Bool} (e : Note) → b ≡ true → Reads (require b e) [] tt
unfolding require
reads_require e h = record { read = λ before after. pick_true _ _ h ∙ ap (got tt) (sym (add-zero (length before))) }

-- what reads nothing more
pub reads_tested : {A B : Type 0} {p : Parser A} {q : Parser B} {bs : List ℕ} {a : A} {b : B}
    → Reads p [] a → Reads q bs b → Reads (p >> q) bs b
reads_tested f g = reads_then f g

-- a reader, and then what reads nothing more
pub reads_checked : {A B : Type 0} {p : Parser A} (k : A → Parser B) {bs : List ℕ} {a : A} {b : B}
    → Reads p bs a → Reads (k a) [] b → Reads (p >>= k) bs b
reads_checked k f g = rw append-nil at (reads_bind k f g)

-- ---- one field

pub reads_number : (v : ℕ) → v < 2 ^ 32 → Reads number (encode v) v
unfolding number taken width_of
reads_number v h = record {
  read = λ before after.
      let len = length (before ++ (encode v ++ after)) in
      ap (λ (x : List ℕ). taken len (length before) (decode x)) (drop-append_seam before (encode v ++ after))
      ∙ ap (taken len (length before)) (decode_encode v after h);
}

pub reads_between : (low high under above v : ℕ) → low ≤ v → v ≤ high → v < 2 ^ 32 → Reads (between low high under above) (encode v) v
unfolding between
reads_between low high under above v l r h =
    reads_here _ λ at. reads_checked _ (reads_number v h)
    (reads_tested (reads_require _ (le-leb v high r)) (reads_tested (reads_require _ (le-leb low v l)) (reads_pure v)))

pub reads_kind : (kinds : List ℕ) (k : ℕ) → listed kinds k ≡ true → k < 2 ^ 32 → Reads (kind kinds) (encode k) k
unfolding kind
reads_kind kinds k t h = reads_here _ λ at. reads_checked _ (reads_number k h) (reads_tested (reads_require _ t) (reads_pure k))

-- ---- a whole sheet

-- read from its first byte, with nothing behind it
pub reads_all : {A : Type 0} {p : Parser A} {bs : List ℕ} {a : A} → Reads p bs a → p bs 0 ≡ got a (length bs)
reads_all {p = p} {bs = bs} {a = a} r =
    ap (λ (x : List ℕ). p x 0) (sym (append-nil bs)) ∙ r.read [] [] ∙ ap (got a) (zero-add (length bs))

pub reads_whole : {A : Type 0} {p : Parser A} {bs : List ℕ} {a : A} → Reads p bs a → whole p bs 0 ≡ got a (length bs)
unfolding whole pure
reads_whole {p = p} {bs = bs} r = next p _ bs 0 (reads_all r) ∙ then end _ bs (length bs) (end_here bs (length bs) refl)
