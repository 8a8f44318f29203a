-- Laws of sheets and calls framed in a stream of bytes: the answer in each case, and that there is no second.
use mathlib.Core.Path.{◌≡◌, refl, sym, ap, ◌∙◌, subst}
use mathlib.Core.List.{List}
use Prim.Native.Nat.{ℕ, ◌+◌, ◌-◌, ◌≤◌, ◌<◌}
use native.Mathlib.Omega.{arith}
use borrow.Author.Tests.{ne_eqb, le-leb, lt-leb, leb-true, leb-false}
use lib.Dec.{leb}
use lib.ListN.{length, take, drop, length-drop}
use lib.Seq.{length-take-le}
use Rattle.std.specs.Prelude.{Result, Ok, Err}
use Rattle.basics.specs.Limits.{request_most}
use Rattle.number.specs.Decode.{Decoded, value, decode, refused as bad}
use Rattle.basics.proofs.Choice.{pick_true, pick_false}
use Rattle.basics.proofs.Tests.{by_cases}
use Rattle.number.proofs.Decode.{decode_within}
use Rattle.field.specs.declared.Fault.{Fault}
use Rattle.field.specs.Field.{taken, number, inside}
use Rattle.field.specs.Refusal.{note_of}
use Rattle.field.specs.Sheet.{unplaced, Note, note, Out, got, refused, Parser}
use Rattle.field.proofs.Readers.{number_past}
use Rattle.field.proofs.Sheet.{next, stops}
use Rattle.field.proofs.Unique.{note_injective, not_refused}
use Rattle.field.proofs.Values.{between_within, between_range}
use Rattle.stream.specs.declared.Span.{Span}
use Rattle.stream.specs.declared.Call.{Call}
use Rattle.stream.specs.declared.Call.TheVariants.{Rent, Settings, Request, Return, Why}
use Rattle.stream.specs.Frame.{bytes, sheet, part, at_span, Within, Spans}
use Rattle.stream.specs.Call.{room_most, Asked, none, behind}
use Rattle.stream.specs.Call.{asked_by, told_call, Holds, Held, Framed}

-- ---- a number lies within the input

ended_within : (s : List ℕ) (len at v e : ℕ) (d : Decoded) → d ≡ decode (drop at s) → at ≤ length s → taken len at d ≡ got v e
    → e ≤ length s
unfolding taken
ended_within s len at v e (value w n) q l h =
    let p : at + n ≡ e = cc in
    omega (arith, decode_within (drop at s) w n (sym q), length-drop at s)
ended_within s len at v e (bad m) q l h = absurd (let z : ◌≡◌ {A = ℕ} 0 1 = cc in omega arith)

pub number_within : (s : List ℕ) (at v e : ℕ) → number s at ≡ got v e → e ≤ length s
unfolding number
number_within s at v e h =
    by_cases (leb at (length s))
    (λ t. ended_within s (length s) at v e (decode (drop at s)) refl (leb-true _ _ t) h)
    (λ f. absurd (let x : refused (note 1 (length s)) ≡ got v e = sym (number_past s at (omega (arith, leb-false _ _ f))) ∙ h in
    let z : ◌≡◌ {A = ℕ} 0 1 = cc in omega arith))

-- ---- a sheet

pub length_within : (s : List ℕ) (at n e : ℕ) → inside 0 request_most 6 s at ≡ got n e → e ≤ length s
length_within s at n e h = number_within s at n e (between_within 0 request_most 6 6 s at h).0

module _ (s : List ℕ) (at n e : ℕ) (h : inside 0 request_most 6 s at ≡ got n e) where
  sheet_bytes_law : sheet s at ≡ bytes n s e
  unfolding sheet
  sheet_bytes_law = next (inside 0 request_most 6) _ s at h

  pub sheet_past : length s - e < n → sheet s at ≡ refused (note 1 (length s))
  unfolding bytes
  sheet_past p = sheet_bytes_law ∙ pick_false _ _ (lt-leb (e + n) (length s) (omega (arith, length_within s at n e h)))

  pub sheet_spans : n ≤ length s - e → Spans s (sheet s at) (Ok (record { from = e; to = e + n }))
  unfolding bytes
  sheet_spans p =
      let w : e + n ≤ length s = omega (arith, length_within s at n e h) in
      let k : n ≡ e + n - e = omega arith in (
        sheet_bytes_law ∙ pick_true _ _ (le-leb (e + n) (length s) w) ∙ ap (λ (m : ℕ). got (take m (drop e s)) (e + n)) k,
        record { order = omega arith; end = w },
      )

pub sheet_stops : (s : List ℕ) (at : ℕ) {n : Note} → inside 0 request_most 6 s at ≡ refused n → sheet s at ≡ refused n
unfolding sheet
sheet_stops s at h = stops (inside 0 request_most 6) _ s at h

-- a refusal that was met, and handed on
pub spans_refused : (s : List ℕ) {o : Out (List ℕ)} {r : Result Span Fault} {f : Fault} → r ≡ Err f → o ≡ refused (note_of f) → Spans s o r
spans_refused s {o} e h = subst (λ r. Spans s o r) (sym e) h

-- ---- a call

pub framed_refused : {s : List ℕ} {o : Out Asked} {r : Result (Call × ℕ) Fault} {f : Fault} → r ≡ Err f → o ≡ refused (note_of f)
    → Framed s o r
framed_refused {s} {o} e h = subst (λ r. Framed s o r) (sym e) (record { answer = sym h; held = tt })

-- what follows a call's number
module _ (s : List ℕ) (at : ℕ) {c k : ℕ} (e : c ≡ k) where
  pub behind_got : {q : Call} {n : ℕ} → behind k s at ≡ got (asked_by s q) n → Holds s q n → Framed s (behind c s at) (Ok (q, n))
  behind_got h w = record { answer = sym (ap (λ m. behind m s at) e ∙ h); held = w }

  pub behind_refused : {r : Result (Call × ℕ) Fault} {f : Fault} → r ≡ Err f → behind k s at ≡ refused (note_of f)
      → Framed s (behind c s at) r
  behind_refused q h = framed_refused q (ap (λ m. behind m s at) e ∙ h)

-- a room is as large as its field says
pub room_within : (s : List ℕ) (at : ℕ) {room e : ℕ} → inside 0 room_most 6 s at ≡ got room e → room ≤ room_most
room_within s at h = (between_range 0 room_most 6 6 s at h).1

-- a number that is no call's
pub unknown_call : (s : List ℕ) (at : ℕ) {c : ℕ} → (c ≡ 1 → ⊥) → (c ≡ 2 → ⊥) → (c ≡ 3 → ⊥) → (c ≡ 4 → ⊥) → (c ≡ 5 → ⊥)
    → behind c s at ≡ refused (unplaced 3)
unfolding behind none
unknown_call s at {c} n₁ n₂ n₃ n₄ n₅ =
    ap (λ (p : Parser Asked). p s at) (pick_false _ _ (ne_eqb c 1 n₁) ∙ pick_false _ _ (ne_eqb c 2 n₂)
    ∙ pick_false _ _ (ne_eqb c 3 n₃) ∙ pick_false _ _ (ne_eqb c 4 n₄) ∙ pick_false _ _ (ne_eqb c 5 n₅))

-- ---- there is no second answer

-- parts of the same bytes that end at the same place begin at the same place
part_from : (s : List ℕ) (a b e : ℕ) → Within s a e → Within s b e → part s a e ≡ part s b e → a ≡ b
part_from s a b e v w q =
    let x : length (take (e - a) (drop a s))
    ≡ e - a = length-take-le (e - a) (drop a s) (omega (arith, length-drop a s, v.order, v.end)) in
    let y : length (take (e - b) (drop b s))
    ≡ e - b = length-take-le (e - b) (drop b s) (omega (arith, length-drop b s, w.order, w.end)) in
    omega (arith, ap length q, v.order, w.order)

-- spans that end at the same place and hold the same bytes are one
one_span : (s : List ℕ) (a b : Span) → Within s a.from a.to → Within s b.from b.to → a.to ≡ b.to → at_span s a ≡ at_span s b → a ≡ b
one_span s a b v w n p =
    let l : part s a.from a.to ≡ part s b.from a.to = p ∙ ap (part s b.from) (sym n) in
    let m : a.from ≡ b.from = part_from s a.from b.from a.to v (rw n w) l in
    rw (m, n) refl

pub sheet_unique : (s : List ℕ) (o : Out (List ℕ)) (a b : Result Span Fault) → Spans s o a → Spans s o b → a ≡ b
sheet_unique s o (Ok a) (Ok b) v w =
    let q : got (at_span s a) a.to ≡ got (at_span s b) b.to = sym v.0 ∙ w.0 in
    let n : a.to ≡ b.to = cc in
    let p : at_span s a ≡ at_span s b = cc in
    ap Ok (one_span s a b v.1 w.1 n p)
sheet_unique s o (Ok a) (Err g) v w = absurd (not_refused (sym v.0 ∙ w))
sheet_unique s o (Err f) (Ok b) v w = absurd (not_refused (sym w.0 ∙ v))
sheet_unique s o (Err f) (Err g) v w =
    let q : refused (note_of f) ≡ refused (note_of g) = sym v ∙ w in
    let n : note_of f ≡ note_of g = cc in
    ap Err (note_injective f g n)

-- what each call asks tells which call it is, and with the place after it where its sheet stands
same_call : (s : List ℕ) (a b : Call) (n : ℕ) → asked_by s a ≡ asked_by s b → Holds s a n → Holds s b n → a ≡ b
same_call s (Rent t) (Rent u) n q h k = cc
same_call s (Rent t) (Settings w) n q h k = cc
same_call s (Rent t) (Request m w) n q h k = cc
same_call s (Rent t) (Return u) n q h k = cc
same_call s (Rent t) (Why c e w) n q h k = cc
same_call s (Settings v) (Rent u) n q h k = cc
same_call s (Settings v) (Settings w) n q h k =
    let z : at_span s v ≡ at_span s w = cc in ap Settings (one_span s v w h.0 k.0 (h.1 ∙ sym k.1) z)
same_call s (Settings v) (Request m w) n q h k = cc
same_call s (Settings v) (Return u) n q h k = cc
same_call s (Settings v) (Why c e w) n q h k = cc
same_call s (Request r v) (Rent u) n q h k = cc
same_call s (Request r v) (Settings w) n q h k = cc
same_call s (Request r v) (Request m w) n q h k =
    let x : r ≡ m = cc in
    let z : at_span s v ≡ at_span s w = cc in
    rw (x, one_span s v w h.0.0 k.0.0 (h.0.1 ∙ sym k.0.1) z) refl
same_call s (Request r v) (Return u) n q h k = cc
same_call s (Request r v) (Why c e w) n q h k = cc
same_call s (Return t) (Rent u) n q h k = cc
same_call s (Return t) (Settings w) n q h k = cc
same_call s (Return t) (Request m w) n q h k = cc
same_call s (Return t) (Return u) n q h k = cc
same_call s (Return t) (Why c e w) n q h k = cc
same_call s (Why b d v) (Rent u) n q h k = cc
same_call s (Why b d v) (Settings w) n q h k = cc
same_call s (Why b d v) (Request m w) n q h k = cc
same_call s (Why b d v) (Return u) n q h k = cc
same_call s (Why b d v) (Why c e w) n q h k =
    let x : b ≡ c = cc in
    let y : d ≡ e = cc in
    let z : at_span s v ≡ at_span s w = cc in
    rw (x, y, one_span s v w h.0 k.0 (h.1 ∙ sym k.1) z) refl

same : (s : List ℕ) (a b : Result (Call × ℕ) Fault) → told_call s a ≡ told_call s b → Held s a → Held s b → a ≡ b
same s (Ok (a, n)) (Ok (b, m)) q h k =
    let e : n ≡ m = cc in
    let p : asked_by s a ≡ asked_by s b = cc in
    let c : a ≡ b = same_call s a b n p h (rw e k) in
    rw (c, e) refl
same s (Ok a) (Err g) q h k = absurd (not_refused q)
same s (Err f) (Ok b) q h k = absurd (not_refused (sym q))
same s (Err f) (Err g) q h k = let n : note_of f ≡ note_of g = cc in ap Err (note_injective f g n)

pub call_unique : (s : List ℕ) (o : Out Asked) (a b : Result (Call × ℕ) Fault) → Framed s o a → Framed s o b → a ≡ b
call_unique s o a b v w = same s a b (v.answer ∙ sym w.answer) v.held w.held
