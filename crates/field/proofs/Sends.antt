-- Laws of `Sent`: the three ways in which a writer of sheets ends, and that there is no fourth.
use mathlib.Core.Path.{◌≡◌, refl, sym, ap, ◌∙◌}
use mathlib.Core.List.{List}
use Prim.Native.Nat.{ℕ, ◌≤◌, ◌<◌}
use native.Mathlib.Omega.{arith}
use borrow.Author.Tests.{le-leb, lt-leb, leb-true, leb-false}
use lib.Dec.{leb}
use lib.ListN.{length, take}
use Rattle.basics.proofs.Choice.{pick_true, pick_false}
use Rattle.basics.proofs.Tests.{by_cases}
use Rattle.std.specs.Prelude.{Result, Ok, Err}
use Rattle.field.specs.declared.Fault.{Fault}
use Rattle.field.specs.declared.Refusal.TheVariants.{NoRoom}
use Rattle.basics.specs.Buffer.{over, paste}
use Rattle.basics.proofs.Buffer.{over_front}
use Rattle.field.specs.Put.{Laid}
use Rattle.field.specs.Refusal.{number_of, fault_at, note_of}
use Rattle.field.specs.Send.{Draft, sheet, none, told_written, answer_to, left_by, Sent}
use Rattle.field.specs.Sheet.{Note, note, Out, got, refused}
use Rattle.field.proofs.Unique.{told_by_injective, not_refused}

-- there is no sheet: refused, and nothing has changed
pub sent_refused : (f : Fault) (out : List ℕ) → Sent (none (note_of f)) out (Err f) out
unfolding answer_to left_by
sent_refused f out = record { answer = refl; held = refl }

-- it is longer than the buffer: refused with 11 and its length, and nothing has changed
pub sent_long : (bs out : List ℕ) {n : ℕ} → n ≡ length bs → length out < n → Sent (sheet bs) out (Err (fault_at NoRoom n)) out
unfolding answer_to left_by
sent_long bs out {n} e h =
    let l : length out < length bs = omega (arith, e) in
    record {
      answer = ap (λ (m : ℕ). refused (note 11 m)) e ∙ sym (pick_false _ _ (lt-leb _ _ l));
      held = sym (pick_false _ _ (lt-leb _ _ l));
    }

-- it was written from the first byte on
pub sent_fits : {bs out : List ℕ} {n : ℕ} {after : List ℕ} → Laid out 0 bs after n → Sent (sheet bs) out (Ok n) after
unfolding answer_to left_by paste
sent_fits {bs} {out} {n} {after} w =
    let l : length bs ≤ length out = omega (arith, w.fit) in
    let e : n ≡ length bs = omega (arith, w.place) in
    record { answer = ap (got tt) e ∙ sym (pick_true _ _ (le-leb _ _ l)); held = w.held ∙ sym (pick_true _ _ (le-leb _ _ l)) }

-- the buffer then begins with the sheet
pub sent_bytes : (bs out : List ℕ) (n : ℕ) (after : List ℕ) → Sent (sheet bs) out (Ok n) after → (n ≡ length bs)
    × (take n after ≡ bs) × (n ≤ length out)
unfolding answer_to left_by
sent_bytes bs out n after w =
    by_cases (leb (length bs) (length out))
    (λ t.
    let a : got tt n ≡ got tt (length bs) = w.answer ∙ pick_true _ _ t in
    let k : n ≡ length bs = cc in
    (k, ap (take n) (w.held ∙ pick_true _ _ t) ∙ over_front bs out n (sym k), omega (arith, leb-true (length bs) (length out) t)))
    (λ f. let a : got tt n ≡ refused (note 11 (length bs)) = w.answer ∙ pick_false _ _ f in
    absurd (let z : ◌≡◌ {A = ℕ} 0 1 = cc in omega arith))

-- whatever was sent is a sheet, at the buffer's start
pub sent_sheet : (d : Draft) (out : List ℕ) (n : ℕ) (after : List ℕ) → Sent d out (Ok n) after
    → (bs : List ℕ) × (d ≡ sheet bs) × (n ≡ length bs) × (take n after ≡ bs)
unfolding answer_to
sent_sheet (sheet bs) out n after w = let b = sent_bytes bs out n after w in (bs, refl, b.0, b.1)
sent_sheet (none e) out n after w =
    absurd (let a : got tt n ≡ refused e = w.answer in let z : ◌≡◌ {A = ℕ} 0 1 = cc in omega arith)

-- why a sheet is not sent: it is longer than the buffer
pub sent_not : (bs out : List ℕ) (f : Fault) (after : List ℕ) → Sent (sheet bs) out (Err f) after
    → (length out < length bs) × (note_of f ≡ note 11 (length bs))
unfolding answer_to
sent_not bs out f after w =
    by_cases (leb (length bs) (length out))
    (λ t. absurd (let a : refused (note_of f) ≡ got tt (length bs) = w.answer ∙ pick_true _ _ t in
    let z : ◌≡◌ {A = ℕ} 0 1 = cc in omega arith))
    (λ l. let a : refused (note_of f) ≡ refused (note 11 (length bs)) = w.answer ∙ pick_false _ _ l in
    (leb-false (length bs) (length out) l, cc))

length_same : {n m : ℕ} → ◌≡◌ {A = Out Unit} (got tt n) (got tt m) → n ≡ m
length_same h = cc

-- two answers that say the same are the same
pub written_injective : (a b : Result ℕ Fault) → told_written a ≡ told_written b → a ≡ b
written_injective = told_by_injective (got tt) (λ n m h. length_same h) (λ n e h. not_refused h)

-- with room for it, a sheet is sent
pub sent_room : {d : Draft} {bs : List ℕ} (out : List ℕ) (r : Result ℕ Fault) (after : List ℕ) → d ≡ sheet bs → length bs ≤ length out
    → Sent d out r after → (r ≡ Ok (length bs)) × (after ≡ over bs out)
unfolding answer_to left_by
sent_room {bs = bs} out r after e l w =
    let fits = le-leb _ _ l in (
      written_injective r (Ok (length bs)) (w.answer ∙ ap (λ x. answer_to x out) e ∙ pick_true _ _ fits),
      w.held ∙ ap (λ x. left_by x out) e ∙ pick_true _ _ fits,
    )

-- a draft and a buffer leave one answer and one buffer
pub sent_unique : (d : Draft) (out : List ℕ) (a b : Result ℕ Fault) (x y : List ℕ) → Sent d out a x → Sent d out b y → (a ≡ b) × (x ≡ y)
sent_unique d out a b x y p q = (written_injective a b (p.answer ∙ sym q.answer), p.held ∙ sym q.held)

-- ---- 11 tells what was needed

-- where there is no sheet, it is not for want of room
unfoldable pub Roomless : Draft → Type 0
Roomless (sheet bs) = Unit
Roomless (none e) = e.number ≡ 11 → ⊥

-- a buffer of the length that 11 told is enough
pub sent_enough : (d : Draft) (out out' : List ℕ) (f : Fault) (after : List ℕ) → Roomless d → Sent d out (Err f) after
    → f.refusal ≡ NoRoom → f.place ≤ length out' → answer_to d out' ≡ got tt f.place
unfolding answer_to Roomless
sent_enough (sheet bs) out out' f after o w q l =
    let n : f.place ≡ length bs = ap (λ (x : Note). x.place) (sent_not bs out f after w).1 in
    let m : length bs ≤ length out' = omega (arith, n) in pick_true _ _ (le-leb _ _ m) ∙ ap (got tt) (sym n)
sent_enough (none e) out out' f after o w q l =
    let a : refused (note_of f) ≡ refused e = w.answer in
    let n : note_of f ≡ e = cc in absurd (o (sym (ap (λ (x : Note). x.number) n) ∙ ap number_of q))
