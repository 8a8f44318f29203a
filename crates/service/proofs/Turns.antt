-- What a turn comes to, by what it leaves; a sound unit stays sound; and there is no second answer.
--     due_past, due_longest     what is due uses a byte; more are wanted only while fewer than the longest call's are there
--     turns_whole, turns_wants, turns_last     the turn that is served, that wants more bytes, that is the last
--     turned_turns              what `serve` promises is such a turn
--     serves_exists, serves_sound     what is due can be done, and keeps a sound unit sound
--     turn_unique               there is no second answer
use mathlib.Core.Path.{◌≡◌, refl, sym, ap, ◌∙◌, subst}
use mathlib.Core.Bool.{Bool, true, false, ◌&&◌, not}
use mathlib.Core.List.{List, [], ◌∷◌, ◌++◌}
use Prim.Native.Nat.{ℕ, ◌≤◌, ◌<◌}
use native.Mathlib.Omega.{arith}
use borrow.Author.Tests.{eqb-true, ne_eqb}
use lib.Dec.{eqb}
use lib.ListN.{length, drop}
use Rattle.basics.specs.Choice.{pick}
use Rattle.basics.proofs.Choice.{pick_true, pick_false}
use Rattle.basics.proofs.Tests.{both}
use Rattle.number.specs.Decode.{decode}
use Rattle.field.specs.Field.{number, taken}
use Rattle.field.specs.Sheet.{Note, note, Out, got, refused, and_then, ◌>>=◌, pure}
use Rattle.unit.specs.declared.Unit.{Unit}
use Rattle.hire.specs.Calls.{Call, Reply, Does, Runs, next as replies}
use Rattle.unit.specs.Sound.{Sound}
use Rattle.unit.specs.Unit.{new_unit}
use Rattle.hire.proofs.Runs.{does_unique, does_sound, runs_exist}
use Rattle.unit.proofs.Sound.{sound_new}
use Rattle.line.specs.Line.{stopped_text}
use Rattle.line.proofs.Adding.{printed_unique}
use Rattle.line.proofs.Lines.{printed_same}
use Rattle.stream.specs.Call.{call_most, asked}
use Rattle.stream.proofs.Steady.{Steady, steady_got, steady_bind, steady_pure, number_steady, asked_steady}
use Rattle.stream.proofs.Reach.{asked_longest, number_longest}
use Rattle.stream.proofs.Onward.{Past, then_past, number_past, asked_past}
use Rattle.service.specs.declared.Next.{Next}
use Rattle.service.specs.declared.Next.TheVariants.{Served, Wants, Done as Last}
use Rattle.service.specs.declared.Shelf.{Shelf}
use Rattle.service.specs.declared.Turn.{Turn}
use Rattle.service.specs.Shelf.{Due, opens, asks, due, opened, unit_of, shelf_of, call_of, line_of, Serves, last_line, waits, Comes, Turned}
use Rattle.service.specs.Session.{Whole, Ends, Turns}

-- ---- what is due

-- more bytes change only an answer of 1
pub due_steady : (is_open : Bool) → Steady (due is_open)
unfolding due
due_steady true = steady_bind asked_steady (λ a. steady_pure (asks a))
due_steady false = steady_bind number_steady (λ n. steady_pure (opens n))

-- what is due ends within the bytes
pub due_within : (is_open : Bool) (s : List ℕ) {d : Due} {e : ℕ} → due is_open s 0 ≡ got d e → e ≤ length s
due_within is_open s h = (steady_got (due_steady is_open) s [] h).1

bind_refused : {A : Type 0} (o : Out A) (f : A → Due) (n : Note) → and_then o (λ a e. got (f a) e) ≡ refused n → o ≡ refused n
unfolding and_then
bind_refused (got a e) f n q = absurd (let z : ◌≡◌ {A = ℕ} 0 1 = cc in omega arith)
bind_refused (refused m) f n q = let e : m ≡ n = cc in ap refused e

pub due_longest : (is_open : Bool) (s : List ℕ) (n : Note) → due is_open s 0 ≡ refused n → n.number ≡ 1 → length s < call_most
unfolding due ◌>>=◌ pure
due_longest true s n q one = asked_longest s (bind_refused (asked s 0) asks n q) one
due_longest false s n q one = omega (arith, number_longest s (bind_refused (number s 0) opens n q) one)

-- what is due uses at least one byte
pub due_past : (is_open : Bool) (s : List ℕ) {d : Due} {e : ℕ} → due is_open s 0 ≡ got d e → 1 ≤ e
unfolding Past due ◌>>=◌ pure
due_past true s {d} {e} h = subst (Past 1) h (then_past 1 (asked s 0) (λ a n. got (asks a) n) (asked_past s) (λ a n. omega arith))
due_past false s {d} {e} h = subst (Past 1) h (then_past 1 (number s 0) (λ m n. got (opens m) n) (number_past s 0) (λ m n. omega arith))

-- where nothing stands there, more bytes are due
due_none : (is_open : Bool) → due is_open [] 0 ≡ refused (note 1 0)
unfolding due ◌>>=◌ and_then asked number taken decode pick
due_none true = refl
due_none false = refl

some_line : (is_open : Bool) (s : List ℕ) (n : Note) → 0 < length s → last_line is_open s n ≡ stopped_text n.number
unfolding last_line
some_line true s n l = pick_false _ _ (ne_eqb (length s) 0 (λ q. omega arith))
some_line false s n l = pick_false _ _ refl

-- a stream that is damaged stays so, with the same line
pub stopped_more : (is_open : Bool) (s r : List ℕ) (n : Note) → due is_open s 0 ≡ refused n → (n.number ≡ 1 → ⊥)
    → last_line is_open s n ≡ last_line is_open (s ++ r) n
stopped_more is_open [] r n h z =
    let q : refused n ≡ refused (note 1 0) = sym h ∙ due_none is_open in
    let m : n ≡ note 1 0 = cc in
    absurd (z (ap (λ (x : Note). x.number) m))
stopped_more is_open (b ∷ s) r n h z = some_line is_open (b ∷ s) n (omega arith) ∙ sym (some_line is_open (b ∷ s ++ r) n (omega arith))

-- ---- what a turn leaves

-- it wants more bytes: nothing is printed, the shelf is as it was, the input has not ended, and fewer than the longest call's are there
pub record Waiting (sh : Shelf) (s : List ℕ) (ended : Bool) (line : List ℕ) (after : Shelf) : Type 0 where
  pub silent : line ≡ []
  pub same : after ≡ sh
  pub going : ended ≡ false
  pub few : length s < call_most

-- it is the last: where it stops with 1 the input has ended
abbrev Final : Shelf → List ℕ → Bool → List ℕ → Type 0
Final sh s ended line = (e : Ends sh s line) × (e.why.number ≡ 1 → ended ≡ false → ⊥)

not_served : (b : Bool) → Served ≡ pick b Wants Last → ⊥
unfolding pick
not_served true q = let z : ◌≡◌ {A = ℕ} 0 1 = cc in omega arith
not_served false q = let z : ◌≡◌ {A = ℕ} 0 1 = cc in omega arith

is_wants : (b : Bool) → Wants ≡ pick b Wants Last → b ≡ true
unfolding pick
is_wants true q = refl
is_wants false q = absurd (let z : ◌≡◌ {A = ℕ} 0 1 = cc in omega arith)

is_last : (b : Bool) → Last ≡ pick b Wants Last → b ≡ false
unfolding pick
is_last true q = absurd (let z : ◌≡◌ {A = ℕ} 0 1 = cc in omega arith)
is_last false q = refl

not_true : (b : Bool) → not b ≡ true → b ≡ false
not_true true q = sym q
not_true false q = refl

module _ (sh : Shelf) (s : List ℕ) (ended : Bool) (used : ℕ) (line : List ℕ) (after : Shelf) where
  whole_at : (o : Out Due) → due (opened sh) s 0 ≡ o → Comes sh s ended o Served used line after
      → Whole sh s line after (drop used s) × (used ≤ length s)
  unfolding Comes
  whole_at (got d e) h c = (
    record { what = d; end = e; read = h; done = c.2; rest = ap (λ (k : ℕ). drop k s) c.1 },
    omega (arith, c.1, due_within (opened sh) s h),
  )
  whole_at (refused n) h c = absurd (not_served (waits ended n) c.0)

  wants_at : (o : Out Due) → due (opened sh) s 0 ≡ o → Comes sh s ended o Wants used line after → Waiting sh s ended line after
  unfolding Comes waits
  wants_at (got d e) h c = absurd (let q : Wants ≡ Served = c.0 in let z : ◌≡◌ {A = ℕ} 0 1 = cc in omega arith)
  wants_at (refused n) h c =
      let t : waits ended n ≡ true = is_wants (waits ended n) c.0 in
      let p = both (eqb n.number 1) (not ended) t in
      record {
        silent = c.2 ∙ pick_true _ _ t;
        same = c.3;
        going = not_true ended p.1;
        few = due_longest (opened sh) s n h (eqb-true n.number 1 p.0);
      }

  last_at : (o : Out Due) → due (opened sh) s 0 ≡ o → Comes sh s ended o Last used line after → Final sh s ended line
  unfolding Comes waits
  last_at (got d e) h c = absurd (let q : Last ≡ Served = c.0 in let z : ◌≡◌ {A = ℕ} 0 1 = cc in omega arith)
  last_at (refused n) h c =
      let f : waits ended n ≡ false = is_last (waits ended n) c.0 in (
        record { why = n; read = h; line = c.2 ∙ pick_false _ _ f },
        λ one going.
            let x : waits ended n ≡ true = ap (λ (b : Bool). waits b n) going ∙ ap (λ (m : ℕ). eqb m 1 && true) one in
            let y : true ≡ false = sym x ∙ f in
            let z : ◌≡◌ {A = ℕ} 0 1 = cc in omega arith,
      )

module _ {sh : Shelf} {s : List ℕ} {ended : Bool} {used : ℕ} {line : List ℕ} {after : Shelf} where
  pub turns_whole : Turns sh s ended Served used line after → Whole sh s line after (drop used s)
  turns_whole t = (whole_at sh s ended used line after (due (opened sh) s 0) refl t.comes).0

  -- the bytes used are there
  pub turns_used : Turns sh s ended Served used line after → used ≤ length s
  turns_used t = (whole_at sh s ended used line after (due (opened sh) s 0) refl t.comes).1

  pub turns_wants : Turns sh s ended Wants used line after → Waiting sh s ended line after
  turns_wants t = wants_at sh s ended used line after (due (opened sh) s 0) refl t.comes

  pub turns_last : Turns sh s ended Last used line after → Final sh s ended line
  turns_last t = last_at sh s ended used line after (due (opened sh) s 0) refl t.comes

-- what `serve` promises is a turn
pub turned_turns : {sh : Shelf} {s : List ℕ} {ended : Bool} {out after : List ℕ} (r : Turn)
    (w : Turned sh s ended (due (opened sh) s 0) out r after) {n : Next} → r.next ≡ n
    → Turns sh s ended n r.used w.line r.shelf
turned_turns {sh} {s} {ended} r w q =
    subst (λ (x : Next). Turns sh s ended x r.used w.line r.shelf) q (record { comes = w.comes })

-- ---- what is due can be done

first_reply : {u v : Unit} {c : Call} {rs : List Reply} → Runs u (c ∷ []) rs v → (r : Reply) × (w : Unit) × Does u c r w
first_reply (replies {v = w} {r = r} d p) = (r, w, d)

pub serves_exists : (sh : Shelf) (d : Due) → Sound (unit_of sh) → (line : List ℕ) × (after : Shelf) × Serves sh d line after
unfolding Serves
serves_exists sh (opens n) h = ([], shelf_of (new_unit n), (refl, refl))
serves_exists sh (asks a) h =
    let w = first_reply (runs_exist (unit_of sh) (call_of a ∷ []) h).2 in
    (line_of a w.0, shelf_of w.1, (w.0, w.1, w.2, refl, refl))

-- ---- a sound unit stays sound

pub serves_sound : (sh : Shelf) (d : Due) (line : List ℕ) (after : Shelf) → Sound (unit_of sh) → Serves sh d line after
    → Sound (unit_of after)
unfolding Serves
serves_sound sh (opens n) line after h w = subst (λ (x : Shelf). Sound (unit_of x)) (sym w.1) (sound_new n)
serves_sound sh (asks a) line after h w =
    subst (λ (x : Shelf). Sound (unit_of x)) (sym w.4) (does_sound (unit_of sh) (call_of a) w.0 w.1 w.2 h)

-- ---- there is no second answer

pub serves_unique : (sh : Shelf) (d : Due) (x y : List ℕ) (a b : Shelf) → Serves sh d x a → Serves sh d y b → (x ≡ y) × (a ≡ b)
unfolding Serves
serves_unique sh (opens n) x y a b p q = (p.0 ∙ sym q.0, p.1 ∙ sym q.1)
serves_unique sh (asks c) x y a b p q =
    let n : (p.0 ≡ q.0) × (p.1 ≡ q.1) = does_unique (unit_of sh) (call_of c) p.0 q.0 p.1 q.1 p.2 q.2 in
    (p.3 ∙ ap (line_of c) n.0 ∙ sym q.3, p.4 ∙ ap shelf_of n.1 ∙ sym q.4)

comes_unique : (sh : Shelf) (s : List ℕ) (ended : Bool) (o : Out Due) (m n : Next) (i j : ℕ) (x y : List ℕ) (a b : Shelf)
    → Comes sh s ended o m i x a
    → Comes sh s ended o n j y b → (m ≡ n) × (i ≡ j) × (x ≡ y) × (a ≡ b)
unfolding Comes
comes_unique sh s ended (got d e) m n i j x y a b p q =
    let u : (x ≡ y) × (a ≡ b) = serves_unique sh d x y a b p.2 q.2 in
    (p.0 ∙ sym q.0, p.1 ∙ sym q.1, u.0, u.1)
comes_unique sh s ended (refused k) m n i j x y a b p q = (p.0 ∙ sym q.0, p.1 ∙ sym q.1, p.2 ∙ sym q.2, p.3 ∙ sym q.3)

same_turn : {m n : Next} {i j k l : ℕ} {a b : Shelf} → m ≡ n → i ≡ j → k ≡ l → a ≡ b
    → ◌≡◌ {A = Turn} (record { next = m; used = i; length = k; shelf = a }) (record { next = n; used = j; length = l; shelf = b })
same_turn p q r s = cc

pub turn_unique : (sh : Shelf) (s : List ℕ) (ended : Bool) (o : Out Due) (out : List ℕ) (a b : Turn) (x y : List ℕ)
    → Turned sh s ended o out a x
    → Turned sh s ended o out b y → (a ≡ b) × (x ≡ y)
turn_unique sh s ended o out a b x y v w =
    let c : (a.next ≡ b.next) × (a.used ≡ b.used) × (v.line ≡ w.line) × (a.shelf ≡ b.shelf) =
    comes_unique sh s ended o a.next b.next a.used b.used v.line w.line a.shelf b.shelf v.comes w.comes in
    let p : (a.length ≡ b.length) × (x ≡ y) =
    printed_unique w.line out a.length b.length x y (printed_same c.2 v.printed) w.printed in
    (same_turn c.0 c.1 p.0 c.3, p.1)
