-- Laws of a turn: the line of each outcome, of a request, of a question; what a turn leaves.
use mathlib.Core.Path.{◌≡◌, refl, sym, ap, ap₂, ◌∙◌, subst}
use mathlib.Core.Bool.{Bool, true, false, ◌&&◌}
use mathlib.Core.List.{List, [], ◌∷◌, ◌++◌}
use Prim.Native.Nat.{ℕ, zero, suc, ◌≤◌}
use native.Mathlib.Omega.{arith}
use lib.Dec.{eqb}
use lib.ListN.{length, take, replicate, length-append}
use lib.Seq.{take-append-le}
use Rattle.std.specs.Prelude.{Option, Some, Result, Ok, Err}
use Rattle.basics.proofs.Choice.{pick_true, pick_false}
use Rattle.field.specs.declared.Fault.{Fault}
use Rattle.field.specs.Refusal.{number_of}
use Rattle.field.specs.Send.{told_written}
use Rattle.field.specs.Sheet.{Note, Out, got, refused}
use Rattle.unit.specs.declared.Done.{Done}
use Rattle.unit.specs.declared.Requested.{Requested}
use Rattle.unit.specs.declared.Unit.{Unit}
use Rattle.hire.specs.Calls.{asking, said, planned, explained, Does}
use Rattle.unit.specs.Life.{Verdict, accepted, refused as denied}
use Rattle.unit.specs.Request.{asked_of, Replied}
use Rattle.unit.specs.Told.{told_verdict}
use Rattle.unit.specs.Unit.{new_unit}
use Rattle.hire.proofs.Runs.{request_does}
use Rattle.unit.proofs.Replies.{replied_within}
use Rattle.reason.specs.declared.Reason.{Reason}
use Rattle.reason.specs.Reason.{numbered, timed}
use Rattle.why.specs.Why.{within, Explains, told_why}
use Rattle.stream.specs.Call.{Asked, requests, whys}
use Rattle.line.specs.declared.Word.{Word}
use Rattle.line.specs.declared.Word.TheVariants.{Reason as Tells}
use Rattle.line.specs.Line.{spoken, refused_at_text, stopped_text, sheet_line}
use Rattle.line.specs.Printed.{Printed}
use Rattle.line.proofs.Adding.{no_line}
use Rattle.line.proofs.Lines.{printed_same}
use Rattle.service.specs.declared.Next.TheVariants.{Served, Wants, Done as Last}
use Rattle.service.specs.declared.Shelf.{Shelf}
use Rattle.service.specs.declared.Turn.{Turn}
use Rattle.service.specs.Shelf.{Due, opens, asks, due, is_there, opened, or_new, unit_of, shelf_of, call_of, accepted_line, line_of}
use Rattle.service.specs.Shelf.{Serves, last_line, waits, Comes, Turned}
use Rattle.service.specs.Parts.{verdict_line, Answers, Answered}

-- ---- the lines

-- a call's verdict is printed by its word
said_line : (a : Asked) (w : Word) (v : Verdict) → accepted_line a ≡ spoken w → line_of a (said v) ≡ verdict_line w v
unfolding line_of
said_line a w accepted q = q
said_line a w (denied n) q = refl

pub answers_said : {u : Unit} {a : Asked} (w : Word) (d : Done) → accepted_line a ≡ spoken w
    → Does u (call_of a) (said (told_verdict d.answer)) d.unit → {out after : List ℕ} {n : ℕ}
    → Printed (verdict_line w (told_verdict d.answer)) out n after → Answers u a out n d.unit after
answers_said {a = a} w d q k p =
    record { reply = said (told_verdict d.answer); does = k; printed = printed_same (sym (said_line a w (told_verdict d.answer) q)) p }

-- ---- a request

-- what lies within a lent part lies within the whole
pub part_within : (ys zs : List ℕ) {k : ℕ} → k ≤ length ys → k ≤ length (ys ++ zs)
part_within ys zs h = omega (arith, length-append ys zs)

take_zeros : (k n : ℕ) → k ≤ n → take {A = ℕ} k (replicate n 0) ≡ replicate k 0
take_zeros zero n h = refl
take_zeros (suc k) zero h = absurd (omega arith)
take_zeros (suc k) (suc n) h = ap (λ (z : List ℕ). 0 ∷ z) (take_zeros k n (omega arith))

-- the reply to a request, from what the unit promises
module _ (u : Unit) (room : ℕ) (s out : List ℕ) (m : out ≡ replicate room 0) (r : Requested) (after : List ℕ)
    (a : Replied u s out r after) where
  replies : Does u (call_of (requests room s)) (planned (told_written r.answer) after) u
  unfolding call_of
  replies =
      subst (λ (z : List ℕ). Does u (asking s z) (planned (told_written r.answer) after) u) m
      (subst (Does u (asking s out) (planned (told_written r.answer) after)) a.same (request_does a))

  module _ {buf buf' : List ℕ} {n : ℕ} where
    -- its line, where the answer is known
    plans : (x : Result ℕ Fault) → r.answer ≡ x → Printed (line_of (requests room s) (planned (told_written x) after)) buf n buf'
        → Answers u (requests room s) buf n u buf'
    plans x q p =
        record {
          reply = planned (told_written r.answer) after;
          does = replies;
          printed = printed_same (ap (λ y. line_of (requests room s) (planned (told_written y) after)) (sym q)) p;
        }

    pub request_sent : (k : ℕ) → r.answer ≡ Ok k → (zs : List ℕ) → length after ≡ length out
        → Printed (sheet_line (take k (after ++ zs))) buf n buf' → Answers u (requests room s) buf n u buf'
    unfolding line_of
    request_sent k q zs l p =
        let w : k ≤ length after = omega (arith, replied_within a q) in
        plans (Ok k) q (printed_same (ap sheet_line (take-append-le k after zs w)) p)

    pub request_kept : (e : Fault) → r.answer ≡ Err e
        → Printed (refused_at_text (number_of e.refusal) e.place) buf n buf' → Answers u (requests room s) buf n u buf'
    unfolding line_of
    request_kept e q p = plans (Err e) q p

-- the buffer that is lent, out of all of it
pub lent : (room most : ℕ) → room ≤ most → take {A = ℕ} room (replicate most 0) ≡ replicate room 0
lent room most h = take_zeros room most h

-- ---- a question why

-- the reply, from what is promised of the answer
module _ (u : Unit) (b d : ℕ) (s : List ℕ) (r : Result Reason Fault) (a : Explains (within (asked_of u s) b d) b d (told_why r))
    {buf buf' : List ℕ} {n : ℕ} where
  -- its line, where the answer is known
  reasoned : (x : Result Reason Fault) → r ≡ x → Printed (line_of (whys b d s) (explained (told_why x))) buf n buf'
      → Answers u (whys b d s) buf n u buf'
  unfolding call_of Does
  reasoned x q p =
      record {
        reply = explained (told_why r);
        does = (told_why r, a, refl, refl);
        printed = printed_same (ap (λ y. line_of (whys b d s) (explained (told_why y))) (sym q)) p;
      }

  pub why_told : (x : Reason) → r ≡ Ok x → {k t : ℕ} → k ≡ numbered x → t ≡ timed x → Printed (spoken (Tells k t)) buf n buf'
      → Answers u (whys b d s) buf n u buf'
  unfolding line_of
  why_told x q e f p = reasoned (Ok x) q (printed_same (ap₂ (λ (k t : ℕ). spoken (Tells k t)) e f) p)

  pub why_refused : (e : Fault) → r ≡ Err e → Printed (refused_at_text (number_of e.refusal) e.place) buf n buf'
      → Answers u (whys b d s) buf n u buf'
  unfolding line_of
  why_refused e q p = reasoned (Err e) q p

-- ---- nothing whole is there

module _ (sh : Shelf) (s : List ℕ) (ended : Bool) (n : Note) where
  pub turned_wants : (out : List ℕ) → waits ended n ≡ true
      → Turned sh s ended (refused n) out (record { next = Wants; used = 0; length = 0; shelf = sh }) out
  unfolding Comes
  turned_wants out q = record { line = []; comes = (sym (pick_true _ _ q), refl, sym (pick_true _ _ q), refl); printed = no_line out }

  module _ (q : waits ended n ≡ false) where
    done : (line : List ℕ) {out after : List ℕ} {k : ℕ} → line ≡ last_line (opened sh) s n → Printed line out k after
        → Turned sh s ended (refused n) out (record { next = Last; used = 0; length = k; shelf = sh }) after
    unfolding Comes
    done line e p = record { line = line; comes = (sym (pick_false _ _ q), refl, e ∙ sym (pick_false _ _ q), refl); printed = p }

    pub turned_clean : (out : List ℕ) → (opened sh && eqb (length s) 0) ≡ true
        → Turned sh s ended (refused n) out (record { next = Last; used = 0; length = 0; shelf = sh }) out
    unfolding last_line
    turned_clean out h = done [] (sym (pick_true _ _ h)) (no_line out)

    pub turned_stopped : {out after : List ℕ} {k : ℕ} → (opened sh && eqb (length s) 0) ≡ false
        → Printed (stopped_text n.number) out k after
        → Turned sh s ended (refused n) out (record { next = Last; used = 0; length = k; shelf = sh }) after
    unfolding last_line
    turned_stopped h p = done (stopped_text n.number) (sym (pick_false _ _ h)) p

-- ---- what stands whole

-- what is due, where it is known whether the unit's number was read
pub due_as : (sh : Shelf) (s : List ℕ) {x : Option Unit} → sh.unit ≡ x → due (opened sh) s 0 ≡ due (is_there x) s 0
due_as sh s e = ap (λ x. due (is_there x) s 0) e

-- the same for another reading that gives the same
pub turned_same : {sh : Shelf} {s : List ℕ} {ended : Bool} {o q : Out Due} {out after : List ℕ} {t : Turn} → q ≡ o
    → Turned sh s ended o out t after → Turned sh s ended q out t after
turned_same {sh} {s} {ended} {o} {q} {out} {after} {t} e w = subst (λ (x : Out Due). Turned sh s ended x out t after) (sym e) w

-- the unit's number
pub turned_opened : (sh : Shelf) (s : List ℕ) (ended : Bool) {o : Out Due} (out : List ℕ) {n e : ℕ} {u : Unit} → o ≡ got (opens n) e
    → u ≡ new_unit n → Turned sh s ended o out (record { next = Served; used = e; length = 0; shelf = shelf_of u }) out
unfolding Comes Serves
turned_opened sh s ended out h q =
    turned_same h (record { line = []; comes = (refl, refl, (refl, ap shelf_of q)); printed = no_line out })

-- a call
answers_there : (sh : Shelf) {u v : Unit} {a : Asked} {out after : List ℕ} {n : ℕ} → sh.unit ≡ Some u → Answers u a out n v after
    → Answers (unit_of sh) a out n v after
answers_there sh {v = v} {a = a} {out = out} {after = after} {n = n} e w = subst (λ x. Answers (or_new x) a out n v after) (sym e) w

pub turned_answered : (sh : Shelf) (s : List ℕ) (ended : Bool) {o : Out Due} {a : Asked} {e : ℕ} {out after : List ℕ} {u : Unit} {t : Turn}
    → o ≡ got (asks a) e → sh.unit ≡ Some u → Answered u a e out t after → Turned sh s ended o out t after
unfolding Comes Serves
turned_answered sh s ended {a = a} h q p =
    let w = answers_there sh q p.answers in
    let k = p.ends in
    turned_same h (record { line = line_of a w.reply; comes = (k.0, k.1, (w.reply, p.unit, w.does, refl, k.2)); printed = w.printed })
