-- The loop's invariant, and that each way through the loop keeps it.
--     Holds                 the pieces that were read, the lines that were printed, and the bytes left at the start of the buffer
--     holds_start           nothing is read
--     used_within, holds_served     the bytes used are there; they are gone
--     room_left             a buffer without a whole call is not full
--     holds_came, holds_told     bytes that came are a piece more; the input has ended
--     holds_as              the invariant by other names
--     holds_says            what was printed is what all the pieces say, whatever would have followed
use mathlib.Core.Path.{◌≡◌, refl, sym, ap, ◌∙◌, subst}
use mathlib.Core.Bool.{Bool, true, false}
use mathlib.Core.List.{List, [], ◌++◌, flatten}
use Prim.Native.Nat.{ℕ, ◌+◌, ◌≤◌, ◌<◌}
use native.Mathlib.Omega.{arith}
use lib.ListN.{length, take, drop}
use lib.Seq.{length-take-le, take-add}
use Rattle.unit.specs.Sound.{Sound}
use Rattle.service.specs.declared.Next.TheVariants.{Served, Wants}
use Rattle.service.specs.declared.Next.TheVariants.{Done as Last}
use Rattle.service.specs.declared.Shelf.{Shelf}
use Rattle.service.specs.declared.Turn.{Turn}
use Rattle.service.specs.Shelf.{due, closed, opened, unit_of, Turned}
use Rattle.service.specs.Session.{Turns, Says, SoFar}
use Rattle.service.proofs.Turns.{Waiting, turned_turns, turns_whole, turns_used, turns_wants, serves_sound}
use Rattle.service.proofs.Session.{closed_sound, so_far_start, so_far_served, so_far_took, so_far_told, so_far_says}
use Rattle.std.specs.Prelude.{Result, Ok}
use Rattle.wire.specs.declared.Input.{Input}
use Rattle.wire.specs.declared.Failed.{Failed}
use Rattle.wire.specs.Input.{came, Reads}
use Rattle.shelf.specs.Parts.{Shifts}
use Rattle.stream.specs.Call.{call_most}

pub record Holds (most : ℕ) (sh : Shelf) (buf : List ℕ) (have : ℕ) (ended : Bool) : Type 0 where
  pub so_far : SoFar sh (take have buf) ended
  pub sound : Sound (unit_of sh)
  pub within : have ≤ length buf
  pub size : length buf ≡ most
  pub enough : call_most ≤ most

pub holds_start : {sh : Shelf} (buf : List ℕ) → sh ≡ closed → call_most ≤ length buf → Holds (length buf) sh buf 0 false
holds_start {sh} buf q l =
    record {
      so_far = subst (λ (x : Shelf). SoFar x [] false) (sym q) so_far_start;
      sound = subst (λ (x : Shelf). Sound (unit_of x)) (sym q) closed_sound;
      within = omega arith;
      size = refl;
      enough = l;
    }

-- the same buffer, number of bytes and end, by other names
pub holds_as : {most : ℕ} {sh : Shelf} {buf buf' : List ℕ} {have have' : ℕ} {ended ended' : Bool} → buf' ≡ buf → have' ≡ have
    → ended' ≡ ended → Holds most sh buf have ended → Holds most sh buf' have' ended'
holds_as {most} {sh} {buf} {buf'} {have} {have'} {ended} {ended'} p q e h = rw (p, q, e) h

module _ {most : ℕ} {sh : Shelf} {buf : List ℕ} {have : ℕ} {ended : Bool} (h : Holds most sh buf have ended) {out : List ℕ}
    (r : Turn) {line : List ℕ}
    (t : Turned sh (take have buf) ended (due (opened sh) (take have buf) 0) out r line) where
  there : length (take have buf) ≡ have
  there = length-take-le have buf h.within

  module _ (q : r.next ≡ Served) where
    turn : Turns sh (take have buf) ended Served r.used t.line r.shelf
    turn = turned_turns r t q

    pub used_within : r.used ≤ have
    used_within = omega (arith, turns_used turn, there)

    pub holds_served : {n : ℕ} {after : List ℕ} → Shifts buf r.used have n after → Holds most r.shelf after n ended
    holds_served {n} {after} s =
        let w = turns_whole turn in
        record {
          so_far = subst (λ (x : List ℕ). SoFar r.shelf x ended) (sym s.left) (so_far_served h.so_far turn);
          sound = serves_sound sh w.what t.line r.shelf h.sound w.done;
          within = omega (arith, s.count, s.size, h.within);
          size = s.size ∙ h.size;
          enough = h.enough;
        }

  module _ (q : r.next ≡ Wants) where
    waiting : Waiting sh (take have buf) ended t.line r.shelf
    waiting = turns_wants (turned_turns r t q)

    pub room_left : have < length buf
    room_left = omega (arith, waiting.few, there, h.size, h.enough)

    -- bytes are wanted only while the input has not ended
    so_far : SoFar sh (take have buf) false
    so_far = subst (SoFar sh (take have buf)) waiting.going h.so_far

    turn_wants : Turns sh (take have buf) false Wants r.used t.line r.shelf
    turn_wants =
        subst (λ (x : Bool). Turns sh (take have buf) x Wants r.used t.line r.shelf) waiting.going (turned_turns r t q)

    still_sound : Sound (unit_of r.shelf)
    still_sound = subst (λ (x : Shelf). Sound (unit_of x)) (sym waiting.same) h.sound

    came_behind : (x : Result Input Failed) {after : List ℕ} → Reads buf have x after → Holds most r.shelf after (have + came x) ended
    came_behind x {after} w =
        let piece : List ℕ = take (came x) (drop have after) in
        let all : take have buf ++ piece ≡ take (have + came x) after =
        ap (λ (y : List ℕ). y ++ piece) (sym w.kept) ∙ sym (take-add have (came x) after) in
        record {
          so_far =
              subst (SoFar r.shelf (take (have + came x) after)) (sym waiting.going)
              (subst (λ (y : List ℕ). SoFar r.shelf y false) all (so_far_took so_far turn_wants piece));
          sound = still_sound;
          within = omega (arith, w.within, w.size);
          size = w.size ∙ h.size;
          enough = h.enough;
        }

    pub holds_came : {x : Result Input Failed} (y : Input) {after : List ℕ} → Reads buf have x after → x ≡ Ok y
        → Holds most r.shelf after (have + came (Ok y)) ended
    holds_came {x} y {after} w e = came_behind (Ok y) (subst (λ (z : Result Input Failed). Reads buf have z after) e w)

    pub holds_told : {x : Result Input Failed} {after : List ℕ} → Reads buf have x after → Holds most r.shelf after have true
    holds_told {x} {after} w =
        record {
          so_far = subst (λ (y : List ℕ). SoFar r.shelf y true) (sym w.kept) (so_far_told so_far turn_wants);
          sound = still_sound;
          within = omega (arith, w.within, w.size);
          size = w.size ∙ h.size;
          enough = h.enough;
        }

  -- this turn's line is among what was printed
  pub holds_says : r.next ≡ Last → (pieces : List (List ℕ)) → (ended ≡ true → pieces ≡ [])
      → Says closed (flatten (h.so_far.taken ++ pieces)) (h.so_far.text ++ t.line)
  holds_says q pieces z = so_far_says ended h.so_far (turned_turns r t q) pieces z
