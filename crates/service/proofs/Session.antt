-- Laws of all the bytes of an input: they have one text, and in whatever pieces they come, that is what is printed.
--     says_unique, says_exists     a whole input has one text; every input has one
--     says_more                    where the stream is damaged, bytes that come later change nothing
--     fed_says, says_fed           what is printed for pieces is what all of them say together, and the other way round
--     so_far_start .. so_far_says  the loop, turn by turn
use mathlib.Core.Path.{◌≡◌, refl, sym, ap, ◌∙◌, subst}
use mathlib.Core.Bool.{Bool, true, false, ◌&&◌}
use mathlib.Core.List.{List, [], ◌∷◌, ◌++◌, flatten, append_assoc, append-nil}
use Prim.Native.Nat.{ℕ, zero, suc, ◌+◌, ◌≤◌, ◌<◌}
use native.Mathlib.Omega.{arith}
use lib.Dec.{eqb}
use lib.ListN.{length, drop, length-append, length-drop}
use lib.Seq.{drop-append-le}
use Rattle.basics.specs.Choice.{pick}
use Rattle.basics.proofs.Choice.{pick_true, pick_false}
use Rattle.basics.proofs.Tests.{by_cases}
use Rattle.field.specs.Sheet.{Note, Out, got, refused}
use Rattle.unit.specs.Sound.{Sound}
use Rattle.unit.proofs.Sound.{sound_new}
use Rattle.stream.proofs.Steady.{steady_got, steady_refused}
use Rattle.service.specs.declared.Next.{Next}
use Rattle.service.specs.declared.Next.TheVariants.{Served, Wants, Done as Last}
use Rattle.service.specs.declared.Shelf.{Shelf}
use Rattle.service.specs.Shelf.{Due, due, closed, opened, unit_of, Serves, last_line, waits, Comes}
use Rattle.service.specs.Session.{Whole, Ends, Says, last, next, Turns, Fed, served, takes, told, stopped, over, SoFar}
use Rattle.service.proofs.Turns.{due_steady, due_within, due_past, stopped_more, serves_unique, serves_sound, serves_exists}
use Rattle.service.proofs.Turns.{turns_whole, turns_wants, turns_last}

-- ---- bytes that come later

whole_more : {sh : Shelf} {s line : List ℕ} {after : Shelf} {left : List ℕ} (r : List ℕ) → Whole sh s line after left
    → Whole sh (s ++ r) line after (left ++ r)
whole_more {sh} {s} r w =
    let m : (due (opened sh) (s ++ r) 0 ≡ got w.what w.end)
    × (w.end ≤ length s) = steady_got (due_steady (opened sh)) s r w.read in
    record {
      what = w.what;
      end = w.end;
      read = m.0;
      done = w.done;
      rest = ap (λ (x : List ℕ). x ++ r) w.rest ∙ sym (drop-append-le w.end s r m.1);
    }

ends_more : {sh : Shelf} {s text : List ℕ} (r : List ℕ) (e : Ends sh s text) → (e.why.number ≡ 1 → ⊥) → Ends sh (s ++ r) text
ends_more {sh} {s} r e z =
    record {
      why = e.why;
      read = steady_refused (due_steady (opened sh)) s r e.read z;
      line = e.line ∙ stopped_more (opened sh) s r e.why e.read z;
    }

-- the number with which the stream stops
pub why : {sh : Shelf} {s text : List ℕ} → Says sh s text → ℕ
why (last e) = e.why.number
why (next w p) = why p

pub says_more : {sh : Shelf} {s text : List ℕ} (r : List ℕ) (w : Says sh s text) → (why w ≡ 1 → ⊥) → Says sh (s ++ r) text
unfolding why
says_more r (last e) z = last (ends_more r e z)
says_more r (next w p) z = next (whole_more r w) (says_more r p z)

-- ---- one text

whole_unique : {sh : Shelf} {s x y : List ℕ} {a b : Shelf} {l m : List ℕ} → Whole sh s x a l → Whole sh s y b m
    → (x ≡ y) × (a ≡ b) × (l ≡ m)
whole_unique {sh} {s} {x} {y} {a} {b} v w =
    let q : got v.what v.end ≡ got w.what w.end = sym v.read ∙ w.read in
    let d : v.what ≡ w.what = cc in
    let e : v.end ≡ w.end = cc in
    let n : (x ≡ y) × (a ≡ b) = serves_unique sh w.what x y a b (subst (λ (z : Due). Serves sh z x a) d v.done) w.done in
    (n.0, n.1, v.rest ∙ ap (λ (z : ℕ). drop z s) e ∙ sym w.rest)

-- where something whole stands the input has not ended
no_end : {sh : Shelf} {s line : List ℕ} {after : Shelf} {left text : List ℕ} → Whole sh s line after left → Ends sh s text → ⊥
no_end w e =
    let h : got w.what w.end ≡ refused e.why = sym w.read ∙ e.read in
    let z : ◌≡◌ {A = ℕ} 0 1 = cc in
    omega arith

ends_unique : (sh : Shelf) (s x y : List ℕ) → Ends sh s x → Ends sh s y → x ≡ y
ends_unique sh s x y p q =
    let h : refused p.why ≡ refused q.why = sym p.read ∙ q.read in
    let n : p.why ≡ q.why = cc in
    p.line ∙ ap (last_line (opened sh) s) n ∙ sym q.line

pub says_unique : (sh : Shelf) (s x y : List ℕ) → Says sh s x → Says sh s y → x ≡ y
says_unique sh s x y (last e) (last f) = ends_unique sh s x y e f
says_unique sh s x _ (last e) (next w q) = absurd (no_end w e)
says_unique sh s _ y (next w p) (last f) = absurd (no_end w f)
says_unique sh s _ _ (next {line = a} {left = k} {text = t} v p) (next {after = m} {line = b} {left = l} {text = u} w q) =
    let c = whole_unique v w in
    let r : Says m l t = subst (λ (z : List ℕ). Says m z t) c.2 (subst (λ (z : Shelf). Says z k t) c.1 p) in
    ap (λ (z : List ℕ). z ++ t) c.0 ∙ ap (λ (z : List ℕ). b ++ z) (says_unique m l t u r q)

-- ---- in whatever pieces

-- once it was told that the input has ended, no pieces are to come
none_follow : {sh : Shelf} {s text : List ℕ} {ended : Bool} {pieces : List (List ℕ)} → Fed sh s ended pieces text → ended ≡ true
    → pieces ≡ []
none_follow (served t f) q = none_follow f q
none_follow (takes t f) q = absurd (let z : ◌≡◌ {A = ℕ} 0 1 = cc in omega arith)
none_follow (told t f) q = refl
none_follow (stopped t) q = absurd (let z : ◌≡◌ {A = ℕ} 0 1 = cc in omega arith)
none_follow (over t) q = refl

-- more bytes were wanted: nothing was printed, and the shelf is as it was
says_wants : {sh after : Shelf} {s line text x : List ℕ} {ended : Bool} {used : ℕ} → Turns sh s ended Wants used line after
    → Says after x text → Says sh x (line ++ text)
says_wants {sh} {after} {s} {line} {text} {x} t p =
    let w = turns_wants t in
    subst (Says sh x) (sym (ap (λ (z : List ℕ). z ++ text) w.silent)) (subst (λ (z : Shelf). Says z x text) w.same p)

pub fed_says : {sh : Shelf} {s text : List ℕ} {ended : Bool} {pieces : List (List ℕ)} → Fed sh s ended pieces text
    → Says sh (s ++ flatten pieces) text
unfolding flatten
fed_says (served {pieces = ps} t f) = next (whole_more (flatten ps) (turns_whole t)) (fed_says f)
fed_says (takes {after = m} {s = s} {text = text} {piece = p} {pieces = ps} t f) =
    says_wants t (subst (λ (z : List ℕ). Says m z text) (append_assoc s p (flatten ps)) (fed_says f))
fed_says (told t f) = says_wants t (fed_says f)
fed_says (stopped {pieces = ps} t) = let e = turns_last t in last (ends_more (flatten ps) e.0 (λ q. e.1 q refl))
fed_says (over {sh = sh} {s = s} {line = line} t) = last (subst (λ (z : List ℕ). Ends sh z line) (sym (append-nil s)) (turns_last t).0)

-- ---- every input has a text

-- what is still to be done: bytes, pieces, and to be told the end
size : List ℕ → Bool → List (List ℕ) → ℕ
size s ended pieces = length s + length (flatten pieces) + length pieces + pick ended 0 1

-- of all that takes fewer than so many steps
abbrev Every : ℕ → Type 0
Every k = (sh : Shelf) (s : List ℕ) (ended : Bool) (pieces : List (List ℕ)) → Sound (unit_of sh) → (ended ≡ true → pieces ≡ [])
    → size s ended pieces < k → (text : List ℕ) × Fed sh s ended pieces text

turns_as : (sh : Shelf) (s : List ℕ) (ended : Bool) (n : Next) (used : ℕ) (line : List ℕ) (after : Shelf) {o : Out Due}
    → due (opened sh) s 0 ≡ o → Comes sh s ended o n used line after → Turns sh s ended n used line after
turns_as sh s ended n used line after h c = record { comes = subst (λ (x : Out Due). Comes sh s ended x n used line after) (sym h) c }

waits_ended : (n : Note) → waits true n ≡ false
unfolding waits
waits_ended n = by_cases (eqb n.number 1) (λ t. ap (λ (b : Bool). b && false) t) (λ f. ap (λ (b : Bool). b && false) f)

module _ (sh : Shelf) (s : List ℕ) (h : Sound (unit_of sh)) where
  -- nothing whole stands there
  module _ (ended : Bool) (n : Note) (q : due (opened sh) s 0 ≡ refused n) where
    wanting : waits ended n ≡ true → Turns sh s ended Wants 0 [] sh
    unfolding Comes
    wanting t = turns_as sh s ended Wants 0 [] sh q (sym (pick_true _ _ t), refl, sym (pick_true _ _ t), refl)

    ending : waits ended n ≡ false → Turns sh s ended Last 0 (last_line (opened sh) s n) sh
    unfolding Comes
    ending f = turns_as sh s ended Last 0 _ sh q (sym (pick_false _ _ f), refl, sym (pick_false _ _ f), refl)

  module _ (k : ℕ) (every : Every k) where
    on_got : (ended : Bool) (pieces : List (List ℕ)) (d : Due) (e : ℕ) → due (opened sh) s 0 ≡ got d e → (ended ≡ true → pieces ≡ [])
        → size s ended pieces < suc k → (text : List ℕ) × Fed sh s ended pieces text
    unfolding Comes size
    on_got ended pieces d e q z l =
        let w = serves_exists sh d h in
        let f = every w.1 (drop e s) ended pieces (serves_sound sh d w.0 w.1 h w.2) z
        (omega (arith, length-drop e s, due_within (opened sh) s q, due_past (opened sh) s q)) in
        (w.0 ++ f.0, served (turns_as sh s ended Served e w.0 w.1 q (refl, refl, w.2)) f.1)

    on_refused : (ended : Bool) (pieces : List (List ℕ)) (n : Note) → due (opened sh) s 0 ≡ refused n → (ended ≡ true → pieces ≡ [])
        → size s ended pieces < suc k → (text : List ℕ) × Fed sh s ended pieces text
    unfolding size flatten pick
    on_refused true pieces n q z l =
        subst (λ (ps : List (List ℕ)). (text : List ℕ) × Fed sh s true ps text) (sym (z refl)) (_, over (ending true n q (waits_ended n)))
    on_refused false [] n q z l =
        by_cases (waits false n)
        (λ t. let f = every sh s true [] h (λ _. refl) (omega arith) in (f.0, told (wanting false n q t) f.1))
        (λ f. (_, stopped (ending false n q f)))
    on_refused false (p ∷ ps) n q z l =
        by_cases (waits false n)
        (λ t.
        let f = every sh (s ++ p) false ps h (λ x. absurd (let y : ◌≡◌ {A = ℕ} 0 1 = cc in omega arith))
        (omega (arith, length-append s p, length-append p (flatten ps))) in
        (f.0, takes (wanting false n q t) f.1))
        (λ f. (_, stopped (ending false n q f)))

    on_all : (o : Out Due) → due (opened sh) s 0 ≡ o → (ended : Bool) (pieces : List (List ℕ)) → (ended ≡ true → pieces ≡ [])
        → size s ended pieces < suc k → (text : List ℕ) × Fed sh s ended pieces text
    on_all (got d e) q ended pieces z l = on_got ended pieces d e q z l
    on_all (refused n) q ended pieces z l = on_refused ended pieces n q z l

every : (k : ℕ) → Every k
every zero sh s ended pieces h z l = absurd (omega arith)
every (suc k) sh s ended pieces h z l = on_all sh s h k (every k) (due (opened sh) s 0) refl ended pieces z l

-- whatever the pieces, the loop comes to an end
pub fed_exists : (sh : Shelf) (pieces : List (List ℕ)) → Sound (unit_of sh) → (text : List ℕ) × Fed sh [] false pieces text
fed_exists sh pieces h =
    every (suc (size [] false pieces)) sh [] false pieces h (λ x. absurd (let y : ◌≡◌ {A = ℕ} 0 1 = cc in omega arith)) (omega arith)

pub says_exists : (sh : Shelf) (s : List ℕ) → Sound (unit_of sh) → (text : List ℕ) × Says sh s text
unfolding flatten
says_exists sh s h =
    let w = every (suc (size s true [])) sh s true [] h (λ _. refl) (omega arith) in
    (w.0, subst (λ (x : List ℕ). Says sh x w.0) (append-nil s) (fed_says w.1))

-- what all the pieces say together is what is printed for them
pub says_fed : (sh : Shelf) (pieces : List (List ℕ)) (text : List ℕ) → Sound (unit_of sh) → Says sh (flatten pieces) text
    → Fed sh [] false pieces text
says_fed sh pieces text h p =
    let w = fed_exists sh pieces h in
    subst (Fed sh [] false pieces) (says_unique sh (flatten pieces) w.0 text (fed_says w.1) p) w.1

-- ---- the loop, turn by turn

pub closed_sound : Sound (unit_of closed)
closed_sound = sound_new 0

-- nothing is read yet
pub so_far_start : SoFar closed [] false
so_far_start = record { taken = []; text = []; goes_on = λ pieces more f. f }

-- with a line more printed
and_then : (text line more : List ℕ) (pieces : List (List ℕ)) → Fed closed [] false pieces (text ++ (line ++ more))
    → Fed closed [] false pieces ((text ++ line) ++ more)
and_then text line more pieces f = subst (Fed closed [] false pieces) (sym (append_assoc text line more)) f

-- a turn was served
pub so_far_served : {sh : Shelf} {s : List ℕ} {ended : Bool} {used : ℕ} {line : List ℕ} {after : Shelf} → SoFar sh s ended
    → Turns sh s ended Served used line after → SoFar after (drop used s) ended
so_far_served {line = line} w t =
    record {
      taken = w.taken;
      text = w.text ++ line;
      goes_on = λ pieces more f. and_then w.text line more (w.taken ++ pieces) (w.goes_on pieces (line ++ more) (served t f));
    }

module _ {sh : Shelf} {s : List ℕ} {used : ℕ} {line : List ℕ} {after : Shelf} (w : SoFar sh s false)
    (t : Turns sh s false Wants used line after) where
  -- more bytes were wanted, and a piece came
  pub so_far_took : (piece : List ℕ) → SoFar after (s ++ piece) false
  so_far_took piece =
      record {
        taken = w.taken ++ (piece ∷ []);
        text = w.text ++ line;
        goes_on = λ pieces more f.
            and_then w.text line more ((w.taken ++ (piece ∷ [])) ++ pieces)
            (subst (λ (x : List (List ℕ)). Fed closed [] false x (w.text ++ (line ++ more)))
            (sym (append_assoc w.taken (piece ∷ []) pieces))
            (w.goes_on (piece ∷ pieces) (line ++ more) (takes t f)));
      }

  -- more bytes were wanted, and the input has ended
  pub so_far_told : SoFar after s true
  so_far_told =
      record {
        taken = w.taken;
        text = w.text ++ line;
        goes_on = λ pieces more f.
            let none : pieces ≡ [] = none_follow f refl in
            and_then w.text line more (w.taken ++ pieces)
            (subst (λ (x : List (List ℕ)). Fed closed [] false (w.taken ++ x) (w.text ++ (line ++ more))) (sym none)
            (w.goes_on [] (line ++ more) (told t (subst (λ (x : List (List ℕ)). Fed after s true x more) none f))));
      }

-- the last turn: what was printed is what all the pieces say, with any that would have followed had the input not ended
pub so_far_says : {sh : Shelf} {s : List ℕ} (ended : Bool) {used : ℕ} {line : List ℕ} {after : Shelf} (w : SoFar sh s ended)
    → Turns sh s ended Last used line after → (pieces : List (List ℕ)) → (ended ≡ true → pieces ≡ [])
    → Says closed (flatten (w.taken ++ pieces)) (w.text ++ line)
so_far_says false {line = line} w t pieces z = fed_says (w.goes_on pieces line (stopped t))
so_far_says true {line = line} w t pieces z =
    subst (λ (x : List (List ℕ)). Says closed (flatten (w.taken ++ x)) (w.text ++ line)) (sym (z refl))
    (fed_says (w.goes_on [] line (over t)))
