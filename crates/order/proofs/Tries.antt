-- One block asked for lower disks.
--     cut_here, cut_else, cut_fewer     a block's copies cut to some of them
--     off_shifting, try_seeking         what it takes to lift the block off its disk, and to look for a lower one
--     lowered                           it is found
--     back_shifting, stayed             it is not, and the block goes back
use Prim.Native.Nat.{ℕ, ◌+◌, ◌≤◌, ◌<◌}
use mathlib.Core.Path.{◌≡◌, refl, sym, ap, ◌∙◌}
use mathlib.Core.Logic.{inl, inr}
use mathlib.Core.Bool.{true, false}
use mathlib.Core.List.{List}
use native.Mathlib.Omega.{arith}
use lib.Dec.{eqb, ltb}
use lib.ListN.{get_or, set, length}
use lib.Seq.{get_or-set_same, get_or-set_other, set-set, set-get_or, ext_get_or}
use borrow.Author.Tests.{ltb-true, ltb-false, lt-ltb, le-ltb, eqb-true, eqb-false, eq-eqb}
use Rattle.mask.specs.Has.{has}
use Rattle.model.specs.Assignment.{Valid, Within}
use Rattle.basics.proofs.Tests.{by_cases, differ, not_here}
use Rattle.places.specs.Places.{entry, holds, Placed, Moved}
use Rattle.places.specs.Among.{Inside}
use Rattle.places.specs.Seats.{Ringed, Far, Shifting, Shifted}
use Rattle.places.specs.Room.{Open}
use Rattle.search.specs.Outcome.{Seeking, Gained, Blocked}
use Rattle.places.proofs.Laws.{movable, placed_move, all_placed, recopied}
use Rattle.places.proofs.Room.{full_roomy}
use Rattle.places.proofs.Seats.{ringed_move}
use Rattle.places.proofs.Shifts.{far_less, far_grown}
use Rattle.search.proofs.Steps.{gained_more, open_but}
use Rattle.order.specs.Parts.{Bound, Standing, Trying, Lowered, Stayed}

-- block k's copies are cut to some of them
module _ (k r : ℕ) (cut : List ℕ) (h : k < length cut) (f : Inside r (get_or cut k 0)) where
  pub cut_here : get_or (set cut k r) k 0 ≡ r
  cut_here = get_or-set_same cut k r 0 h

  pub cut_else : (b : ℕ) → (b ≡ k → ⊥) → get_or (set cut k r) b 0 ≡ get_or cut b 0
  cut_else b z = get_or-set_other cut k b r 0 z

  pub cut_fewer : (b d : ℕ) → holds (set cut k r) b d ≡ true → holds cut b d ≡ true
  cut_fewer b d m =
      by_cases (eqb b k)
      (λ s. let e : b ≡ k = eqb-true b k s in rw e (f d (rw (e, cut_here) at m)))
      (λ s. rw (cut_else b (eqb-false b k s)) at m)

-- a disk that reads its capacity has no room
full_room : (n d room : ℕ) (caps counts : List ℕ) → Open n caps counts room → d < n → get_or caps d 0 ≤ get_or counts d 0
    → has room d ≡ false
full_room n d room caps counts o l h = rw (o d, lt-ltb d n l) (le-ltb _ _ h)

module _ {n q k lower base room : ℕ} {cut caps seats counts next prev out by : List ℕ}
    (t : Trying n q k lower base room cut caps seats counts next prev out by) where
  u : Bound n q k cut caps seats counts
  u = t.bound

  indexed : k < length cut
  indexed = omega (arith, u.long, t.less, u.placed.blocks)

  -- the copies that are left are copies, and the other blocks have all of theirs
  fewer : (b d : ℕ) → holds (set cut k lower) b d ≡ true → holds cut b d ≡ true
  fewer = cut_fewer k lower cut indexed t.part

  else : (b : ℕ) → (b ≡ k → ⊥) → get_or (set cut k lower) b 0 ≡ get_or cut b 0
  else = cut_else k lower cut indexed t.part

  seat : get_or seats k 0 < n
  unfolding Valid
  seat = (all_placed u.placed u.whole k t.less).0

  pub off_shifting : Shifting k n seats counts next prev
  off_shifting =
      record {
        movable = movable u.placed k n t.less (omega arith) (λ e. omega (arith, seat, e));
        bounded_next = t.standing.ringed.bounded_next;
        bounded_prev = t.standing.ringed.bounded_prev;
      }

  restored : set (set cut k lower) k (get_or cut k 0) ≡ cut
  restored = set-set cut k lower (get_or cut k 0) ∙ set-get_or cut k 0

  module _ {seats₁ counts₁ next₁ prev₁ out₁ : List ℕ} {old : ℕ}
      (g : Shifted k n (set cut k lower) seats counts next prev out seats₁ counts₁ next₁ prev₁ out₁ old) where
    m : Moved k n seats counts seats₁ counts₁ old
    m = g.moved

    off : Placed n q cut seats₁ counts₁
    off = placed_move u.placed k n t.less (omega arith) (λ e. omega (arith, seat, e)) m (λ z. absurd (omega (arith, z)))

    -- a block that is on a disk is another
    other : (b : ℕ) → get_or seats₁ b 0 < n → b ≡ k → ⊥
    other b l e = omega (arith, ap (λ (y : ℕ). get_or seats₁ y 0) e, m.here, l)

    -- the other disks count what they did
    same : (d : ℕ) → d < n → (d ≡ get_or seats k 0 → ⊥) → get_or counts₁ d 0 ≡ get_or counts d 0
    same d l z = m.same d (λ e. z (e ∙ m.from)) (omega arith)

    off_within : Within n q (entry caps) (entry seats₁)
    unfolding Within
    off_within d l =
        let w = u.within d l in
        let a = u.placed.tally d (omega arith) in
        let b = off.tally d (omega arith) in
        by_cases (eqb d old)
        (λ s. omega (arith, rw (← eqb-true d old s) at m.less))
        (λ s. omega (arith, m.same d (eqb-false d old s) (omega arith)))

    off_open : Open n caps counts₁ room
    unfolding Within
    off_open d =
        let o = get_or seats k 0 in
        by_cases (eqb d (get_or seats k 0))
        (λ s. rw (t.opened d, s, eqb-true d (get_or seats k 0) s, lt-ltb _ _ seat)
        (sym (lt-ltb (get_or counts₁ o 0) (get_or caps o 0)
        (omega (arith, u.within o seat, u.placed.tally o (omega (arith, seat)), rw m.from at m.less)))))
        (λ s. by_cases (ltb d n)
        (λ l. rw (t.opened d, s, same d (ltb-true d n l) (eqb-false _ _ s)) refl)
        (λ l. rw (t.opened d, s, l) refl))

    off_ringed : Ringed n q k seats₁ next₁ prev₁
    off_ringed = ringed_move t.standing.ringed k (omega arith) t.less (omega arith) m g.relinked

    off_far : Far n q k (set cut k lower) seats₁ out₁
    off_far =
        far_less k (set cut k lower)
        (far_grown (far_less (k + 1) (set cut k lower) t.standing.far (λ b h _ _. (h, fewer b)))
        (omega (arith, u.placed.disks)) m g.grown)
        (λ b h _ l. (let z = other b l in omega arith, λ d c. c))

    low : Placed n q (set cut k lower) seats₁ counts₁
    low = recopied off (set cut k lower) (λ b h l c. rw (else b (other b l)) c)

    pub try_seeking : Seeking n q k base k (set cut k lower) seats₁ counts₁ room next₁ prev₁ out₁ by
    try_seeking =
        record {
          seated = record {
            placed = low;
            ringed = off_ringed;
            far = off_far;
          };
          kept = record {
            begins = omega (arith, t.less);
            small = λ b d h c. u.kept.small b d h (fewer b d c);
            fixed = λ b h. rw (m.others b (omega arith)) ((u.kept.fixed b h).0, λ d c. (u.kept.fixed b h).1 d (fewer b d c));
          };
          long = t.standing.steps;
          block = t.less;
          free = omega arith;
          off = m.here;
          base_small = t.small;
          base_full = λ d s.
              let l = t.small d s in
              full_room n d room caps counts₁ off_open l
              (omega (arith, t.owned.full d l s, u.placed.tally d (omega arith), same d l (λ e. differ s (rw e t.apart))));
          base_owns = λ i h s.
              let z = other i (t.small (get_or seats₁ i 0) s) in
              rw (else i z) (t.owned.owns i h (rw (m.others i z) at s));
        }

    pub lowered : {d : ℕ} {seats' counts' next' prev' out' by' : List ℕ}
        → Gained n q k base k (set cut k lower) seats₁ counts₁ room seats' counts' next' prev' out' by' d
        → Lowered n q k lower room cut caps (set (set cut k lower) k (get_or cut k 0)) seats' counts' next' prev' out' by' d
    unfolding Valid
    lowered {d} {seats'} {counts'} w =
        let r = gained_more room caps low off_within off_open w in
        let none : get_or counts' n 0 ≡ 0 = omega (arith, r.fewer, m.more, u.whole) in
        let v = all_placed r.placed none in
        record {
          copies = restored;
          bound = record {
            placed = recopied r.placed cut (λ b h l c. fewer b (get_or seats' b 0) c);
            whole = none;
            within = r.within;
            kept = record {
              begins = u.kept.begins;
              small = u.kept.small;
              fixed = λ b h.
                  let w = v b (omega (arith, h, t.less)) in
                  let e : get_or seats' b 0 ≡ get_or seats b 0 =
                  (u.kept.fixed b h).1 (get_or seats' b 0) (fewer b (get_or seats' b 0) w.1) in
                  (w.0, λ d c. (u.kept.fixed b h).1 d c ∙ sym e);
            };
            long = u.long;
          };
          standing = record {
            ringed = w.drawn.seated.ringed;
            far = far_less (k + 1) cut w.drawn.seated.far (λ b h _ _. (omega arith, λ d c. rw (else b (omega arith)) c));
            steps = w.long;
          };
          here = rw (cut_here k lower cut indexed t.part) at (v k t.less).1;
          opened = open_but room off_open r;
        }

    module _ {seats₂ counts₂ next₂ prev₂ out₂ by₂ : List ℕ} {x : ℕ}
        (c : Blocked n q k base k (set cut k lower) seats₁ counts₁ room next₁ prev₁ seats₂ counts₂ next₂ prev₂ out₂ by₂ x) where
      pub back_shifting : Shifting k old seats₂ counts₂ next₂ prev₂
      back_shifting =
          rw (c.same_seats, c.same_counts, c.same_next, c.same_prev) (record {
            movable = movable off k old t.less (omega (arith, m.from, seat)) (λ e. omega (arith, e, m.here, m.from, seat));
            bounded_next = off_ringed.bounded_next;
            bounded_prev = off_ringed.bounded_prev;
          })

      -- the block's own disk has room now, so it is not reached
      own_apart : has x (get_or seats k 0) ≡ false
      own_apart =
          not_here (has x (get_or seats k 0)) (λ s.
          differ (rw (t.opened (get_or seats k 0), eq-eqb (get_or seats k 0) (get_or seats k 0) refl) refl)
          (c.caught.full (get_or seats k 0) s))

      module _ {seats₃ counts₃ next₃ prev₃ out₃ : List ℕ} {old₃ : ℕ}
          (b : Shifted k old (set (set cut k lower) k (get_or cut k 0)) seats₂ counts₂ next₂ prev₂ out₂
          seats₃ counts₃ next₃ prev₃ out₃ old₃) where
        back : Moved k old seats₁ counts₁ seats₃ counts₃ old₃
        back = rw (c.same_seats, c.same_counts) at b.moved

        back_n : old₃ ≡ n
        back_n = back.from ∙ m.here

        seats_same : seats₃ ≡ seats
        seats_same =
            ext_get_or 0 seats₃ seats (back.long_seats ∙ m.long_seats) (λ i _. by_cases (eqb i k)
            (λ s. rw (eqb-true i k s) (back.here ∙ m.from))
            (λ s. back.others i (eqb-false i k s) ∙ m.others i (eqb-false i k s)))

        counts_same : counts₃ ≡ counts
        counts_same =
            ext_get_or 0 counts₃ counts (back.long_counts ∙ m.long_counts) (λ i _. by_cases (eqb i old)
            (λ s. rw (eqb-true i old s) (back.more ∙ m.less))
            (λ s. by_cases (eqb i n)
            (λ s'. rw (eqb-true i n s') (omega (arith, rw back_n at back.less, m.more)))
            (λ s'. back.same i (λ e. eqb-false i n s' (e ∙ back_n)) (eqb-false i old s)
            ∙ m.same i (eqb-false i old s) (eqb-false i n s'))))

        back_standing : Standing n q k cut seats next₃ prev₃ out₃ by₂
        back_standing =
            record {
              ringed = rw seats_same at (ringed_move off_ringed k (omega arith) t.less (omega (arith, m.from, seat)) back
                  (rw (c.same_next, c.same_prev) at b.relinked));
              far = rw seats_same at (far_grown
                  (far_less (k + 1) cut c.far (λ i h _ _. (omega arith, λ d c. rw (else i (omega arith)) c)))
                  (omega (arith, m.from, seat, u.placed.disks)) back (rw restored at b.grown));
              steps = c.long;
            }

        pub stayed : Stayed n q k lower cut caps seats counts (set (set cut k lower) k (get_or cut k 0)) seats₃ counts₃ next₃ prev₃
            out₃ by₂ x
        stayed =
            record {
              copies = restored;
              same_seats = seats_same;
              same_counts = counts_same;
              standing = back_standing;
              small = c.caught.small;
              owned = record {
                full = λ d l s. omega (
                  arith,
                  ltb-false (get_or counts₁ d 0) (get_or caps d 0) (full_roomy n d room caps counts₁ off_open l (c.caught.full d s)),
                  same d l (λ e. differ s (rw e own_apart)),
                  u.placed.tally d (omega arith),
                );
                owns = λ i h s.
                    let z : i ≡ k → ⊥ = λ e. differ s (rw e own_apart) in
                    rw (else i z) at (c.caught.owns i h (inr (rw (m.others i z) s)));
              };
              apart = own_apart;
              part = rw (cut_here k lower cut indexed t.part) at (c.caught.owns k t.less (inl refl));
            }
