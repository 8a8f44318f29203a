-- A block goes lower, or is done.
--     lower_none, none_lower                the lower copies of a block that are not dead for its disk, and when there are none
--     trying, asked_lowered, asked_stayed   one of them is asked for: the block is lower, or all of them are dead for its disk
--     asked_less                            each time it is asked there is less to ask for
--     done                                  the block's copies are cut to its disk, and it leaves its ring
--     Sorted, sorted_more                   block after block
--     sorting_start, sorted_start           before the first
--     sorted_end                            after the last
use Prim.Native.Nat.{ℕ, ◌+◌, ◌*◌, ◌^◌, ◌≤◌, ◌<◌}
use mathlib.Core.Path.{◌≡◌, refl, sym, ◌∙◌}
use mathlib.Core.Logic.{inl, inr, ⊎_elim}
use mathlib.Core.Bool.{true, false, not, ◌&&◌, ◌||◌}
use mathlib.Core.List.{List}
use native.Mathlib.Omega.{arith}
use native.Mathlib.Numerals.{add-one}
use lib.Dec.{eqb, ltb}
use lib.ListN.{get_or, set, length, length-set, replicate, get_or-replicate, length-replicate}
use borrow.Author.Tests.{ltb-true, ltb-false, lt-ltb, eqb-true, eqb-false, eq-eqb, not-true}
use Rattle.basics.specs.Limits.{disks_most, places_most}
use Rattle.mask.specs.Has.{has}
use Rattle.mask.proofs.Has.{has_zero, mask_zero}
use Rattle.model.specs.Assignment.{Valid}
use Rattle.model.specs.Order.{Agree}
use Rattle.model.proofs.Order.{Lowest, lowest_start, lowest_first, lowest_keep, lowest_more}
use Rattle.basics.proofs.Tests.{by_cases, differ, and_left, and_right, or_left, or_right, not_here}
use Rattle.places.specs.Places.{entry, holds, Possible}
use Rattle.places.specs.Among.{Inside}
use Rattle.places.specs.Seats.{Ringed}
use Rattle.places.specs.Room.{Open}
use Rattle.places.proofs.Laws.{all_placed, recopied}
use Rattle.places.proofs.Shifts.{far_less}
use Rattle.order.specs.Ordered.{Scheduled, Ordered}
use Rattle.order.specs.Parts.{Bound, Sorting, LowerCopies, AllDead, Trying, Lowered, Stayed, Spread, Asked, Done}
use Rattle.order.proofs.Dead.{dead_any, dead_cut, dead_spread, lowest_by}
use Rattle.order.proofs.Tries.{cut_here, cut_else, cut_fewer}

pub bound_valid : {n q k : ℕ} {cut caps seats counts : List ℕ} → Bound n q k cut caps seats counts → Valid n q (holds cut) (entry seats)
bound_valid u = all_placed u.placed u.whole

-- ---- lower copies

module _ {k r : ℕ} {cut seats dead : List ℕ} (p : LowerCopies k cut seats dead r) where
  lower_both : (e : ℕ) → has r e ≡ true → (holds cut k e && ltb e (get_or seats k 0)) ≡ true
  lower_both e t =
      and_left (holds cut k e && ltb e (get_or seats k 0)) (not (has (get_or dead (get_or seats k 0) 0) e)) (sym (p.each e) ∙ t)

  lower_part : Inside r (get_or cut k 0)
  lower_part e t = and_left (holds cut k e) (ltb e (get_or seats k 0)) (lower_both e t)

  lower_less : (e : ℕ) → has r e ≡ true → e < get_or seats k 0
  lower_less e t = ltb-true e (get_or seats k 0) (and_right (holds cut k e) (ltb e (get_or seats k 0)) (lower_both e t))

  -- a lower copy is dead already, or is among them
  lower_here : (d : ℕ) → holds cut k d ≡ true → d < get_or seats k 0 → has (get_or dead (get_or seats k 0) 0) d ≡ false → has r d ≡ true
  lower_here d t l f = rw (p.each d, t, lt-ltb d (get_or seats k 0) l, f) refl

  pub lower_none : r ≡ 0 → AllDead k cut seats dead
  lower_none z d t l =
      by_cases (has (get_or dead (get_or seats k 0) 0) d) (λ u. u) (λ u. absurd (differ (rw z at (lower_here d t l u)) (has_zero d)))

  pub none_lower : r < 2 ^ disks_most → AllDead k cut seats dead → r ≡ 0
  none_lower h f =
      mask_zero disks_most r h (λ d _. not_here (has r d) (λ t. differ (f d (lower_part d t) (lower_less d t))
      (not-true _ (and_right (holds cut k d && ltb d (get_or seats k 0)) (not (has (get_or dead (get_or seats k 0) 0) d))
      (sym (p.each d) ∙ t)))))

-- ---- one block

module _ {n q k room : ℕ} {cut caps seats counts next prev out by dead : List ℕ}
    (s : Sorting n q k room cut caps seats counts next prev out by dead) (h : k < q) where
  u : Bound n q k cut caps seats counts
  u = s.bound

  seat : get_or seats k 0 < n
  unfolding Valid
  seat = (bound_valid u k h).0

  pub disk : get_or seats k 0 < disks_most
  disk = omega (arith, seat, u.placed.disks)

  module _ {lower : ℕ} (p : LowerCopies k cut seats dead lower) where
    pub trying : (freed : ℕ) → ((e : ℕ) → has freed e ≡ (eqb e (get_or seats k 0) || has room e))
        → Trying n q k lower (get_or dead (get_or seats k 0) 0) freed cut caps seats counts next prev out by
    trying freed f =
        record {
          bound = u;
          standing = s.standing;
          less = h;
          part = lower_part p;
          opened = λ d. f d ∙ rw (s.opened d) refl;
          small = s.dead_for.small (get_or seats k 0) seat;
          apart = s.dead_for.apart (get_or seats k 0) seat;
          owned = s.dead_for.owned (get_or seats k 0) seat;
        }

    pub asked_lowered : {d freed : ℕ} {cut' seats' counts' next' prev' out' by' : List ℕ} (r : ℕ)
        → Lowered n q k lower freed cut caps cut' seats' counts' next' prev' out' by' d → Open n caps counts' r
        → Asked n q k cut caps seats cut' seats' counts' next' prev' out' by' dead r
    asked_lowered {seats'} r w o =
        record {
          copies = w.copies;
          sorting = rw w.copies (record {
            bound = w.bound;
            standing = w.standing;
            opened = o;
            dead_for = dead_any u.kept.small (bound_valid u) u.within (bound_valid w.bound) w.bound.within s.dead_for;
          });
          lower = inl (lower_less p (get_or seats' k 0) w.here);
        }

    pub asked_stayed : {x : ℕ} {cut' seats' counts' next' prev' out' by' dead' : List ℕ}
        → Stayed n q k lower cut caps seats counts cut' seats' counts' next' prev' out' by' x → Spread n x dead dead'
        → Asked n q k cut caps seats cut' seats' counts' next' prev' out' by' dead' room
    asked_stayed {x} w g =
        let more = g.more (get_or seats k 0) seat w.apart in
        let was = has (get_or dead (get_or seats k 0) 0) in
        record {
          copies = w.copies;
          sorting = rw (w.copies, w.same_seats, w.same_counts) (record {
            bound = u;
            standing = w.standing;
            opened = s.opened;
            dead_for = dead_spread s.dead_for w.small w.owned g;
          });
          lower = inr (
            rw w.same_seats refl,
            rw (w.copies, w.same_seats) (λ d t l. more d ∙ by_cases (was d)
                (or_left (was d) (has x d))
                (λ f. or_right (was d) (has x d) (w.part d (lower_here p d t l f)))),
          );
        }

  -- the block's copies are cut to its disk
  pub done : (r : ℕ) {next' prev' : List ℕ} → ((e : ℕ) → has r e ≡ eqb e (get_or seats k 0)) → AllDead k cut seats dead
      → Ringed n q (k + 1) seats next' prev' → Done n q k cut caps (set cut k r) seats counts next' prev' out by dead room
  unfolding Valid
  done r f low g =
      let o : ℕ = get_or seats k 0 in
      let v : Valid n q (holds cut) (entry seats) = bound_valid u in
      let is : k < length cut = omega (arith, u.long, h, u.placed.blocks) in
      let part : Inside r (get_or cut k 0) = λ d t. rw (eqb-true d o (sym (f d) ∙ t)) (v k h).1 in
      let fewer = cut_fewer k r cut is part in
      let here = cut_here k r cut is part in
      let else = cut_else k r cut is part in
      let only : (d : ℕ) → holds (set cut k r) k d ≡ true → d ≡ get_or seats k 0 = λ d t. eqb-true d o (sym (f d) ∙ (rw here at t)) in
      record {
        sorting = record {
          bound = record {
            placed = recopied u.placed (set cut k r) (λ b l m c. by_cases (eqb b k)
                (λ t. rw (eqb-true b k t, here) (f o ∙ eq-eqb o o refl))
                (λ t. rw (else b (eqb-false b k t)) c));
            whole = u.whole;
            within = u.within;
            kept = record {
              begins = omega (arith, h);
              small = λ b d l c. u.kept.small b d l (fewer b d c);
              fixed = λ b l. by_cases (eqb b k)
                  (λ t. rw (eqb-true b k t) (seat, only))
                  (λ t. let w = u.kept.fixed b (let z = eqb-false b k t in omega arith) in (w.0, λ d c. w.1 d (fewer b d c)));
            };
            long = length-set cut k r ∙ u.long;
          };
          standing = record {
            ringed = g;
            far = far_less (k + 1 + 1) (set cut k r) s.standing.far (λ b l _ _. (omega arith, fewer b));
            steps = s.standing.steps;
          };
          opened = s.opened;
          dead_for = dead_cut only else s.dead_for;
        };
        fewer = fewer;
        later = λ b l. else b (omega arith);
        lowest = lowest_by u.kept.small h v u.within (s.dead_for.owned o seat) (s.dead_for.apart o seat) low;
      }

-- each time the block is asked it is on a lower disk, or there are no lower copies left
pub asked_less : {n q k r lower lower' : ℕ} {cut caps seats cut' seats' counts' next' prev' out' by' dead' : List ℕ}
    → Asked n q k cut caps seats cut' seats' counts' next' prev' out' by' dead' r → (lower ≡ 0 → ⊥) → lower' < 2 ^ disks_most
    → LowerCopies k cut' seats' dead' lower'
    → get_or seats' k 0 * 2 ^ disks_most + lower' < get_or seats k 0 * 2 ^ disks_most + lower
asked_less w z h p = ⊎_elim (λ l. omega arith) (λ e. omega (arith, e.0, none_lower p h e.1)) w.lower

-- ---- block after block

-- the first k blocks are as low as any schedule has them; copies that are left are copies, and the blocks from k on have all of them
pub record Sorted (n q : ℕ) (masks caps : List ℕ) (k : ℕ) (cut seats : List ℕ) : Type 0 where
  pub fewer : (b d : ℕ) → holds cut b d ≡ true → holds masks b d ≡ true
  pub later : (b : ℕ) → k ≤ b → get_or cut b 0 ≡ get_or masks b 0
  pub lowest : Lowest k (Possible n q masks caps) (entry seats)

module _ {n q : ℕ} {masks caps seats counts next prev out : List ℕ} (g : Scheduled n q masks caps seats counts next prev out) where
  start_bound : Bound n q 0 masks caps seats counts
  start_bound =
      record {
        placed = g.seated.placed;
        whole = g.whole;
        within = g.within;
        kept = record { begins = omega arith; small = g.small; fixed = λ b h. absurd (omega arith) };
        long = g.long;
      }

  pub sorting_start : (room : ℕ) → Open n caps counts room
      → Sorting n q 0 room masks caps seats counts next prev out (replicate places_most 0) (replicate disks_most 0)
  sorting_start room o =
      let none : (o e : ℕ) → o < n → has (get_or (replicate disks_most 0) o 0) e ≡ true → ⊥ = λ o e l t.
      differ (rw (get_or-replicate {A = ℕ} disks_most o 0 0 (omega (arith, g.seated.placed.disks))) at t) (has_zero e) in
      record {
        bound = start_bound;
        standing = record {
          ringed = g.seated.ringed;
          far = far_less 1 masks g.seated.far (λ b h _ _. (omega arith, λ d t. t));
          steps = length-replicate {A = ℕ} places_most 0;
        };
        opened = o;
        dead_for = record {
          long = length-replicate {A = ℕ} disks_most 0;
          small = λ o l d t. absurd (none o d l t);
          apart = λ o l. not_here (has (get_or (replicate disks_most 0) o 0) o) (none o o l);
          owned = λ o l. record { full = λ d _ t. absurd (none o d l t); owns = λ b _ t. absurd (none o (get_or seats b 0) l t) };
        };
      }

  pub sorted_start : Sorted n q masks caps 0 masks seats
  sorted_start =
      record {
        fewer = λ b d t. t;
        later = λ b l. refl;
        lowest = lowest_start (Possible n q masks caps) (entry seats) (bound_valid start_bound, g.within);
      }

pub sorted_end : {n q : ℕ} {masks caps cut seats : List ℕ} → Sorted n q masks caps q cut seats → Ordered n q masks caps seats
unfolding Valid
sorted_end {n} {q} {masks} {caps} {cut} {seats} s =
    record {
      disks = λ b h. (s.lowest.holds.0 b h).0;
      first = lowest_first (Possible n q masks caps) q (entry seats) s.lowest;
    }

pub sorted_more : {n q k r : ℕ} {masks caps cut seats counts cut' seats' counts' next' prev' out' by' dead' : List ℕ} → k < q
    → Bound n q k cut caps seats counts → Done n q k cut caps cut' seats' counts' next' prev' out' by' dead' r
    → Sorted n q masks caps k cut seats → Sorted n q masks caps (k + 1) cut' seats'
unfolding Valid Agree
sorted_more {n} {q} {k} {r} {masks} {caps} {cut} {seats} {counts} {cut'} {seats'} h u d s =
    let P = Possible n q masks caps in
    let v = bound_valid u in
    let v' = bound_valid d.sorting.bound in
    let keeps : (b : ℕ) → b < k → get_or seats' b 0 ≡ get_or seats b 0 =
    λ b l. (u.kept.fixed b l).1 (get_or seats' b 0) (d.fewer b (get_or seats' b 0) (v' b (omega arith)).1) in
    let fewer : (b e : ℕ) → holds cut' b e ≡ true → holds masks b e ≡ true = λ b e t. s.fewer b e (d.fewer b e t) in
    let possible : P (entry seats') = (λ b l. ((v' b l).0, fewer b (get_or seats' b 0) (v' b l).1), d.sorting.bound.within) in
    record {
      fewer = fewer;
      later = λ b l. d.later b (omega arith) ∙ s.later b (omega arith);
      lowest = rw (add-one k) (lowest_more P k (entry seats') (lowest_keep P k (entry seats) (entry seats') s.lowest possible keeps)
          (λ a p g. d.lowest a
          (λ b l. (
            (p.0 b l).0,
            by_cases (ltb b k)
                (λ t. let m = ltb-true b k t in rw (g b m ∙ keeps b m) (v b l).1)
                (λ t. rw (s.later b (ltb-false b k t)) (p.0 b l).1),
          ))
          p.1));
    }
