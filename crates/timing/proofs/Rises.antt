-- Blocks are placed one after another, and the time rises where one is stuck.
--     so_far_start, so_far_next, so_far_end     the first block, one block more, all blocks
--     seeking                   what the search takes
--     free, shifting, drawn     the lowest copy that has room
--     reopening                 the disks that have room, but for the one that has a block more
--     caught_count              the blocks with all copies on the reached disks are as many as those can read, and those of them from b on
--     awaited, so_far_raised    so they are short, and stay so until the first time at which the disks have room for all of them
--     turned_next, turned_raised     the two outcomes of a turn
--     turned_falls              either way less is left: the time rises, or block b has a disk
use Prim.Native.Nat.{ℕ, ◌+◌, ◌-◌, ◌*◌, ◌≤◌, ◌<◌}
use mathlib.Core.Path.{◌≡◌, refl, sym, ap, ◌∙◌}
use mathlib.Core.Logic.{inl}
use mathlib.Core.Bool.{Bool, true, ◌&&◌}
use mathlib.Core.List.{List}
use native.Mathlib.Omega.{arith}
use lib.Dec.{eqb, ltb, leb}
use lib.ListN.{get_or, length}
use borrow.Author.Tests.{eq-eqb, eqb-true, eqb-false, ltb-true, ltb-false, le-leb, leb-true}
use Rattle.basics.specs.Limits.{blocks_most, places_most, time_most}
use Rattle.mask.specs.Has.{has}
use Rattle.mask.specs.Lowest.{First}
use Rattle.mask.proofs.Has.{has_zero}
use Rattle.basics.specs.Count.{bit, gate}
use Rattle.model.specs.Assignment.{reads, Within}
use Rattle.model.specs.Capacity.{capacity, end_time}
use Rattle.model.specs.Case.{capacity_at}
use Rattle.model.specs.Shortfall.{touches, size, room, Short}
use Rattle.model.specs.Time.{ShortAt}
use Rattle.basics.proofs.Tests.{by_cases, differ, and_left, and_right, and_both, same_test, not_here}
use Rattle.basics.proofs.Count.{bit_true, bit_false, gate_true, gate_mono, sum_ext, sum_le, sum_term}
use Rattle.basics.proofs.Count.{count_ext, count_none, count_here, count_most}
use Rattle.model.proofs.Capacity.{capacity_grows, ends_fits}
use Rattle.model.proofs.Duality.{left}
use Rattle.places.specs.Places.{entry, holds, roomy}
use Rattle.places.specs.Table.{masked_case}
use Rattle.places.specs.Among.{among}
use Rattle.places.specs.Seats.{Shifting, Shifted}
use Rattle.places.specs.Room.{Open, OpenBut}
use Rattle.search.specs.Search.{Caught, Drawn}
use Rattle.search.specs.Outcome.{Seeking, Blocked}
use Rattle.places.proofs.Among.{inside_has, has_inside, among_touched}
use Rattle.places.proofs.Shifts.{seated_shifting}
use Rattle.search.proofs.Caught.{caught_size}
use Rattle.search.proofs.Steps.{shifted_drawn, drawn_more, caught_roomy, open_but}
use Rattle.capacity.specs.Capacities.{Capacities, room_of, Awaited, FirstRoom}
use Rattle.capacity.proofs.Rooms.{capacity_most}
use Rattle.timing.specs.Times.{Blank, Least}
use Rattle.timing.specs.Parts.{count_from, SoFar, Raised, Turned}
use Rattle.timing.specs.declared.Moment.{Moment}

-- at time 0 no disk has room, and no block is on one
pub so_far_start : {n q : ℕ} {masks costs starts caps seats counts next prev out caps' : List ℕ} (by : List ℕ)
    → Blank n q masks costs starts caps seats counts next prev out → Capacities n costs starts 0 caps' → length by ≡ places_most
    → SoFar n q 0 masks costs starts caps' seats counts next prev out by 0 0
unfolding Within reads
so_far_start {n} {q} {costs = costs} {starts = starts} {seats = seats} {counts = counts} {caps' = caps'} by k c l =
    let none : (d : ℕ) → d < n → get_or caps' d 0 ≡ 0 =
    λ d h. omega (arith, c.each d h, capacity_most (get_or starts d 0) (get_or costs d 0) 0) in
    record {
      table = k.table;
      copies = k.copies;
      seated = k.seated;
      within = λ d h. omega (
        arith,
        count_none q (λ b. eqb (get_or seats b 0) d)
            (λ b j. not_here (eqb (get_or seats b 0) d) (λ e. omega (arith, eqb-true (get_or seats b 0) d e, k.off b j, h))),
      );
      opened = λ d. let r : Bool = roomy caps' counts d in
          has_zero d ∙ sym (not_here (ltb d n && r) (λ e.
          let u = none d (ltb-true d n (and_left (ltb d n) r e)) in
          let v = ltb-true (get_or counts d 0) (get_or caps' d 0) (and_right (ltb d n) r e) in
          omega arith));
      caps_at = c;
      on = λ i h _. absurd (omega (arith, h));
      off = λ i _ h. k.off i h;
      time = omega arith;
      lower = λ h. absurd (omega (arith, h));
      long = l;
    }

module _ {n q b : ℕ} {masks costs starts caps seats counts next prev out by : List ℕ} {t now : ℕ}
    (s : SoFar n q b masks costs starts caps seats counts next prev out by t now) where
  pub so_far_end : q ≤ b → Least n q masks costs starts caps seats counts next prev out t
  unfolding reads
  so_far_end h =
      record {
        timed = record {
          ready = record { seated = s.seated; within = s.within; small = s.copies.small };
          whole = s.seated.placed.tally n (omega arith) ∙ count_none q (λ i. eqb (get_or seats i 0) n)
              (λ i l. not_here (eqb (get_or seats i 0) n) (λ e. omega (arith, eqb-true (get_or seats i 0) n e, s.on i (omega arith) l)));
          caps_at = s.caps_at;
        };
        time = s.time;
        lower = s.lower;
      }

  module _ (h : b < q) where
    pub seeking : Seeking n q b 0 0 masks seats counts now next prev out by
    seeking =
        let none : (d : ℕ) → has 0 d ≡ true → ⊥ = λ d e. differ e (has_zero d) in
        record {
          seated = s.seated;
          kept = record { begins = omega arith; small = s.copies.small; fixed = λ i l. absurd (omega (arith, l)) };
          long = s.long;
          block = h;
          free = omega arith;
          off = s.off b (omega arith) h;
          base_small = λ d e. absurd (none d e);
          base_full = λ d e. absurd (none d e);
          base_owns = λ i _ e. absurd (none (get_or seats i 0) e);
        }

    -- ---- the lowest copy of b that has room

    module _ {m d : ℕ} (w : First m d) (f : (e : ℕ) → has m e ≡ (holds masks b e && has now e)) where
      copy : holds masks b d ≡ true
      copy = and_left (holds masks b d) (has now d) (sym (f d) ∙ w.found)

      pub free : has now d ≡ true
      free = and_right (holds masks b d) (has now d) (sym (f d) ∙ w.found)

      pub shifting : Shifting b d seats counts next prev
      shifting =
          let k = s.copies.small b d h copy in
          seated_shifting s.seated b d h (omega arith) (λ e. omega (arith, e, s.off b (omega arith) h, k))

      pub drawn : {seats' counts' next' prev' out' : List ℕ} {old : ℕ}
          → Shifted b d masks seats counts next prev out seats' counts' next' prev' out' old
          → Drawn n q b 0 0 d masks seats counts seats' counts' next' prev' out'
      drawn v =
          shifted_drawn 0 s.seated (omega arith) h (s.copies.small b d h copy) (s.off b (omega arith) h) copy (has_zero d)
          (has_zero n) v

    -- ---- block b is on a disk: d, which had room, has one block more

    module _ {d : ℕ} {seats' counts' next' prev' out' : List ℕ} (k : has now d ≡ true)
        (g : Drawn n q b 0 0 d masks seats counts seats' counts' next' prev' out') where
      pub reopening : OpenBut n d caps counts' now
      reopening = open_but now s.opened (drawn_more now caps s.seated.placed s.within s.opened k g)

      pub so_far_next : (by' : List ℕ) (room' : ℕ) → Open n caps counts' room' → length by' ≡ places_most
          → SoFar n q (b + 1) masks costs starts caps seats' counts' next' prev' out' by' t room'
      so_far_next by' room' o l =
          record {
            table = s.table;
            copies = s.copies;
            seated = g.seated;
            within = (drawn_more now caps s.seated.placed s.within s.opened k g).within;
            opened = o;
            caps_at = s.caps_at;
            on = λ i j m. by_cases (eqb i b)
                (λ e. let z = ap (λ (y : ℕ). get_or seats' y 0) (eqb-true i b e) in omega (arith, z, g.here))
                (λ e. let y = eqb-false i b e in
                by_cases (eqb (get_or seats' i 0) n)
                (λ u. absurd (omega (arith, g.on i m (eqb-true (get_or seats' i 0) n u), s.on i (omega arith) m)))
                (λ u. let z = eqb-false (get_or seats' i 0) n u in omega (arith, g.seated.placed.low i m)));
            off = λ i j m. g.others i m (omega arith) (s.off i (omega arith) m);
            time = s.time;
            lower = s.lower;
            long = l;
          }

      pub turned_next : {by' : List ℕ} {r : Moment} → Open n caps counts' r.room → length by' ≡ places_most → r.time ≡ t
          → Turned n q b masks costs starts t caps seats' counts' next' prev' out' by' r
      turned_next {by'} {r} o l e =
          record {
            placed = λ _. (rw e (so_far_next by' r.room o l), e);
            raised = λ z. absurd (omega (arith, z, g.here));
          }

    -- ---- block b is stuck

    module _ {x : ℕ} (c : Caught n q b 0 masks seats (has now) x) where
      abbrev S : ℕ → Bool
      S = among masks x

      -- the blocks on no disk are those from b on
      left_over : left n q (entry seats) S ≡ count_from b q masks x
      unfolding left
      left_over =
          count_ext q (λ i. S i && leb n (get_or seats i 0)) (λ i. S i && leb b i)
          (λ i l. ap (λ (y : Bool). S i && y) (same_test (leb n (get_or seats i 0)) (leb b i)
          (λ e. by_cases (ltb i b)
          (λ u. let k = leb-true n (get_or seats i 0) e in absurd (omega (arith, s.on i (ltb-true i b u) l)))
          (λ u. le-leb b i (ltb-false i b u)))
          (λ e. le-leb n (get_or seats i 0) (omega (arith, s.off i (leb-true b i e) l)))))

      caught_count : size q S ≡ room_of n costs starts x t + count_from b q masks x
      caught_count =
          omega (
            arith,
            caught_size caps S s.seated.placed s.within (caught_roomy now caps counts s.opened c)
                (λ i l e d k. inside_has (get_or masks i 0) x d (omega (arith, s.table.few, s.copies.small i d l k)) e k)
                (λ i l. has_inside (get_or masks i 0) x),
            left_over,
            sum_ext n (λ d. gate (has x d) (get_or caps d 0)) (λ d. gate (has x d) (capacity (get_or starts d 0) (get_or costs d 0) t))
                (λ d l. ap (gate (has x d)) (s.caps_at.each d l)),
          )

      -- a copy of b is on a disk of x, which alone can read all blocks by the end of all times
      last_room : blocks_most ≤ room_of n costs starts x time_most
      unfolding end_time
      last_room =
          let k = s.copies.some b h in
          let d : ℕ = k.0 in
          let l : d < n = s.copies.small b d h k.1 in
          let C : ℕ → ℕ = λ e. capacity (get_or starts e 0) (get_or costs e 0) time_most in
          omega (
            arith,
            ends_fits (get_or starts d 0) (get_or costs d 0) blocks_most time_most (s.table.priced d l)
                (omega (arith, s.table.cheap d l, s.table.soon d l)),
            sum_term n (λ e. gate (has x e) (C e)) d l,
            gate_true (has x d) (C d) (c.owns b h (inl refl) d k.1),
          )

      pub awaited : Awaited n costs starts t x (count_from b q masks x)
      unfolding size
      awaited =
          record {
            table = s.table;
            small = c.small;
            some = count_here q (λ i. S i && leb b i) b h
                (and_both (S b) (leb b b) (has_inside (get_or masks b 0) x (c.owns b h (inl refl))) (le-leb b b (omega arith)));
            few = omega (arith, count_most q (λ i. S i && leb b i), s.seated.placed.blocks);
            last = omega (arith, caught_count, count_most q S, s.seated.placed.blocks, last_room);
          }

      -- these blocks are short just before r
      short_before : {r : ℕ} → FirstRoom n costs starts t x (count_from b q masks x) r
          → ShortAt (masked_case n q masks costs starts) (r - 1) S
      unfolding ShortAt Short room capacity_at
      short_before {r} f =
          omega (
            arith,
            f.before,
            caught_count,
            sum_le n (λ d. gate (touches q (holds masks) S d) (capacity (get_or starts d 0) (get_or costs d 0) (r - 1)))
                (λ d. gate (has x d) (capacity (get_or starts d 0) (get_or costs d 0) (r - 1)))
                (λ d l. gate_mono (touches q (holds masks) S d) (has x d) _ _
                (among_touched n q x masks s.table.few s.copies.small d) (omega arith)),
          )

      so_far_raised : {caps' seats' counts' next' prev' out' by' : List ℕ} {r : ℕ} (room' : ℕ)
          → Blocked n q b 0 0 masks seats counts now next prev seats' counts' next' prev' out' by' x
          → FirstRoom n costs starts t x (count_from b q masks x) r → Capacities n costs starts r caps' → Open n caps' counts' room'
          → SoFar n q b masks costs starts caps' seats' counts' next' prev' out' by' r room'
      unfolding Within
      so_far_raised {caps'} {r = r} room' k f a o =
          rw (k.same_seats, k.same_counts, k.same_next, k.same_prev)
          (record {
            table = s.table;
            copies = s.copies;
            seated = record { placed = s.seated.placed; ringed = s.seated.ringed; far = k.far };
            within = λ d l. omega (
              arith,
              s.within d l,
              s.caps_at.each d l,
              a.each d l,
              capacity_grows (get_or starts d 0) (get_or costs d 0) t r (s.table.priced d l) (omega (arith, f.later)),
            );
            opened = rw k.same_counts at o;
            caps_at = a;
            on = s.on;
            off = s.off;
            time = f.time;
            lower = λ _. (S, short_before f);
            long = k.long;
          })

      pub turned_raised : {caps' seats' counts' next' prev' out' by' : List ℕ} {r : Moment}
          → Blocked n q b 0 0 masks seats counts now next prev seats' counts' next' prev' out' by' x
          → Raised n q b masks costs starts t x caps' counts' r
          → Turned n q b masks costs starts t caps' seats' counts' next' prev' out' by' r
      turned_raised {r = r} k v =
          let w = so_far_raised r.room k v.first v.caps_at v.opened in
          record {
            placed = λ z. absurd (z (w.off b (omega arith) h));
            raised = λ _. (w, v.first.later);
          }

-- less is left: the time rises, or it stays and block b has a disk
pub turned_falls : {n q b : ℕ} {masks costs starts : List ℕ} {t : ℕ} {caps seats counts next prev out by : List ℕ} {r : Moment} {s : ℕ}
    → Turned n q b masks costs starts t caps seats counts next prev out by r → s ≡ n
    → (time_most - r.time) * 2 + bit (eqb (get_or seats b 0) n) < (time_most - t) * 2 + bit (eqb s n)
turned_falls {n} {b = b} {seats = seats} {s = s} v k =
    by_cases (eqb (get_or seats b 0) n)
    (λ e. let w = v.raised (eqb-true (get_or seats b 0) n e) in
    omega (arith, w.1, w.0.time, bit_true (eqb (get_or seats b 0) n) e, bit_true (eqb s n) (eq-eqb s n k)))
    (λ e. omega (
      arith,
      (v.placed (eqb-false (get_or seats b 0) n e)).1,
      bit_false (eqb (get_or seats b 0) n) e,
      bit_true (eqb s n) (eq-eqb s n k),
    ))
