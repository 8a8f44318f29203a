-- Blocks are placed one after another; the disks that stuck blocks have reached stay full and closed.
--     ground_start       before the first block
--     ground_seeking     block b can look for a disk
--     ground_skip, ground_free, ground_stuck     after block b: it was on a disk, it is on one now, it is stuck
--     ground_end         after the last block
use Prim.Native.Nat.{ℕ, ◌+◌, ◌≤◌, ◌<◌}
use mathlib.Core.Path.{◌≡◌, refl, sym, ap, subst, ◌∙◌}
use mathlib.Core.Logic.{inl, inr, ⊎_elim}
use mathlib.Core.Bool.{Bool, true, ◌&&◌}
use mathlib.Core.List.{List}
use native.Mathlib.Omega.{arith}
use lib.Dec.{ltb}
use lib.ListN.{get_or, length}
use borrow.Author.Count.{below_more}
use borrow.Author.Tests.{lt-ltb}
use Rattle.basics.specs.Limits.{places_most}
use Rattle.mask.specs.Has.{has}
use Rattle.mask.proofs.Has.{has_zero}
use Rattle.model.specs.Shortfall.{touches}
use Rattle.basics.proofs.Tests.{differ}
use Rattle.places.specs.Places.{holds, roomy}
use Rattle.places.specs.Among.{Inside}
use Rattle.places.specs.Room.{Open}
use Rattle.search.specs.Outcome.{Seeking, Gained, Blocked, More}
use Rattle.fill.specs.Packed.{Packing, Packed}
use Rattle.fill.specs.Parts.{Ground}
use Rattle.places.proofs.Room.{full_roomy}
use Rattle.search.proofs.Steps.{gained_more}

pub ground_start : {n q : ℕ} {masks caps seats counts next prev out : List ℕ} (by : List ℕ) (room : ℕ)
    → Packing n q masks caps seats counts next prev out → length by ≡ places_most → Open n caps counts room
    → Ground n q 0 masks caps seats counts next prev out by room 0
ground_start by room r l o =
    let none : (d : ℕ) → has 0 d ≡ true → ⊥ = λ d t. differ t (has_zero d) in
    record {
      seated = r.seated;
      low = r.small;
      long = l;
      within = r.within;
      opened = o;
      small = λ d t. absurd (none d t);
      full = λ d t. absurd (none d t);
      owns = λ i h t. absurd (none _ t);
      left = λ i h. let z : ⊥ = omega arith in absurd z;
      least = λ S f k d t. absurd (none d t);
    }

module _ {n q b : ℕ} {masks caps seats counts next prev out by : List ℕ} {room closed : ℕ}
    (g : Ground n q b masks caps seats counts next prev out by room closed) where
  -- block b is on a disk
  pub ground_skip : (get_or seats b 0 ≡ n → ⊥) → Ground n q (b + 1) masks caps seats counts next prev out by room closed
  ground_skip z =
      record {
        seated = g.seated;
        low = g.low;
        long = g.long;
        within = g.within;
        opened = g.opened;
        small = g.small;
        full = g.full;
        owns = g.owns;
        left = below_more (λ i. i < q → get_or seats i 0 ≡ n → Inside (get_or masks i 0) closed) b g.left (λ _ e. absurd (z e));
        least = λ S f. g.least S (λ i h. f i (omega arith));
      }

  module _ (l : b < q) (off : get_or seats b 0 ≡ n) where
    pub ground_seeking : Seeking n q b closed 0 masks seats counts room next prev out by
    ground_seeking =
        record {
          seated = g.seated;
          kept = record { begins = omega arith; small = g.low; fixed = λ i h. absurd (omega arith) };
          long = g.long;
          block = l;
          free = omega arith;
          off = off;
          base_small = g.small;
          base_full = g.full;
          base_owns = g.owns;
        }

    -- block b is stuck
    pub ground_stuck : {seats' counts' next' prev' out' by' : List ℕ} {x : ℕ}
        → Blocked n q b closed 0 masks seats counts room next prev seats' counts' next' prev' out' by' x
        → Ground n q (b + 1) masks caps seats' counts' next' prev' out' by' room x
    ground_stuck {seats'} {counts'} {next'} {prev'} {out'} {by'} {x} k =
        let c = k.caught in
        subst (λ (y : List ℕ). Ground n q (b + 1) masks caps y counts' next' prev' out' by' room x) (sym k.same_seats)
        (subst (λ (y : List ℕ). Ground n q (b + 1) masks caps seats y next' prev' out' by' room x) (sym k.same_counts)
        (subst (λ (y : List ℕ). Ground n q (b + 1) masks caps seats counts y prev' out' by' room x) (sym k.same_next)
        (subst (λ (y : List ℕ). Ground n q (b + 1) masks caps seats counts next y out' by' room x) (sym k.same_prev)
        (record {
          seated = record { placed = g.seated.placed; ringed = g.seated.ringed; far = k.far };
          low = g.low;
          long = k.long;
          within = g.within;
          opened = g.opened;
          small = c.small;
          full = c.full;
          owns = λ i h t. c.owns i h (inr t);
          left = below_more (λ i. i < q → get_or seats i 0 ≡ n → Inside (get_or masks i 0) x) b
              (λ i h m e d t. c.over d (g.left i h m e d t)) (λ h _. c.owns b h (inl refl));
          least = λ S f m. c.least S (f b (omega arith) l off)
              (g.least S (λ i h. f i (omega arith)) (λ i h t. m i h (c.over (get_or seats i 0) t))) m;
        }))))

    -- block b is placed, and disk d, which had room, has one block more
    pub ground_free : {d : ℕ} {seats' counts' next' prev' out' by' : List ℕ} (room' : ℕ)
        → Gained n q b closed 0 masks seats counts room seats' counts' next' prev' out' by' d → Open n caps counts' room'
        → Ground n q (b + 1) masks caps seats' counts' next' prev' out' by' room' closed
    ground_free {d} {seats'} {counts'} room' w o =
        let m : More n q masks caps counts seats' counts' d = gained_more room caps g.seated.placed g.within g.opened w in
        let u = w.drawn in
        let was : (i : ℕ) → i < q → has closed (get_or seats' i 0) ≡ true → get_or seats' i 0 ≡ get_or seats i 0 =
        λ i h k. ⊎_elim (λ e. e) (λ e. absurd (differ k e.1)) (u.stay i h) in
        let still : (i : ℕ) → i < q → has closed (get_or seats i 0) ≡ true → get_or seats' i 0 ≡ get_or seats i 0 =
        λ i h k. ⊎_elim (λ e. e) (λ e. absurd (differ k e.0)) (u.stay i h) in
        record {
          seated = u.seated;
          low = g.low;
          long = w.long;
          within = m.within;
          opened = o;
          small = g.small;
          full = λ e k.
              let h = g.small e k in
              let z : e ≡ d → ⊥ = λ i. differ w.had (ap (has room) (sym i) ∙ g.full e k) in
              o e ∙ ap (λ (j : Bool). j && roomy caps counts' e) (lt-ltb e n h)
              ∙ ap (λ (j : ℕ). ltb j (get_or caps e 0)) (m.same e h z)
              ∙ full_roomy n e room caps counts g.opened h (g.full e k);
          owns = λ i h k. g.owns i h (ap (has closed) (sym (was i h k)) ∙ k);
          left = below_more (λ i. i < q → get_or seats' i 0 ≡ n → Inside (get_or masks i 0) closed) b
              (λ i h k e. g.left i h k (u.on i k e))
              (λ _ e. let z : ⊥ = omega (arith, e, u.here) in absurd z);
          least = λ S f k. g.least S
              (λ i h j e. f i (omega arith) j (u.others i j (omega arith) e))
              (λ i h e v. k i h (ap (has closed) (still i h e) ∙ e)
              (subst (λ (j : ℕ). touches q (holds masks) S j ≡ true) (sym (still i h e)) v));
        }

  -- all blocks have come
  pub ground_end : q ≤ b → Packed n q masks caps seats counts next prev out closed
  ground_end h =
      record {
        seated = g.seated;
        filled = record {
          placed = g.seated.placed;
          within = g.within;
          stuck = record {
            small = g.small;
            full = λ d t. full_roomy n d room caps counts g.opened (g.small d t) (g.full d t);
            owns = λ i l. ⊎_elim (λ e. g.left i (omega arith) l e) (λ t. g.owns i l t);
            least = λ cs S cl. g.least S
                (λ i k l e. cl.unplaced i l (omega (arith, e)))
                (λ i l t v. cl.owns i l (g.small (get_or seats i 0) t) v);
          };
        };
      }
