-- What the callers of the search cite.
--     shifted_drawn                 a block that was on no disk has gone to one of its copies
--     drawn_more, gained_more       one block more on a disk, for the capacities
--     caught_roomy                  the reached disks, for the capacities
--     open_but                      the disks that have room, after one more block
use Prim.Native.Nat.{ℕ, ◌≤◌, ◌<◌}
use mathlib.Core.Path.{◌≡◌, refl, sym, ap, ◌∙◌}
use mathlib.Core.Logic.{inl, inr}
use mathlib.Core.Bool.{Bool, true, false, ◌&&◌}
use mathlib.Core.List.{List}
use native.Mathlib.Omega.{arith}
use lib.Dec.{eqb, ltb}
use lib.ListN.{get_or}
use borrow.Author.Tests.{ltb-true, lt-ltb, eqb-true, eqb-false, eq-eqb, ne_eqb}
use Rattle.mask.specs.Has.{has}
use Rattle.model.specs.Assignment.{Within}
use Rattle.basics.proofs.Tests.{by_cases, and_left, and_right, and_both}
use Rattle.basics.proofs.Count.{bit_true, bit_false}
use Rattle.places.specs.Places.{entry, holds, roomy, Placed}
use Rattle.places.specs.Seats.{Seated, Shifted}
use Rattle.places.specs.Room.{Open, OpenBut}
use Rattle.search.specs.Search.{Caught, Drawn}
use Rattle.search.specs.Outcome.{Gained, More}
use Rattle.places.proofs.Shifts.{seated_shift}
use Rattle.places.proofs.Room.{full_roomy}

-- block b, which was on no disk, has gone to disk d
pub shifted_drawn : {n q bound b d old : ℕ} {masks seats counts next prev out seats' counts' next' prev' out' : List ℕ} (base : ℕ)
    → Seated n q bound masks seats counts next prev out → bound ≤ b → b < q → d < n → get_or seats b 0 ≡ n → holds masks b d ≡ true
    → has base d ≡ false → has base n ≡ false → Shifted b d masks seats counts next prev out seats' counts' next' prev' out' old
    → Drawn n q b base bound d masks seats counts seats' counts' next' prev' out'
shifted_drawn {n} {q} {bound} {b} {d} {old} {masks} {seats} {counts} {next} {prev} {out} {seats'} {counts'} base s a l k off c z z' v =
    let o : get_or seats b 0 ≡ d → ⊥ = λ e. omega (arith, e, off, k) in
    let m = v.moved in
    let w : old ≡ n = m.from ∙ off in
    record {
      seated = seated_shift s b d l (omega arith) o a v (λ _. c);
      shifted = λ e u. by_cases (eqb e n)
          (λ t. let r : e ≡ n = eqb-true e n t in
          omega (
            arith,
            m.less,
            ap (λ (i : ℕ). get_or counts i 0) (r ∙ sym w),
            ap (λ (i : ℕ). get_or counts' i 0) (r ∙ sym w),
            bit_true (eqb e n) t,
            bit_false (eqb e d) (ne_eqb e d (λ g. omega (arith, g, r, k))),
          ))
          (λ t. by_cases (eqb e d)
          (λ x. let r : e ≡ d = eqb-true e d x in
          omega (
            arith,
            m.more,
            ap (λ (i : ℕ). get_or counts i 0) r,
            ap (λ (i : ℕ). get_or counts' i 0) r,
            bit_false (eqb e n) t,
            bit_true (eqb e d) x,
          ))
          (λ x. omega (
            arith,
            m.same e (λ g. eqb-false e n t (g ∙ w)) (eqb-false e d x),
            bit_false (eqb e n) t,
            bit_false (eqb e d) x,
          )));
      stay = λ i _. by_cases (eqb i b)
          (λ t. let e = eqb-true i b t in
          inr (
            ap (λ (j : ℕ). has base (get_or seats j 0)) e ∙ ap (has base) off ∙ z',
            ap (λ (j : ℕ). has base (get_or seats' j 0)) e ∙ ap (has base) m.here ∙ z,
          ))
          (λ t. inl (m.others i (eqb-false i b t)));
      here = omega (arith, m.here, k);
      on = λ i _ e. by_cases (eqb i b)
          (λ t. absurd (omega (arith, ap (λ (j : ℕ). get_or seats' j 0) (eqb-true i b t), m.here, e, k)))
          (λ t. sym (m.others i (eqb-false i b t)) ∙ e);
      others = λ i _ u e. m.others i u ∙ e;
    }

module _ {n q : ℕ} {masks seats counts : List ℕ} (room : ℕ) (caps : List ℕ) (p : Placed n q masks seats counts)
    (w : Within n q (entry caps) (entry seats)) (o : Open n caps counts room) where
  pub drawn_more : {b base bound d : ℕ} {seats' counts' next' prev' out' : List ℕ} → has room d ≡ true
      → Drawn n q b base bound d masks seats counts seats' counts' next' prev' out' → More n q masks caps counts seats' counts' d
  unfolding Within
  drawn_more {d = d} t u =
      let both : (ltb d n && roomy caps counts d) ≡ true = sym (o d) ∙ t in
      let l : d < n = ltb-true d n (and_left (ltb d n) (roomy caps counts d) both) in
      let r : get_or counts d 0 < get_or caps d 0 = ltb-true _ _ (and_right (ltb d n) (roomy caps counts d) both) in
      record {
        placed = u.seated.placed;
        within = λ e h.
            let k = u.shifted e (omega arith) in
            let z = bit_false (eqb e n) (ne_eqb e n (omega arith)) in
            let y = u.seated.placed.tally e (omega arith) in
            let x = p.tally e (omega arith) in
            by_cases (eqb e d)
            (λ s. let i : e ≡ d = eqb-true e d s in
            omega (arith, bit_true (eqb e d) s, ap (λ (j : ℕ). get_or counts j 0) i, ap (λ (j : ℕ). get_or caps j 0) i))
            (λ s. omega (arith, bit_false (eqb e d) s, w e h));
        fewer = sym (omega (
          arith,
          u.shifted n (omega arith),
          bit_true (eqb n n) (eq-eqb n n refl),
          bit_false (eqb n d) (ne_eqb n d (omega arith)),
        ));
        disk = l;
        room = r;
        same = λ e h z. omega (
          arith,
          u.shifted e (omega arith),
          bit_false (eqb e n) (ne_eqb e n (omega arith)),
          bit_false (eqb e d) (ne_eqb e d z),
        );
      }

  pub gained_more : {b base bound d : ℕ} {seats' counts' next' prev' out' by' : List ℕ}
      → Gained n q b base bound masks seats counts room seats' counts' next' prev' out' by' d → More n q masks caps counts seats' counts' d
  gained_more g = drawn_more g.had g.drawn

pub caught_roomy : {n q b base x : ℕ} {masks seats : List ℕ} (room : ℕ) (caps counts : List ℕ) → Open n caps counts room
    → Caught n q b base masks seats (has room) x → Caught n q b base masks seats (roomy caps counts) x
caught_roomy {n} room caps counts o c =
    record {
      over = c.over;
      small = c.small;
      full = λ d t. full_roomy n d room caps counts o (c.small d t) (c.full d t);
      owns = c.owns;
      least = c.least;
    }

-- ---- the disks that have room, after one more block

-- the room of another disk is what it was
pub open_but : {n q d : ℕ} {masks caps counts seats' counts' : List ℕ} (room : ℕ) → Open n caps counts room
    → More n q masks caps counts seats' counts' d → OpenBut n d caps counts' room
open_but {n} {q} {d} {masks} {caps} {counts} {seats'} {counts'} room o m =
    record {
      disk = m.disk;
      here = o d ∙ and_both (ltb d n) (roomy caps counts d) (lt-ltb d n m.disk) (lt-ltb _ _ m.room);
      others = λ e z. o e ∙ by_cases (ltb e n)
          (λ t. ap (λ (y : ℕ). ltb e n && ltb y (get_or caps e 0)) (sym (m.same e (ltb-true e n t) z)))
          (λ t. ap (λ (y : Bool). y && roomy caps counts e) t ∙ sym (ap (λ (y : Bool). y && roomy caps counts' e) t));
    }
