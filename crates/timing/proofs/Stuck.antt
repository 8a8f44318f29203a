-- As many blocks placed as there is room for at a time.
--     within_caps                  within what caps has is within the capacities at a time
--     stuck_closed                 the blocks whose copies all lie on the reached disks are closed
--     stuck_least                  they are the short set
--     stuck_none                   where there is a schedule in that time, no block is left over
--     restored                     the short set just before a time, and a schedule in that time again
use Prim.Native.Nat.{ℕ, ◌-◌}
use mathlib.Core.Path.{◌≡◌}
use mathlib.Core.Logic.{inl, inr}
use mathlib.Core.Bool.{Bool, true}
use mathlib.Core.List.{List}
use native.Mathlib.Omega.{arith}
use lib.Dec.{ltb, eqb}
use lib.ListN.{get_or}
use borrow.Author.Tests.{ltb-true, ltb-false, eqb-true, eqb-false}
use Rattle.mask.specs.Has.{has}
use Rattle.model.specs.Assignment.{Partial, Valid, Within}
use Rattle.model.specs.Case.{capacity_at}
use Rattle.model.specs.Shortfall.{touches, Sub, Short}
use Rattle.model.specs.Closed.{Closed}
use Rattle.basics.proofs.Tests.{by_cases}
use Rattle.model.proofs.Duality.{none_short}
use Rattle.model.proofs.Closed.{exact, least_closed}
use Rattle.places.specs.Places.{entry, holds}
use Rattle.places.specs.Table.{masked_case, Table, Copies}
use Rattle.places.specs.Among.{among}
use Rattle.fill.specs.Packed.{MostPlaced}
use Rattle.places.proofs.Laws.{unplaced_count, all_placed}
use Rattle.places.proofs.Among.{inside_has, has_inside, among_touched}
use Rattle.capacity.specs.Capacities.{Capacities}
use Rattle.timing.specs.Times.{Timed, ShortDisks, Restored}
use Rattle.timing.specs.Parts.{FilledAt}

pub within_caps : {n : ℕ} {costs starts : List ℕ} {t : ℕ} {caps : List ℕ} → Capacities n costs starts t caps
    → (q : ℕ) (masks seats : List ℕ) → Within n q (entry caps) (entry seats)
    → Within n q (capacity_at (masked_case n q masks costs starts) t) (entry seats)
unfolding Within capacity_at
within_caps c q masks seats w d l = omega (arith, c.each d l, w d l)

module _ {n q : ℕ} {masks costs starts : List ℕ} {t : ℕ} {caps seats counts : List ℕ} {x : ℕ} (tb : Table n costs starts)
    (cs : Copies n q masks) (c : Capacities n costs starts t caps) (f : MostPlaced n q masks caps seats counts x) where
  abbrev C : ℕ → ℕ
  C = capacity_at (masked_case n q masks costs starts) t

  abbrev S : ℕ → Bool
  S = among masks x

  within : Within n q C (entry seats)
  within = within_caps c q masks seats f.within

  -- a disk that the set touches is reached
  touched : (d : ℕ) → touches q (holds masks) S d ≡ true → has x d ≡ true
  touched = among_touched n q x masks tb.few cs.small

  stuck_closed : Closed n q (holds masks) C (entry seats) S
  unfolding capacity_at
  stuck_closed =
      record {
        unplaced = λ b h l. has_inside (get_or masks b 0) x (f.stuck.owns b h (inl (omega (arith, l, f.placed.low b h))));
        full = λ d l u.
            let r = ltb-false (get_or counts d 0) (get_or caps d 0) (f.stuck.full d (touched d u)) in
            omega (arith, r, f.placed.tally d (omega arith), c.each d l);
        owns = λ b h l u. has_inside (get_or masks b 0) x (f.stuck.owns b h (inr (touched (get_or seats b 0) u)));
      }

  pub stuck_least : ShortDisks n q masks costs starts t x
  unfolding Sub Partial
  stuck_least =
      least_closed n q (holds masks) C (entry seats) f.placed.copies within S stuck_closed
      (λ S' cl b h e. by_cases (ltb (get_or seats b 0) n)
      (λ u. let l = ltb-true (get_or seats b 0) n u in
      let k : holds masks b (get_or seats b 0) ≡ true = f.placed.copies b h l in
      cl.owns b h l (f.stuck.least C S' cl (get_or seats b 0)
      (inside_has (get_or masks b 0) x (get_or seats b 0) (omega (arith, tb.few)) e k)))
      (λ u. cl.unplaced b h (ltb-false (get_or seats b 0) n u)))

  -- a block that is left over would make the set short
  pub stuck_none : (a : ℕ → ℕ) → Valid n q (holds masks) a → Within n q C a → get_or counts n 0 ≡ 0
  unfolding Short
  stuck_none a v w =
      by_cases (eqb (get_or counts n 0) 0)
      (λ e. eqb-true (get_or counts n 0) 0 e)
      (λ e. let z = eqb-false (get_or counts n 0) 0 e in
      absurd (none_short n q (holds masks) C a v w S (omega (
        arith,
        exact n q (holds masks) C (entry seats) f.placed.copies within S stuck_closed,
        unplaced_count f.placed,
      ))))

-- the short set just before t is found, and as many blocks as there is room for at t are all blocks, since a schedule was there
pub restored : {n q : ℕ} {masks costs starts : List ℕ} {t : ℕ} {caps seats counts next prev out : List ℕ} {u : ℕ}
    {caps₁ seats₁ counts₁ next₁ prev₁ out₁ : List ℕ} {x : ℕ} {caps₂ seats₂ counts₂ next₂ prev₂ out₂ : List ℕ} {y : ℕ}
    → Table n costs starts → Copies n q masks → Timed n q masks costs starts t caps seats counts next prev out
    → u ≡ t - 1 → FilledAt n q masks costs starts u caps₁ seats₁ counts₁ next₁ prev₁ out₁ x
    → FilledAt n q masks costs starts t caps₂ seats₂ counts₂ next₂ prev₂ out₂ y
    → Restored n q masks costs starts t caps₂ seats₂ counts₂ next₂ prev₂ out₂ x
restored {q = q} {masks = masks} {seats = seats} tb cs s e f g =
    record {
      short = rw (← e) (stuck_least tb cs f.caps_at f.packed.filled);
      timed = record {
        ready = record { seated = g.packed.seated; within = g.packed.filled.within; small = cs.small };
        whole = stuck_none tb cs g.caps_at g.packed.filled (entry seats) (all_placed s.ready.seated.placed s.whole)
            (within_caps s.caps_at q masks seats s.ready.within);
        caps_at = g.caps_at;
      };
    }
