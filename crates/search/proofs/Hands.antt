-- The way back along the steps.
--     Hand               what holds whenever a step is looked at: disk d has room that start had
--     hand_start, hand_end     it holds at first, and at the end the room has come to b
--     some, y_block      a step is left, and it is of a block
--     hand_skip          the step does not help
--     hand_shifting, hand_move     its block can go to d, and leaves room where it was
use Prim.Native.Nat.{ℕ, ◌+◌, ◌-◌, ◌≤◌, ◌<◌}
use mathlib.Core.Path.{◌≡◌, refl, sym, ap, subst, ◌∙◌}
use mathlib.Core.Logic.{◌⊎◌, inl, inr, ⊎_elim}
use mathlib.Core.Bool.{true, false}
use mathlib.Core.List.{List}
use native.Mathlib.Omega.{arith}
use lib.Dec.{eqb}
use lib.ListN.{get_or}
use borrow.Author.Tests.{eqb-true, eqb-false, ne_eqb}
use Rattle.mask.specs.Has.{has}
use Rattle.basics.specs.Count.{bit}
use Rattle.basics.proofs.Tests.{by_cases, differ, not_here}
use Rattle.basics.proofs.Count.{bit_true, bit_false}
use Rattle.places.specs.Places.{holds, Moved}
use Rattle.places.specs.Seats.{Seated, Shifting, Shifted}
use Rattle.search.specs.Search.{Drawn}
use Rattle.search.specs.Parts.{Brought, Drawing}
use Rattle.places.proofs.Shifts.{seated_shifting, seated_shift}

pub record Hand (n q b base bound start : ℕ) (masks by seats₀ counts₀ seats counts next prev out : List ℕ) (d k : ℕ) : Type 0 where
  pub seated : Seated n q bound masks seats counts next prev out
  pub within : d ≤ n
  pub shifted : (e : ℕ) → e ≤ n → get_or counts e 0 + bit (eqb e d) ≡ get_or counts₀ e 0 + bit (eqb e start)
  pub stay : (i : ℕ) → i < q → (get_or seats i 0 ≡ get_or seats₀ i 0)
      ⊎ ((has base (get_or seats₀ i 0) ≡ false) × (has base (get_or seats i 0) ≡ false))
  pub here : d ≡ n → get_or seats b 0 < n
  pub on : (i : ℕ) → i < q → get_or seats i 0 ≡ n → get_or seats₀ i 0 ≡ n
  pub others : (i : ℕ) → i < q → (i ≡ b → ⊥) → get_or seats₀ i 0 ≡ n → get_or seats i 0 ≡ n
  pub same : (j : ℕ) → j < k → get_or seats (get_or by j 0) 0 ≡ get_or seats₀ (get_or by j 0) 0
  pub need : (d ≡ n → ⊥) → Brought masks seats₀ by d k × (has base d ≡ false)

module _ {n q b base bound start steps : ℕ} {masks by seats₀ counts₀ next₀ prev₀ out₀ : List ℕ}
    (g : Drawing n q b base bound start steps masks by seats₀ counts₀ next₀ prev₀ out₀) where
  pub hand_start : Hand n q b base bound start masks by seats₀ counts₀ seats₀ counts₀ next₀ prev₀ out₀ start steps
  hand_start =
      record {
        seated = g.seated;
        within = omega (arith, g.way.disk);
        shifted = λ e _. refl;
        stay = λ i _. inl refl;
        here = λ e. let z : ⊥ = omega (arith, e, g.way.disk) in absurd z;
        on = λ i _ e. e;
        others = λ i _ _ e. e;
        same = λ j _. refl;
        need = λ _. (g.way.here, g.way.beyond);
      }

  pub hand_end : {seats counts next prev out : List ℕ} {d k : ℕ} → d ≡ n
      → Hand n q b base bound start masks by seats₀ counts₀ seats counts next prev out d k
      → Drawn n q b base bound start masks seats₀ counts₀ seats counts next prev out
  hand_end {counts = counts} r h =
      record {
        seated = h.seated;
        shifted = λ e l. ap (λ (y : ℕ). get_or counts e 0 + bit (eqb e y)) (sym r) ∙ h.shifted e l;
        stay = h.stay;
        here = h.here r;
        on = h.on;
        others = h.others;
      }

  module _ {seats counts next prev out : List ℕ} {d k : ℕ}
      (h : Hand n q b base bound start masks by seats₀ counts₀ seats counts next prev out d k) (o : d ≡ n → ⊥) (l : k ≤ steps) where
    pub some : 0 < k
    some = omega (arith, (h.need o).0.1)

    last : k - 1 < k
    last = omega (arith, some)

    abbrev y : ℕ
    y = get_or by (k - 1) 0

    pub y_block : y < q
    y_block = g.way.notes.blocks (k - 1) (omega (arith, last, l))

    y_seat : get_or seats y 0 ≡ get_or seats₀ y 0
    y_seat = h.same (k - 1) last

    -- a step that does not help: another one before it brought d
    pub hand_skip : (get_or seats y 0 ≡ d) ⊎ (holds masks y d ≡ false)
        → Hand n q b base bound start masks by seats₀ counts₀ seats counts next prev out d (k - 1)
    hand_skip w =
        let f = (h.need o).0 in
        let apart : f.0 ≡ k - 1 → ⊥ = λ e.
        ⊎_elim
        (λ u. f.3 (ap (λ (j : ℕ). get_or seats₀ (get_or by j 0) 0) e ∙ sym y_seat ∙ u))
        (λ u. differ (subst (λ (j : ℕ). holds masks (get_or by j 0) d ≡ true) e f.2) u)
        w in
        record {
          seated = h.seated;
          within = h.within;
          shifted = h.shifted;
          stay = h.stay;
          here = h.here;
          on = h.on;
          others = h.others;
          same = λ j u. h.same j (omega (arith, u, some));
          need = λ _. ((f.0, omega (arith, f.1, apart, some), f.2, f.3), (h.need o).1);
        }

    module _ (z : get_or seats y 0 ≡ d → ⊥) (c : holds masks y d ≡ true) where
      pub hand_shifting : Shifting y d seats counts next prev
      hand_shifting = seated_shifting h.seated y d y_block h.within z

      -- where y was, if it was on a disk
      first_off : k - 1 ≡ 0 → get_or seats y 0 ≡ n
      first_off e = y_seat ∙ ap (λ (j : ℕ). get_or seats₀ (get_or by j 0) 0) e ∙ ap (λ (j : ℕ). get_or seats₀ j 0) g.way.notes.first ∙ g.off

      base_none : has base n ≡ false
      base_none = not_here (has base n) (λ t. omega (arith, g.base_small n t))

      away : has base (get_or seats₀ y 0) ≡ false
      away =
          by_cases (eqb (k - 1) 0)
          (λ t. ap (has base) (sym y_seat ∙ first_off (eqb-true (k - 1) 0 t)) ∙ base_none)
          (λ t. g.way.notes.away (k - 1) (let i = eqb-false (k - 1) 0 t in omega arith) (omega (arith, last, l)))

      module _ {seats' counts' next' prev' out' : List ℕ} {old : ℕ}
          (m : Shifted y d masks seats counts next prev out seats' counts' next' prev' out' old) where
        v : Moved y d seats counts seats' counts' old
        v = m.moved

        apart : old ≡ d → ⊥
        apart e = z (sym v.from ∙ e)

        -- y came from no disk only if it is b
        first_only : old ≡ n → y ≡ b
        first_only e =
            by_cases (eqb (k - 1) 0)
            (λ t. ap (λ (j : ℕ). get_or by j 0) (eqb-true (k - 1) 0 t) ∙ g.way.notes.first)
            (λ t. let u = g.way.notes.seat (k - 1) (let i = eqb-false (k - 1) 0 t in omega arith) (omega (arith, last, l)) in
            absurd (omega (arith, u, y_seat, v.from, e)))

        pub hand_move : Hand n q b base bound start masks by seats₀ counts₀ seats' counts' next' prev' out' old (k - 1)
        hand_move =
            record {
              seated = seated_shift h.seated y d y_block h.within z
                  (g.way.notes.movable (k - 1) (omega (arith, last, l))) m (λ _. c);
              within = omega (arith, v.from, h.seated.placed.low y y_block);
              shifted = λ e u. by_cases (eqb e old)
                  (λ t. let r : e ≡ old = eqb-true e old t in
                  omega (
                    arith,
                    h.shifted e u,
                    v.less,
                    ap (λ (i : ℕ). get_or counts i 0) r,
                    ap (λ (i : ℕ). get_or counts' i 0) r,
                    bit_true (eqb e old) t,
                    bit_false (eqb e d) (ne_eqb e d (λ w. apart (sym r ∙ w))),
                  ))
                  (λ t. by_cases (eqb e d)
                  (λ w. let r : e ≡ d = eqb-true e d w in
                  omega (
                    arith,
                    h.shifted e u,
                    v.more,
                    ap (λ (i : ℕ). get_or counts i 0) r,
                    ap (λ (i : ℕ). get_or counts' i 0) r,
                    bit_false (eqb e old) t,
                    bit_true (eqb e d) w,
                  ))
                  (λ w. omega (
                    arith,
                    h.shifted e u,
                    v.same e (eqb-false e old t) (eqb-false e d w),
                    bit_false (eqb e old) t,
                    bit_false (eqb e d) w,
                  )));
              stay = λ i u. by_cases (eqb i y)
                  (λ t. let r : i ≡ y = eqb-true i y t in
                  inr (
                    ap (λ (j : ℕ). has base (get_or seats₀ j 0)) r ∙ away,
                    ap (λ (j : ℕ). has base (get_or seats' j 0)) r ∙ ap (has base) v.here ∙ (h.need o).1,
                  ))
                  (λ t. subst (λ (j : ℕ). (j ≡ get_or seats₀ i 0) ⊎ ((has base (get_or seats₀ i 0) ≡ false) × (has base j ≡ false)))
                  (sym (v.others i (eqb-false i y t))) (h.stay i u));
              here = λ e. subst (λ (j : ℕ). j < n)
                  (sym v.here ∙ ap (λ (j : ℕ). get_or seats' j 0) (first_only e)) (omega (arith, h.within, o));
              on = λ i u e. by_cases (eqb i y)
                  (λ t. absurd (o (sym v.here ∙ ap (λ (j : ℕ). get_or seats' j 0) (sym (eqb-true i y t)) ∙ e)))
                  (λ t. h.on i u (sym (v.others i (eqb-false i y t)) ∙ e));
              others = λ i u w e. by_cases (eqb i y)
                  (λ t. let p = h.others i u w e in
                  absurd (w (eqb-true i y t ∙ first_only (v.from ∙ ap (λ (j : ℕ). get_or seats j 0) (sym (eqb-true i y t)) ∙ p))))
                  (λ t. v.others i (eqb-false i y t) ∙ h.others i u w e);
              same = λ j u. v.others (get_or by j 0) (g.way.notes.apart j (k - 1) u (omega (arith, last, l)))
                  ∙ h.same j (omega (arith, u, some));
              need = λ w.
                  let p : 0 < k - 1 = by_cases (eqb (k - 1) 0) (λ t. absurd (w (v.from ∙ first_off (eqb-true (k - 1) 0 t))))
                  (λ t. let i = eqb-false (k - 1) 0 t in omega arith) in
                  let e : get_or seats₀ y 0 ≡ old = sym y_seat ∙ sym v.from in (
                    subst (λ (j : ℕ). Brought masks seats₀ by j (k - 1)) e (g.way.notes.brought (k - 1) p (omega (arith, last, l))),
                    ap (has base) (sym e) ∙ away,
                  );
            }
