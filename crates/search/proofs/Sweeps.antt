-- The search, disk by disk.
--     Sweep               what holds whenever a disk is chosen: the blocks on the disks that are done bring nothing new
--     sweep_start         it holds at first, when b alone has come
--     reached, beyond     the disk that is chosen is reached, and not in base
--     sweep_on, sweep_less     it holds a disk later, and the disks that are left are fewer
--     sweep_end           where no disk is left, the reached disks are full and closed
--     visited_skip        a disk whose blocks can bring nothing new is as good as visited
use Prim.Native.Nat.{ℕ, ◌-◌, ◌≤◌, ◌<◌, ◌^◌}
use Rattle.std.specs.Prelude.{None}
use Rattle.std.proofs.lemmas.Option.{none-some}
use mathlib.Core.Path.{◌≡◌, refl, sym, ap, subst, ◌∙◌}
use mathlib.Core.Logic.{⊎_elim}
use mathlib.Core.Bool.{true, false, not, ◌&&◌, ◌||◌}
use mathlib.Core.List.{List}
use native.Mathlib.Omega.{arith}
use lib.Dec.{eqb, ltb}
use lib.ListN.{get_or, set, length-set}
use lib.Seq.{get_or-set_same}
use borrow.Author.Tests.{eqb-true, eq-eqb, ltb-true, ltb-false, not-true}
use Rattle.mask.specs.Has.{has}
use Rattle.mask.proofs.Has.{has_lt}
use Rattle.model.specs.Shortfall.{touches}
use Rattle.basics.proofs.Tests.{by_cases, differ, and_left, and_right, and_both, or_elim, or_left, or_right, not_here}
use Rattle.basics.proofs.Count.{any_here}
use Rattle.places.specs.Places.{holds}
use Rattle.places.specs.Among.{Inside}
use Rattle.places.specs.Seats.{Far}
use Rattle.search.specs.Search.{Caught}
use Rattle.search.specs.Outcome.{Seeking}
use Rattle.search.specs.Parts.{Seeks, Quiet, Visited}
use Rattle.basics.specs.Limits.{disks_most}
use Rattle.search.specs.declared.Reach.{Reach}
use Rattle.places.proofs.Among.{inside_zero}

pub record Sweep (n q b base bound : ℕ) (masks seats : List ℕ) (room : ℕ) (by : List ℕ) (steps x done : ℕ) : Type 0 where
  pub seeks : Seeks n q b base bound masks seats room by steps x
  pub fits : done < 2 ^ disks_most
  pub begun : Inside base done
  pub inside : Inside done x
  pub quiet : (e : ℕ) → has done e ≡ true → has base e ≡ false → Quiet q bound masks seats e x

module _ {n q b base bound : ℕ} {masks seats counts : List ℕ} {room : ℕ} {next prev out by₀ : List ℕ}
    (k : Seeking n q b base bound masks seats counts room next prev out by₀) where
  pub sweep_start : (x : ℕ) → ((e : ℕ) → holds masks b e ≡ true → has room e ≡ false) → x < 2 ^ disks_most → base < 2 ^ disks_most
      → ((e : ℕ) → has x e ≡ (has base e || has (get_or masks b 0) e))
      → Sweep n q b base bound masks seats room (set by₀ 0 b) 1 x base
  unfolding touches
  sweep_start x tight v v' f =
      let first : get_or (set by₀ 0 b) 0 0 ≡ b = get_or-set_same by₀ 0 b 0 (omega (arith, k.long)) in
      let here : (j : ℕ) → j < 1 → get_or (set by₀ 0 b) j 0 ≡ b =
      λ j h. ap (λ (i : ℕ). get_or (set by₀ 0 b) i 0) (let z : j ≡ 0 = omega arith in z) ∙ first in
      let none : (C : Type 0) (j : ℕ) → 0 < j → j < 1 → C = λ C j h h'. let z : ⊥ = omega arith in absurd z in
      let copy : (e : ℕ) → holds masks b e ≡ true → has x e ≡ true = λ e t. f e ∙ or_right (has base e) (holds masks b e) t in
      let split : (C : ℕ → Type 0) → ((e : ℕ) → has base e ≡ true → C e) → ((e : ℕ) → holds masks b e ≡ true → C e)
      → (e : ℕ) → has x e ≡ true → C e =
      λ C u w e t. ⊎_elim (u e) (w e) (or_elim (has base e) (holds masks b e) (sym (f e) ∙ t)) in
      record {
        seeks = record {
          long = length-set by₀ 0 b ∙ k.long;
          fits = v;
          over = λ e t. f e ∙ or_left (has base e) (holds masks b e) t;
          few = omega arith;
          notes = record {
            some = omega arith;
            first = first;
            blocks = λ j h. subst (λ (i : ℕ). i < q) (sym (here j h)) k.block;
            movable = λ j h. subst (λ (i : ℕ). bound ≤ i) (sym (here j h)) k.free;
            apart = λ i j h h' _. let z : ⊥ = omega arith in z;
            seat = λ j h h'. none _ j h h';
            away = λ j h h'. none _ j h h';
            brought = λ j h h'. none _ j h h';
          };
          taken = λ j h. subst (λ (i : ℕ). Inside (get_or masks i 0) x) (sym (here j h)) copy;
          came = λ e t u. ⊎_elim
              (λ w. absurd (differ w u))
              (λ w. (
                0,
                omega arith,
                subst (λ (i : ℕ). holds masks i e ≡ true) (sym first) w,
                λ g. let m = k.kept.small b e k.block w in omega (arith, ap (λ (i : ℕ). get_or seats i 0) first, g, k.off, m),
              ))
              (or_elim (has base e) (holds masks b e) (sym (f e) ∙ t));
          small = split (λ e. e < n) k.base_small (λ e. k.kept.small b e k.block);
          full = split (λ e. has room e ≡ false) k.base_full tight;
          least = λ S t u _. split (λ e. touches q (holds masks) S e ≡ true) u
              (λ e w. any_here q (λ j. S j && holds masks j e) b k.block (and_both (S b) (holds masks b e) t w));
        };
        fits = v';
        begun = λ e t. t;
        inside = λ e t. f e ∙ or_left (has base e) (holds masks b e) t;
        quiet = λ e t u. absurd (differ t u);
      }

  module _ {by : List ℕ} {steps x done : ℕ} (s : Sweep n q b base bound masks seats room by steps x done) where
    -- every reached disk is done
    pub sweep_end : Inside x done → Caught n q b base masks seats (has room) x
    sweep_end f =
        record {
          over = s.seeks.over;
          small = s.seeks.small;
          full = s.seeks.full;
          owns = λ i h u. ⊎_elim
              (λ e. subst (λ (j : ℕ). Inside (get_or masks j 0) x)
              (s.seeks.notes.first ∙ sym e) (s.seeks.taken 0 s.seeks.notes.some))
              (λ t. by_cases (has base (get_or seats i 0))
              (λ w d c. s.seeks.over d (k.base_owns i h w d c))
              (λ w. by_cases (ltb i bound)
              (λ g d c. subst (λ (j : ℕ). has x j ≡ true) (sym ((k.kept.fixed i (ltb-true i bound g)).1 d c)) t)
              (λ g. s.quiet (get_or seats i 0) (f (get_or seats i 0) t) w i (ltb-false i bound g) h refl)))
              u;
          least = s.seeks.least;
        }

    module _ (d w : ℕ) (fw : (e : ℕ) → has w e ≡ (has x e && not (has done e))) (t : has w d ≡ true) where
      pub reached : has x d ≡ true
      reached = and_left (has x d) (not (has done d)) (sym (fw d) ∙ t)

      fresh : has done d ≡ false
      fresh = not-true (has done d) (and_right (has x d) (not (has done d)) (sym (fw d) ∙ t))

      pub beyond : has base d ≡ false
      beyond = not_here (has base d) (λ u. differ (s.begun d u) fresh)

      module _ (done' : ℕ) (add : (e : ℕ) → has done' e ≡ (eqb e d || has done e)) (v : done' < 2 ^ disks_most) where
        pub sweep_on : {by' : List ℕ} {steps' x' : ℕ} → Seeks n q b base bound masks seats room by' steps' x' → Inside x x'
            → Quiet q bound masks seats d x' → Sweep n q b base bound masks seats room by' steps' x' done'
        sweep_on {x' = x'} r u g =
            let split : (C : ℕ → Type 0) → C d → ((e : ℕ) → has done e ≡ true → C e) → (e : ℕ) → has done' e ≡ true → C e =
            λ C p q' e h. ⊎_elim (λ i. subst C (sym (eqb-true e d i)) p) (q' e) (or_elim (eqb e d) (has done e) (sym (add e) ∙ h)) in
            record {
              seeks = r;
              fits = v;
              begun = λ e h. add e ∙ or_right (eqb e d) (has done e) (s.begun e h);
              inside = split (λ e. has x' e ≡ true) (u d reached) (λ e h. u e (s.inside e h));
              quiet = split (λ e. has base e ≡ false → Quiet q bound masks seats e x') (λ _. g)
                  (λ e h z i a c o j m. u j (s.quiet e h z i a c o j m));
            }

        pub sweep_less : 2 ^ disks_most - done' < 2 ^ disks_most - done
        sweep_less =
            omega (
              arith,
              v,
              has_lt disks_most done done' d s.fits
                  (λ e _ h. add e ∙ or_right (eqb e d) (has done e) h) fresh
                  (add d ∙ or_left (eqb d d) (has done d) (eq-eqb d d refl)),
            )

pub visited_skip : {n q b base bound d : ℕ} {masks seats out by : List ℕ} {room : ℕ} (w : ℕ) (r : Reach) → r.free ≡ None → d < n
    → Far n q bound masks seats out → Seeks n q b base bound masks seats room by r.steps r.disks
    → ((e : ℕ) → has w e ≡ (has (get_or out d 0) e && not (has r.disks e))) → w ≡ 0
    → Visited n q b base bound d masks seats room r.disks by out r
visited_skip {n} {d = d} {out = out} w r h l f s g z =
    record {
      far = f;
      long = s.long;
      found = λ f u. absurd (none-some f (sym h ∙ u));
      seeks = λ _. s;
      quiet = λ _ j a c o e t. inside_zero (get_or out d 0) r.disks w g z e
          (subst (λ (m : ℕ). has (get_or out m 0) e ≡ true) o (f.each j a c (subst (λ (m : ℕ). m < n) (sym o) l) e t));
      more = λ _ e t. t;
    }
