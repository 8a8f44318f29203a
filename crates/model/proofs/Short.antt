-- The short set exists and is one, for any disks, blocks, copies and capacities.
--     union_size      sizes of union and intersection add up
--     submodular      their rooms add up to no more
--     meet_greatest   the intersection of two sets with the greatest shortfall has it too
--     greatest_exists, short_exists    a set with the greatest shortfall; the short set
--     short_one       there is exactly one short set
use Prim.Native.Nat.{ℕ, suc, ◌+◌, ◌-◌, ◌≤◌}
use mathlib.Core.Path.{◌≡◌, refl, sym, ap₂, ◌∙◌}
use mathlib.Core.Bool.{Bool, true, false, ◌&&◌, ◌||◌}
use mathlib.Core.Logic.{⊎_elim}
use native.Mathlib.Omega.{arith}
use lib.Dec.{leb}
use borrow.Author.Tests.{leb-true, le-leb}
use Rattle.basics.specs.Count.{bit, gate, count, any}
use Rattle.model.specs.Shortfall.{touches, size, room, Sub, NoShorter, Greatest, ShortSet}
use Rattle.model.specs.Order.{Agree}
use Rattle.basics.proofs.Tests.{by_cases, differ, and_left, and_right, and_both, or_elim, not_here}
use Rattle.basics.proofs.Count.{gate_true, gate_false, gate_le, sum_ext, sum_le, sum_add, count_ext, count_most, count_tight, any_some}
use Rattle.basics.proofs.Count.{any_here}
use Rattle.model.proofs.Duality.{room_mono, room_ext, touches_mono}
use Rattle.model.proofs.Closed.{short_unique}
use Rattle.model.proofs.Subsets.{FirstOnly, most}

-- the blocks of either set, and those of both
unfoldable pub union : (ℕ → Bool) → (ℕ → Bool) → ℕ → Bool
union S T b = S b || T b

unfoldable pub meet : (ℕ → Bool) → (ℕ → Bool) → ℕ → Bool
meet S T b = S b && T b

bit_union : (a b : Bool) → bit (a || b) + bit (a && b) ≡ bit a + bit b
unfolding bit
bit_union true true = refl
bit_union true false = refl
bit_union false true = refl
bit_union false false = refl

pub union_size : (q : ℕ) (S T : ℕ → Bool) → size q (union S T) + size q (meet S T) ≡ size q S + size q T
unfolding size count union meet
union_size q S T =
    sym (sum_add q (λ b. bit (S b || T b)) (λ b. bit (S b && T b)))
    ∙ sum_ext q (λ b. bit (S b || T b) + bit (S b && T b)) (λ b. bit (S b) + bit (T b)) (λ b h. bit_union (S b) (T b))
    ∙ sum_add q (λ b. bit (S b)) (λ b. bit (T b))

pub union_touches : (q : ℕ) (copy : ℕ → ℕ → Bool) (S T : ℕ → Bool) (d : ℕ)
    → touches q copy S d ≡ false → touches q copy T d ≡ false → touches q copy (union S T) d ≡ false
unfolding touches union
union_touches q copy S T d s t =
    not_here (any q (λ b. (S b || T b) && copy b d))
    (λ e. let f = any_some q (λ b. (S b || T b) && copy b d) e in
    let b = f.0 in
    let c : copy b d ≡ true = and_right (S b || T b) (copy b d) f.2 in
    ⊎_elim
    (λ r. differ (any_here q (λ i. S i && copy i d) b f.1 (and_both (S b) (copy b d) r c)) s)
    (λ r. differ (any_here q (λ i. T i && copy i d) b f.1 (and_both (T b) (copy b d) r c)) t)
    (or_elim (S b) (T b) (and_left (S b || T b) (copy b d) f.2)))

meet_left : (q : ℕ) (copy : ℕ → ℕ → Bool) (S T : ℕ → Bool) (d : ℕ) → touches q copy S d ≡ false → touches q copy (meet S T) d ≡ false
unfolding meet
meet_left q copy S T d s =
    not_here (touches q copy (meet S T) d)
    (λ e. differ (touches_mono q copy (meet S T) S (λ b h. and_left (S b) (T b)) d e) s)

meet_right : (q : ℕ) (copy : ℕ → ℕ → Bool) (S T : ℕ → Bool) (d : ℕ) → touches q copy T d ≡ false → touches q copy (meet S T) d ≡ false
unfolding meet
meet_right q copy S T d t =
    not_here (touches q copy (meet S T) d)
    (λ e. differ (touches_mono q copy (meet S T) T (λ b h. and_right (S b) (T b)) d e) t)

-- on one disk: a disk that the intersection touches both touch, one that the union touches one of them touches
disk_submodular : (q : ℕ) (copy : ℕ → ℕ → Bool) (S T : ℕ → Bool) (d x : ℕ)
    → gate (touches q copy (union S T) d) x + gate (touches q copy (meet S T) d) x
    ≤ gate (touches q copy S d) x + gate (touches q copy T d) x
disk_submodular q copy S T d x =
    let U = touches q copy (union S T) d in
    let M = touches q copy (meet S T) d in
    by_cases (touches q copy S d)
    (λ s. by_cases (touches q copy T d)
    (λ t. omega (arith, gate_true (touches q copy S d) x s, gate_true (touches q copy T d) x t, gate_le U x, gate_le M x))
    (λ t. omega (arith, gate_true (touches q copy S d) x s, gate_le U x, gate_false M x (meet_right q copy S T d t))))
    (λ s. by_cases (touches q copy T d)
    (λ t. omega (arith, gate_true (touches q copy T d) x t, gate_le U x, gate_false M x (meet_left q copy S T d s)))
    (λ t. omega (arith, gate_false U x (union_touches q copy S T d s t), gate_false M x (meet_left q copy S T d s))))

pub submodular : (n q : ℕ) (copy : ℕ → ℕ → Bool) (capacities : ℕ → ℕ) (S T : ℕ → Bool)
    → room n q copy capacities (union S T) + room n q copy capacities (meet S T)
    ≤ room n q copy capacities S + room n q copy capacities T
unfolding room
submodular n q copy capacities S T =
    let g : (ℕ → Bool) → ℕ → ℕ = λ X d. gate (touches q copy X d) (capacities d) in
    omega (
      arith,
      sum_add n (g (union S T)) (g (meet S T)),
      sum_add n (g S) (g T),
      sum_le n (λ d. g (union S T) d + g (meet S T) d) (λ d. g S d + g T d)
          (λ d h. disk_submodular q copy S T d (capacities d)),
    )

module _ (n q : ℕ) (copy : ℕ → ℕ → Bool) (capacities : ℕ → ℕ) where
  pub meet_greatest : (S T : ℕ → Bool) → Greatest n q copy capacities S → Greatest n q copy capacities T
      → Greatest n q copy capacities (meet S T)
  unfolding Greatest NoShorter
  meet_greatest S T s t X =
      omega (arith, s X, t (union S T), submodular n q copy capacities S T, union_size q S T)

  all : ℕ → Bool
  all b = true

  -- a set's shortfall, and all the room there is: never negative
  above : (ℕ → Bool) → ℕ
  above S = size q S + (room n q copy capacities all - room n q copy capacities S)

  above_law : (S S' : ℕ → Bool) → (above S' ≤ above S) → NoShorter n q copy capacities S' S
  unfolding above NoShorter all
  above_law S S' h =
      omega (
        arith,
        room_mono n q copy capacities S all (λ b l e. refl),
        room_mono n q copy capacities S' all (λ b l e. refl),
      )

  above_back : (S S' : ℕ → Bool) → NoShorter n q copy capacities S' S → above S' ≤ above S
  unfolding above NoShorter all
  above_back S S' h =
      omega (
        arith,
        room_mono n q copy capacities S all (λ b l e. refl),
        room_mono n q copy capacities S' all (λ b l e. refl),
      )

  above_only : FirstOnly q above
  unfolding FirstOnly Agree above size
  above_only S S' e =
      ap₂ (λ (x y : ℕ). x + (room n q copy capacities all - y)) (count_ext q S S' e) (room_ext n q copy capacities S S' e)

  pub greatest_exists : (S : ℕ → Bool) × Greatest n q copy capacities S
  unfolding Greatest
  greatest_exists = let f = most q above above_only in (f.0, λ S'. above_law f.0 S' (f.1 S'))

  -- more for fewer blocks, and nothing where the shortfall is less than that of G
  merit : (ℕ → Bool) → (ℕ → Bool) → ℕ
  merit G S = gate (leb (above G) (above S)) (suc q - size q S)

  merit_only : (G : ℕ → Bool) → FirstOnly q (merit G)
  unfolding FirstOnly Agree merit size
  merit_only G S S' e =
      ap₂ (λ (x y : ℕ). gate (leb (above G) x) (suc q - y)) (above_only S S' e) (count_ext q S S' e)

  -- of the sets with the greatest shortfall, one with the fewest blocks
  fewest : (G : ℕ → Bool) → Greatest n q copy capacities G
      → (S : ℕ → Bool) × Greatest n q copy capacities S × ((T : ℕ → Bool) → Greatest n q copy capacities T → size q S ≤ size q T)
  unfolding Greatest NoShorter merit size
  fewest G g =
      let f = most q (merit G) (merit_only G) in
      let S : ℕ → Bool = f.0 in
      let worth : (T : ℕ → Bool) → above G ≤ above T → merit G T ≡ suc q - size q T =
      λ T l. gate_true (leb (above G) (above T)) (suc q - size q T) (le-leb (above G) (above T) l) in
      let own : above G ≤ above S =
      by_cases (leb (above G) (above S))
      (λ e. leb-true (above G) (above S) e)
      (λ e. let z : ⊥ =
      omega
      (arith, f.1 G, worth G (omega arith), gate_false (leb (above G) (above S)) (suc q - size q S) e, count_most q G) in
      absurd z) in (
        S,
        λ X. omega (arith, g X, above_law S G own),
        λ T t. omega (arith, f.1 T, worth S own, worth T (above_back T G (t G)), count_most q S, count_most q T),
      )

  pub short_exists : (S : ℕ → Bool) × ShortSet n q copy capacities S
  unfolding Sub meet size
  short_exists =
      let G = greatest_exists in
      let F = fewest G.0 G.1 in
      let S : ℕ → Bool = F.0 in (
        S,
        record {
          greatest = F.1;
          least = λ T t b h s.
              and_right (S b) (T b)
              (count_tight q (meet S T) S (λ i l. and_left (S i) (T i)) (F.2 (meet S T) (meet_greatest S T F.1 t)) b (omega arith) s);
        },
      )

  -- exactly one
  pub short_one : (S : ℕ → Bool) × ShortSet n q copy capacities S × ((T : ℕ → Bool) → ShortSet n q copy capacities T → Agree q S T)
  short_one =
      let f = short_exists in
      (f.0, f.1, λ T t. short_unique n q copy capacities f.0 T f.1 t)
