-- The longest plan sheet has 2,964 bytes.
--     longest, longest_fits     no plan in range has more, so a buffer of so many bytes is enough
--     longest_reached           one has as many: all 1,024 blocks in the short set
use mathlib.Core.Path.{◌≡◌, refl, ap, ◌∙◌}
use mathlib.Core.List.{List, [], ◌∷◌}
use Prim.Native.Nat.{ℕ, zero, suc, ◌+◌, ◌-◌, ◌*◌, ◌/◌, ◌≤◌, ◌<◌}
use native.Mathlib.Omega.{arith}
use borrow.Author.Tests.{le-leb, ltb-true, ltb-false}
use lib.Dec.{ltb}
use lib.ListN.{length, replicate, length-append, length-replicate}
use Rattle.basics.specs.Choice.{pick}
use Rattle.number.specs.Encode.{encode_by, encode, width_of}
use Rattle.basics.proofs.Choice.{pick_true}
use Rattle.basics.proofs.Tests.{by_cases}
use Rattle.number.proofs.Encode.{width_one, width_more, width_top, width_bounds}
use Rattle.field.specs.Put.{spell_all}
use Rattle.field.specs.Sheet.{got}
use Rattle.field.specs.Send.{Draft, answer_to}
use Rattle.basics.specs.Lists.{All, Rises}
use Rattle.plan.specs.Plan.{Plan, plan_of}
use Rattle.plan.proofs.Reading.{any_some, any_most}
use Rattle.plan.specs.Range.{InRange}
use Rattle.plan.specs.Draft.{plan_bytes, plan_draft}
use Rattle.plan.proofs.Writing.{heading_length, bytes_length, plan_drafted}
use Rattle.basics.specs.Limits.{disks_most, blocks_most, time_most, plan_most}

-- a disk number has one byte
disks_width : (xs : List ℕ) → All (λ d. d ≤ disks_most - 1) xs → length (spell_all encode xs) ≡ length xs
unfolding All spell_all width_of
disks_width [] h = refl
disks_width (x ∷ xs) h =
    omega (arith, length-append (encode x) (spell_all encode xs), width_one x (omega (arith, h.0)), disks_width xs h.1)

-- rising numbers below 1,024 are no longer than all numbers from the first that may stand there: one byte each below 128, then two
rising_width : (floor high : ℕ) (xs : List ℕ) → high < blocks_most → Rises floor high xs
    → length (spell_all encode xs) ≤ (128 - floor) + 2 * ((blocks_most - 128) - (floor - 128))
unfolding Rises spell_all width_of
rising_width floor high [] l h = omega arith
rising_width floor high (x ∷ xs) l h =
    let rest : length (spell_all encode xs) ≤ (128 - (x + 1)) + 2 * ((blocks_most - 128) - (x + 1 - 128)) =
    rising_width (x + 1) high xs l h.2 in
    by_cases (ltb x 128) (λ t. omega (arith, length-append (encode x) (spell_all encode xs), width_one x (ltb-true x 128 t), h.0, h.1))
    (λ f. omega (
      arith,
      length-append (encode x) (spell_all encode xs),
      width_top 1 x (omega (arith, h.1)) (omega (arith, h.1)),
      ltb-false x 128 f,
      h.0,
      h.1,
    ))

-- whatever the unit and the tenancy: 1 + 5 + 5 + 2 + 5 + 1,024 + 2 + 1,920
pub longest : (unit t : ℕ) (p : Plan) → InRange p → length (plan_bytes unit t p) ≤ plan_most
longest unit t p r =
    omega (
      arith,
      bytes_length unit t p,
      heading_length unit t (length p.disks) p.time,
      width_bounds unit,
      width_bounds t,
      width_top 1 (length p.disks) (omega (arith, r.few)) (omega (arith, r.few)),
      width_bounds p.time,
      disks_width p.disks r.disks,
      width_top 1 (length p.short) (omega (arith, r.few, r.size_to)) (omega (arith, r.few, r.size_to)),
      rising_width 0 (length p.disks - 1) p.short (omega (arith, r.few)) r.blocks,
      r.few,
    )

-- so a buffer of 2,964 bytes is enough for every plan in range
pub longest_fits : (unit t : ℕ) (p : Plan) (out : List ℕ) → InRange p → plan_most ≤ length out
    → answer_to (plan_draft unit t p) out ≡ got tt (length (plan_bytes unit t p))
unfolding answer_to
longest_fits unit t p out r h =
    ap (λ (d : Draft). answer_to d out) (plan_drafted unit t p r)
    ∙ pick_true _ _ (le-leb (length (plan_bytes unit t p)) (length out) (omega (arith, longest unit t p r)))

-- ---- one that is as long

-- so many blocks, from one on
up_from : ℕ → ℕ → List ℕ
up_from floor zero = []
up_from floor (suc k) = floor ∷ up_from (floor + 1) k

up_length : (floor k : ℕ) → length (up_from floor k) ≡ k
unfolding up_from
up_length floor zero = refl
up_length floor (suc k) = ap suc (up_length (floor + 1) k)

up_rises : (floor k high : ℕ) → floor + k ≤ high + 1 → Rises floor high (up_from floor k)
unfolding up_from Rises
up_rises floor zero high l = tt
up_rises floor (suc k) high l = (omega arith, omega arith, up_rises (floor + 1) k high (omega arith))

-- one byte each below 128, then two
up_width : (floor k : ℕ) → floor + k ≤ 128 * 128 → length (spell_all encode (up_from floor k)) ≡ k + (floor + k - 128 - (floor - 128))
unfolding up_from spell_all width_of
up_width floor zero l = omega arith
up_width floor (suc k) l =
    let both = length-append (encode floor) (spell_all encode (up_from (floor + 1) k)) in
    let behind = up_width (floor + 1) k (omega arith) in
    by_cases (ltb floor 128) (λ t. omega (arith, both, behind, width_one floor (ltb-true floor 128 t), ltb-true floor 128 t))
    (λ f. let high : 128 ≤ floor = ltb-false floor 128 f in
    omega (arith, both, behind, width_more floor high (omega arith), width_one (floor / 128) (omega arith)))

disks_zero : (q : ℕ) → All (λ d. d ≤ disks_most - 1) (replicate q 0)
unfolding All
disks_zero zero = tt
disks_zero (suc q) = (omega arith, disks_zero q)

-- the greatest unit and tenancy and the longest time have five bytes, Q and m two
five : (width_of 4294967295 ≡ 5) × (width_of time_most ≡ 5)
unfolding width_of encode encode_by pick
five = (refl, refl)

two : width_of blocks_most ≡ 2
unfolding width_of encode encode_by pick
two = refl

full : ℕ → Plan
full q = plan_of time_most (replicate q 0) (up_from 0 q)

full_range : (q : ℕ) → q ≡ blocks_most → InRange (full q)
unfolding full
full_range q e =
    let disks : List ℕ = replicate q 0 in
    let ds = length-replicate {A = ℕ} q 0 in
    let bs = up_length 0 q in
    record {
      few = omega (arith, ds, e);
      time_from = omega (arith, any_most (length disks) 1);
      time_to = omega (arith, any_some (length disks) time_most (λ z. omega (arith, ds, e)));
      disks = disks_zero q;
      size_from = omega (arith, any_most (length disks) 1, bs, e);
      size_to = omega (arith, ds, bs);
      blocks = up_rises 0 q (length disks - 1) (omega (arith, ds, e));
    }

full_reached : (q : ℕ) → q ≡ blocks_most → length (plan_bytes 4294967295 4294967295 (full q)) ≡ plan_most
unfolding full
full_reached q e =
    let ds = length-replicate {A = ℕ} q 0 in
    let bs = up_length 0 q in
    omega (
      arith,
      bytes_length 4294967295 4294967295 (full q),
      heading_length 4294967295 4294967295 (length (full q).disks) time_most,
      five,
      two,
      ap width_of (ds ∙ e),
      ap width_of (bs ∙ e),
      disks_width (replicate q 0) (disks_zero q),
      ds,
      up_width 0 q (omega (arith, e)),
      e,
    )

pub longest_reached : (p : Plan) × InRange p × (length (plan_bytes 4294967295 4294967295 p) ≡ plan_most)
longest_reached = (full blocks_most, full_range blocks_most refl, full_reached blocks_most refl)
