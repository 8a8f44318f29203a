-- No request is longer than 9,234 bytes, and one is as long.
--     longest_written, longest_read     what is written, and what is accepted
--     longest_reached                   kind 4 with the greatest age, and 1,024 blocks with eight copies each
use mathlib.Core.Path.{◌≡◌, refl, ap, ◌∙◌}
use mathlib.Core.Bool.{Bool}
use mathlib.Core.Logic.{inr}
use mathlib.Core.List.{List}
use Prim.Native.Nat.{ℕ, zero, suc, ◌+◌, ◌*◌, ◌≤◌}
use native.Mathlib.Omega.{arith}
use lib.ListN.{length, replicate, length-append, length-replicate}
use Rattle.number.specs.Bytes.{Bytes}
use Rattle.number.specs.Encode.{encode_by, encode, width_of}
use Rattle.number.proofs.Encode.{width_top, width_bounds}
use Rattle.basics.specs.Choice.{pick}
use Rattle.basics.specs.Lists.{All}
use Rattle.mask.specs.Has.{has}
use Rattle.mask.specs.Count.{members}
use Rattle.basics.specs.Count.{bit, sum, count}
use Rattle.field.specs.Put.{spell_all}
use Rattle.field.specs.Sheet.{got}
use Rattle.field.specs.Send.{sheet}
use Rattle.request.specs.Request.{Said, request_sheet}
use Rattle.request.specs.Draft.{block_bytes, age_bytes, request_bytes, request_draft}
use Rattle.request.proofs.Aged.{kind_listed, kind_small, aged_other, age_held, age_bound}
use Rattle.request.proofs.Writing.{block_length, Sendable, Drafted, drafted, draft_of_law, heading_length, blocks_bound, request_length}
use Rattle.request.proofs.RoundTrip.{write_accepted}
use Rattle.basics.specs.Limits.{disks_most, blocks_most, copies_most, request_most}

module _ (k unit t a n : ℕ) (ms bs : List ℕ) where
  -- the bytes of the values of a draft, as they are added up
  added : Drafted k unit t a n ms bs
      → length bs ≡ 1 + width_of unit + width_of t + length (age_bytes k a) + width_of (length ms) + length (spell_all block_bytes ms)
  added d =
      omega (
        arith,
        ap length d.bytes,
        request_length k unit t a (length ms) ms refl refl
            (record { count = d.head.count; bytes = refl; small = blocks_bound n ms d.blocks }),
        heading_length k unit t a (length ms) (kind_small k d.head.kind),
      )

  pub longest_written : request_draft k unit t a n ms ≡ sheet bs → length bs ≤ request_most
  longest_written h =
      let d : Drafted k unit t a n ms bs = drafted k unit t a n ms bs h in
      omega (
        arith,
        added d,
        width_bounds unit,
        width_bounds t,
        age_bound k a,
        width_top 1 (length ms) (omega (arith, d.head.count)) (omega (arith, d.head.count)),
        blocks_bound n ms d.blocks,
        d.head.count,
      )

pub longest_read : (unit t n : ℕ) (out : ℕ → Bool) (s : List ℕ) (r : Said) (e : ℕ) → Bytes s → n ≤ disks_most
    → request_sheet unit t n out s 0 ≡ got r e → length s ≤ request_most
longest_read unit t n out s r e b l h = longest_written r.kind unit t r.age n r.copies s (write_accepted unit t n out s r e b l h)

-- ---- one that is as long

-- disks 0 to 7
eight : members disks_most 255 ≡ copies_most
unfolding count sum bit has
eight = refl

full_blocks : (q : ℕ) → All (Sendable disks_most) (replicate q 255)
unfolding All
full_blocks zero = tt
full_blocks (suc q) = (record { some = λ z. omega arith; few = omega (arith, eight); under = omega arith }, full_blocks q)

full_length : (q : ℕ) → length (spell_all block_bytes (replicate q 255)) ≡ (1 + copies_most) * q
unfolding spell_all
full_length zero = refl
full_length (suc q) =
    omega (arith, length-append (block_bytes 255) (spell_all block_bytes (replicate q 255)), block_length 255, eight, full_length q)

-- the greatest unit, tenancy and age have five bytes, and Q has two
five : width_of 4294967295 ≡ 5
unfolding width_of encode encode_by pick
five = refl

two : width_of blocks_most ≡ 2
unfolding width_of encode encode_by pick
two = refl

full : (q : ℕ) → q ≡ blocks_most → let ms : List ℕ = replicate q 255 in
    Drafted 4 4294967295 4294967295 4294967295 disks_most ms (request_bytes 4 4294967295 4294967295 4294967295 ms)
full q e = record {
  head = record {
    kind = kind_listed 4 (inr refl);
    rented = λ z. omega arith;
    aged = aged_other 4 4294967295 (λ z. omega arith);
    known = λ z. omega arith;
    within = omega arith;
    count = omega (arith, length-replicate {A = ℕ} q 255, e);
  };
  blocks = full_blocks q;
  bytes = refl;
}

full_reached : (q : ℕ) → q ≡ blocks_most → (bs : List ℕ)
    × (request_draft 4 4294967295 4294967295 4294967295 disks_most (replicate q 255) ≡ sheet bs) × (length bs ≡ request_most)
unfolding width_of
full_reached q e =
    let d = full q e in (
      _,
      draft_of_law _ _ _ _ _ _ _ d,
      omega (
        arith,
        added _ _ _ _ _ _ _ d,
        five,
        ap length (age_held 4 4294967295 refl),
        two,
        ap width_of (length-replicate {A = ℕ} q 255 ∙ e),
        full_length q,
        e,
      ),
    )

pub longest_reached : (bs : List ℕ)
    × (request_draft 4 4294967295 4294967295 4294967295 disks_most (replicate blocks_most 255) ≡ sheet bs) × (length bs ≡ request_most)
longest_reached = full_reached blocks_most refl
