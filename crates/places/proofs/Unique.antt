-- No second answer satisfies a promise; masks are of disks_most bits.
--     moved_unique, shifted_unique     `shift`
--     open_unique                      `open`, `reopen`
use Prim.Native.Nat.{ℕ, ◌+◌, ◌<◌, ◌^◌}
use mathlib.Core.Path.{◌≡◌, sym, ap, ◌∙◌}
use mathlib.Core.List.{List}
use native.Mathlib.Omega.{arith}
use lib.Dec.{eqb}
use lib.ListN.{get_or, set}
use lib.Seq.{ext_get_or}
use borrow.Author.Tests.{eqb-true, eqb-false}
use Rattle.basics.specs.Limits.{disks_most, blocks_most}
use Rattle.basics.proofs.Tests.{by_cases}
use Rattle.mask.proofs.Has.{has_ext}
use Rattle.places.specs.Places.{Moved}
use Rattle.places.specs.Seats.{Shifted, Relinked}
use Rattle.places.specs.Room.{Open}

pub moved_unique : {b d r₁ r₂ : ℕ} {seats counts seats₁ counts₁ seats₂ counts₂ : List ℕ} → Moved b d seats counts seats₁ counts₁ r₁
    → Moved b d seats counts seats₂ counts₂ r₂ → (r₁ ≡ r₂) × (seats₁ ≡ seats₂) × (counts₁ ≡ counts₂)
moved_unique {b} {d} {r₁} {r₂} {seats} {counts} {seats₁} {counts₁} {seats₂} {counts₂} p q =
    let e : r₁ ≡ r₂ = p.from ∙ sym q.from in (
      e,
      ext_get_or 0 seats₁ seats₂ (p.long_seats ∙ sym q.long_seats) (λ i _. by_cases (eqb i b)
          (λ t. let s : i ≡ b = eqb-true i b t in
          ap (λ (j : ℕ). get_or seats₁ j 0) s ∙ p.here ∙ sym q.here ∙ sym (ap (λ (j : ℕ). get_or seats₂ j 0) s))
          (λ t. let s = eqb-false i b t in p.others i s ∙ sym (q.others i s))),
      ext_get_or 0 counts₁ counts₂ (p.long_counts ∙ sym q.long_counts) (λ i _. by_cases (eqb i d)
          (λ t. let s : i ≡ d = eqb-true i d t in
          ap (λ (j : ℕ). get_or counts₁ j 0) s ∙ p.more ∙ sym q.more ∙ sym (ap (λ (j : ℕ). get_or counts₂ j 0) s))
          (λ t. let n = eqb-false i d t in by_cases (eqb i r₁)
          (λ u. let s : i ≡ r₁ = eqb-true i r₁ u in
          omega (
            arith,
            ap (λ (j : ℕ). get_or counts₁ j 0) s,
            ap (λ (j : ℕ). get_or counts₂ j 0) (s ∙ e),
            p.less,
            q.less,
            ap (λ (j : ℕ). get_or counts j 0) e,
          ))
          (λ u. let k = eqb-false i r₁ u in p.same i k n ∙ sym (q.same i (λ z. k (z ∙ sym e)) n)))),
    )

relinked_unique : {b d : ℕ} {next prev next₁ prev₁ next₂ prev₂ : List ℕ} → Relinked b d next prev next₁ prev₁
    → Relinked b d next prev next₂ prev₂ → (next₁ ≡ next₂) × (prev₁ ≡ prev₂)
relinked_unique {b} {d} p q =
    let n : p.mid_next ≡ q.mid_next = p.out.0 ∙ sym q.out.0 in
    let m : p.mid_prev ≡ q.mid_prev = p.out.1 ∙ sym q.out.1 in
    let e = ap (λ (l : List ℕ). get_or l (blocks_most + d) 0) m in (
      p.back.0 ∙ ap (λ (l : List ℕ). set (set l b (blocks_most + d)) (get_or p.mid_prev (blocks_most + d) 0) b) n
          ∙ ap (λ (x : ℕ). set (set q.mid_next b (blocks_most + d)) x b) e ∙ sym q.back.0,
      p.back.1 ∙ ap (λ (l : List ℕ). set (set l b (get_or p.mid_prev (blocks_most + d) 0)) (blocks_most + d) b) m
          ∙ ap (λ (x : ℕ). set (set q.mid_prev b x) (blocks_most + d) b) e ∙ sym q.back.1,
    )

pub shifted_unique : {b d r₁ r₂ : ℕ} {masks seats counts next prev out : List ℕ}
    {seats₁ counts₁ next₁ prev₁ out₁ seats₂ counts₂ next₂ prev₂ out₂ : List ℕ}
    (p : Shifted b d masks seats counts next prev out seats₁ counts₁ next₁ prev₁ out₁ r₁)
    (q : Shifted b d masks seats counts next prev out seats₂ counts₂ next₂ prev₂ out₂ r₂)
    → p.grown.0 < 2 ^ disks_most → q.grown.0 < 2 ^ disks_most
    → ((r₁ ≡ r₂) × (seats₁ ≡ seats₂) × (counts₁ ≡ counts₂)) × ((next₁ ≡ next₂) × (prev₁ ≡ prev₂)) × (out₁ ≡ out₂)
shifted_unique {d = d} {out = out} p q h h' = (
  moved_unique p.moved q.moved,
  relinked_unique p.relinked q.relinked,
  p.grown.1
      ∙ ap (set out d) (has_ext disks_most p.grown.0 q.grown.0 h h' (λ e _. p.grown.2 e ∙ sym (q.grown.2 e)))
      ∙ sym q.grown.1,
)

-- there is one mask of the disks that have room
pub open_unique : (n : ℕ) (caps counts : List ℕ) (r r' : ℕ) → r < 2 ^ disks_most → r' < 2 ^ disks_most → Open n caps counts r
    → Open n caps counts r' → r ≡ r'
open_unique n caps counts r r' h h' o o' = has_ext disks_most r r' h h' (λ d _. o d ∙ sym (o' d))
