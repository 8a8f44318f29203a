-- What the disks read after one block's place changes.
--     But                                the same assignment but for one block
--     reads_move                         what each disk then reads, in one equation
--     reads_from, reads_to, reads_keep   the old disk reads one less, the new one more, any other the same
--     reads_ext                          equal assignments read the same
use Prim.Native.Nat.{ℕ, ◌+◌, ◌<◌}
use mathlib.Core.Path.{◌≡◌, ap}
use native.Mathlib.Omega.{arith}
use lib.Dec.{eqb}
use borrow.Author.Tests.{eq-eqb, ne_eqb}
use Rattle.basics.specs.Count.{bit}
use Rattle.model.specs.Assignment.{reads}
use Rattle.basics.proofs.Count.{bit_true, bit_false, count_point, count_ext}

-- a and a' are the same but for block b
unfoldable pub But : {A : Type 0} → ℕ → ℕ → (ℕ → A) → (ℕ → A) → Type 0
But q b a a' = (i : ℕ) → i < q → (i ≡ b → ⊥) → a i ≡ a' i

pub reads_move : (q b : ℕ) (a a' : ℕ → ℕ) → b < q → But q b a a'
    → (d : ℕ) → reads q a d + bit (eqb (a' b) d) ≡ reads q a' d + bit (eqb (a b) d)
unfolding reads But
reads_move q b a a' h e d =
    count_point q (λ i. eqb (a i) d) (λ i. eqb (a' i) d) b h (λ i h' n. ap (λ (x : ℕ). eqb x d) (e i h' n))

pub reads_from : (q b : ℕ) (a a' : ℕ → ℕ) → b < q → But q b a a'
    → (d : ℕ) → a b ≡ d → (a' b ≡ d → ⊥) → reads q a d ≡ reads q a' d + 1
reads_from q b a a' h e d s n =
    omega (
      arith,
      reads_move q b a a' h e d,
      bit_true (eqb (a b) d) (eq-eqb (a b) d s),
      bit_false (eqb (a' b) d) (ne_eqb (a' b) d n),
    )

pub reads_to : (q b : ℕ) (a a' : ℕ → ℕ) → b < q → But q b a a'
    → (d : ℕ) → (a b ≡ d → ⊥) → a' b ≡ d → reads q a' d ≡ reads q a d + 1
reads_to q b a a' h e d n s =
    omega (
      arith,
      reads_move q b a a' h e d,
      bit_false (eqb (a b) d) (ne_eqb (a b) d n),
      bit_true (eqb (a' b) d) (eq-eqb (a' b) d s),
    )

pub reads_keep : (q b : ℕ) (a a' : ℕ → ℕ) → b < q → But q b a a'
    → (d : ℕ) → (a b ≡ d → ⊥) → (a' b ≡ d → ⊥) → reads q a' d ≡ reads q a d
reads_keep q b a a' h e d n n' =
    omega (
      arith,
      reads_move q b a a' h e d,
      bit_false (eqb (a b) d) (ne_eqb (a b) d n),
      bit_false (eqb (a' b) d) (ne_eqb (a' b) d n'),
    )

pub reads_ext : (q : ℕ) (a a' : ℕ → ℕ) → ((b : ℕ) → b < q → a b ≡ a' b) → (d : ℕ) → reads q a d ≡ reads q a' d
unfolding reads
reads_ext q a a' e d = count_ext q (λ b. eqb (a b) d) (λ b. eqb (a' b) d) (λ b h. ap (λ (x : ℕ). eqb x d) (e b h))
