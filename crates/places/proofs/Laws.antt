-- Laws of places.
--     moved          the lists after the stores of a move
--     reads_most, reads_here     what a disk reads is seats most q, and seats least 1 where a block is there
--     movable        where seats and counts fit together, a block can go to any other place
--     placed_move    they fit together after a move to none or to a copy
use Prim.Native.Nat.{ℕ, ◌+◌, ◌-◌, ◌≤◌, ◌<◌}
use mathlib.Core.Path.{◌≡◌, refl, sym, ap, subst, ◌∙◌}
use mathlib.Core.Bool.{true}
use mathlib.Core.List.{List}
use native.Mathlib.Omega.{arith}
use lib.Dec.{eqb, leb}
use lib.ListN.{get_or, set, length-set}
use lib.Seq.{get_or-set_same, get_or-set_other}
use borrow.Author.Tests.{eqb-true, eqb-false, eq-eqb, leb-true, le-leb}
use Rattle.model.specs.Assignment.{reads, Partial, Valid}
use Rattle.basics.proofs.Tests.{by_cases, same_test}
use Rattle.basics.proofs.Count.{count_ext, count_most, count_here}
use Rattle.model.proofs.Move.{But, reads_from, reads_to, reads_keep}
use Rattle.model.proofs.Duality.{unplaced, partial_valid}
use Rattle.places.specs.Places.{entry, holds, Placed, Movable, Moved}

-- the lists after the stores of a move
pub moved : {b d : ℕ} {seats counts : List ℕ} → Movable b d seats counts
    → Moved b d seats counts (set seats b d)
    (set (set counts d (get_or counts d 0 + 1)) (get_or seats b 0) (get_or (set counts d (get_or counts d 0 + 1)) (get_or seats b 0) 0 - 1))
    (get_or seats b 0)
moved {b} {d} {seats} {counts} m =
    let old : ℕ = get_or seats b 0 in
    let up : List ℕ = set counts d (get_or counts d 0 + 1) in
    let e : get_or up old 0 ≡ get_or counts old 0 = get_or-set_other counts d old (get_or counts d 0 + 1) 0 m.other in
    record {
      from = refl;
      here = get_or-set_same seats b d 0 (omega (arith, m.block, m.long_seats));
      others = λ i n. get_or-set_other seats b i d 0 n;
      less = ap (λ (x : ℕ). x + 1) (get_or-set_same up old (get_or up old 0 - 1) 0
          (omega (arith, length-set counts d (get_or counts d 0 + 1), m.seat, m.long_counts)))
          ∙ omega (arith, e, m.some);
      more = get_or-set_other up old d (get_or up old 0 - 1) 0 (λ p. m.other (sym p))
          ∙ get_or-set_same counts d (get_or counts d 0 + 1) 0 (omega (arith, m.place, m.long_counts));
      same = λ y n n'. get_or-set_other up old y (get_or up old 0 - 1) 0 n
          ∙ get_or-set_other counts d y (get_or counts d 0 + 1) 0 n';
      long_seats = length-set seats b d;
      long_counts = length-set up old (get_or up old 0 - 1) ∙ length-set counts d (get_or counts d 0 + 1);
    }

pub reads_most : (q : ℕ) (a : ℕ → ℕ) (d : ℕ) → reads q a d ≤ q
unfolding reads
reads_most q a d = count_most q (λ b. eqb (a b) d)

pub reads_here : (q : ℕ) (a : ℕ → ℕ) (b d : ℕ) → b < q → a b ≡ d → 0 < reads q a d
unfolding reads
reads_here q a b d h e = count_here q (λ i. eqb (a i) d) b h (eq-eqb (a b) d e)

module _ {n q : ℕ} {masks seats counts : List ℕ} (p : Placed n q masks seats counts) (b d : ℕ) (h : b < q) (l : d ≤ n)
    (o : get_or seats b 0 ≡ d → ⊥) where
  pub movable : Movable b d seats counts
  movable =
      record {
        block = omega (arith, p.blocks, h);
        place = omega (arith, p.disks, l);
        seat = omega (arith, p.disks, p.low b h);
        other = o;
        fits = omega (arith, p.tally d l, reads_most q (entry seats) d, p.blocks);
        some = omega (arith, p.tally (get_or seats b 0) (p.low b h), reads_here q (entry seats) b (get_or seats b 0) h refl);
        long_seats = p.long_seats;
        long_counts = p.long_counts;
      }

  module _ {seats' counts' : List ℕ} {old : ℕ} (m : Moved b d seats counts seats' counts' old) (c : d < n → holds masks b d ≡ true) where
    but : But q b (entry seats) (entry seats')
    unfolding But
    but i _ k = sym (m.others i k)

    -- a fact of every block's place, from the moved block's and the others'
    spread : (C : ℕ → ℕ → Type 0) → C b d → ((i : ℕ) → i < q → C i (get_or seats i 0)) → (i : ℕ) → i < q → C i (get_or seats' i 0)
    spread C here there i k =
        by_cases (eqb i b)
        (λ t. subst (λ (y : ℕ). C y (get_or seats' y 0)) (sym (eqb-true i b t)) (subst (C b) (sym m.here) here))
        (λ t. subst (C i) (sym (m.others i (eqb-false i b t))) (there i k))

    pub placed_move : Placed n q masks seats' counts'
    unfolding Partial
    placed_move =
        record {
          disks = p.disks;
          blocks = p.blocks;
          long_seats = m.long_seats ∙ p.long_seats;
          long_counts = m.long_counts ∙ p.long_counts;
          low = spread (λ i y. y ≤ n) l p.low;
          copies = λ i k t. spread (λ i y. y < n → holds masks i y ≡ true) c p.copies i k t;
          tally = λ e k. by_cases (eqb e old)
              (λ t. let r : e ≡ old = eqb-true e old t in
              ap (λ (y : ℕ). get_or counts' y 0) r
              ∙ omega (
                arith,
                m.less,
                p.tally (get_or seats b 0) (p.low b h),
                ap (λ (y : ℕ). get_or counts y 0) m.from,
                reads_from q b (entry seats) (entry seats') h but e (sym (r ∙ m.from)) (λ z. o (sym (r ∙ m.from) ∙ sym z ∙ m.here)),
                ap (reads q (entry seats)) (r ∙ m.from),
              ))
              (λ t. by_cases (eqb e d)
              (λ u. let r : e ≡ d = eqb-true e d u in
              ap (λ (y : ℕ). get_or counts' y 0) r
              ∙ omega (
                arith,
                m.more,
                p.tally d l,
                reads_to q b (entry seats) (entry seats') h but e (λ z. o (z ∙ r)) (m.here ∙ sym r),
                ap (reads q (entry seats)) r,
              ))
              (λ u. m.same e (eqb-false e old t) (eqb-false e d u) ∙ p.tally e k
              ∙ sym (reads_keep q b (entry seats) (entry seats') h but e (λ z. eqb-false e old t (sym z ∙ sym m.from))
              (λ z. eqb-false e d u (sym z ∙ m.here)))));
        }

module _ {n q : ℕ} {masks seats counts : List ℕ} (p : Placed n q masks seats counts) where
  pub unplaced_count : unplaced n q (entry seats) ≡ get_or counts n 0
  unfolding unplaced reads
  unplaced_count =
      count_ext q (λ b. leb n (get_or seats b 0)) (λ b. eqb (get_or seats b 0) n)
      (λ b h. same_test (leb n (get_or seats b 0)) (eqb (get_or seats b 0) n)
      (λ t. eq-eqb (get_or seats b 0) n (let u = leb-true n (get_or seats b 0) t in omega (arith, p.low b h)))
      (λ t. le-leb n (get_or seats b 0) (let u = eqb-true (get_or seats b 0) n t in omega arith)))
      ∙ sym (p.tally n (omega arith))

  pub all_placed : get_or counts n 0 ≡ 0 → Valid n q (holds masks) (entry seats)
  all_placed e = partial_valid n q (holds masks) (entry seats) p.copies (unplaced_count ∙ e)

  -- the same places under other copies
  pub recopied : (masks' : List ℕ)
      → ((b : ℕ) → b < q → get_or seats b 0 < n → holds masks b (get_or seats b 0) ≡ true → holds masks' b (get_or seats b 0) ≡ true)
      → Placed n q masks' seats counts
  unfolding Partial
  recopied masks' f =
      record {
        disks = p.disks;
        blocks = p.blocks;
        long_seats = p.long_seats;
        long_counts = p.long_counts;
        low = p.low;
        copies = λ b h l. f b h l (p.copies b h l);
        tally = p.tally;
      }
