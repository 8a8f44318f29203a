-- No input of the bench is longer than its longest: what follows that many bytes and one more changes nothing.
--     bench_more     bytes behind an input that is too long
--     bench_cut      the first bytes of an input are enough
use mathlib.Core.Path.{◌≡◌, refl, sym, ap, ◌∙◌, subst}
use mathlib.Core.List.{List, ◌++◌}
use mathlib.Core.Logic.{inl, inr}
use Prim.Native.Nat.{ℕ, ◌+◌, ◌≤◌, ◌<◌}
use native.Mathlib.Omega.{arith}
use borrow.Author.Tests.{ne_eqb, leb-true, leb-false}
use lib.Dec.{leb}
use lib.ListN.{length, take, drop, length-append, take-append-drop}
use lib.Seq.{length-take-le, take_all}
use Rattle.basics.specs.Limits.{request_most}
use Rattle.basics.proofs.Choice.{pick_false}
use Rattle.basics.proofs.Tests.{by_cases}
use Rattle.field.specs.Field.{number, end}
use Rattle.field.specs.Sheet.{Out, got, refused, Parser, and_then, ◌>>=◌, ◌>>◌, pure}
use Rattle.unit.specs.declared.Unit.{Unit}
use Rattle.unit.specs.Life.{Verdict, accepted, rent, set}
use Rattle.unit.specs.Life.{refused as denied}
use Rattle.unit.specs.Unit.{new_unit}
use Rattle.stream.specs.Frame.{sheet}
use Rattle.stream.proofs.Steady.{Wants, Same, number_steady, steady_sheet}
use Rattle.stream.proofs.Reach.{Far, number_far, sheet_far}
use Rattle.console.specs.Bench.{input_most, Ready, judge, accept, close, apply, hire, bench_input}

module _ (s r : List ℕ) where
  -- a reader that does not reach the end of the bytes gives the same with more behind them
  far_same : {A : Type 0} (o q : Out A) (at k w : ℕ) → Same (length s) o q → Far (length s) at k w o → at + w ≤ length s → q ≡ o
  unfolding Same Far Wants
  far_same (got a e) q at k w (inl h) f l = absurd h
  far_same (refused n) q at k w (inl h) f l = absurd (let g : length s < at + w = f h in omega arith)
  far_same o q at k w (inr h) f l = h.0

  -- and ends within so many bytes
  far_end : {A : Type 0} (o : Out A) (at k w : ℕ) (a : A) (e : ℕ) → Far (length s) at k w o → o ≡ got a e → e ≤ at + k
  unfolding Far
  far_end o at k w a e f h = (subst (Far (length s) at k w) h f).1

  then_agrees : {A B : Type 0} (o : Out A) (f g : A → ℕ → Out B) → ((a : A) (e : ℕ) → o ≡ got a e → f a e ≡ g a e)
      → and_then o f ≡ and_then o g
  unfolding and_then
  then_agrees (got a e) f g h = h a e refl
  then_agrees (refused n) f g h = refl

  bind_agrees : {A B : Type 0} (p : Parser A) (k : A → Parser B) (at : ℕ) → p (s ++ r) at ≡ p s at
      → ((a : A) (e : ℕ) → p s at ≡ got a e → k a (s ++ r) e ≡ k a s e) → (p >>= k) (s ++ r) at ≡ (p >>= k) s at
  unfolding ◌>>=◌
  bind_agrees {A} p k at h g = ap (λ (o : Out A). and_then o (λ a e. k a (s ++ r) e)) h ∙ then_agrees (p s at) _ _ g

  module _ (long : input_most < length s) where
    number_agrees : (at : ℕ) → at + 5 ≤ input_most → number (s ++ r) at ≡ number s at
    number_agrees at l =
        far_same (number s at) (number (s ++ r) at) at 5 5 (number_steady.more_bytes s r at (omega arith))
        (number_far s at (omega arith)) (omega arith)

    sheet_agrees : (at : ℕ) → at + (2 + request_most) ≤ input_most → sheet (s ++ r) at ≡ sheet s at
    sheet_agrees at l =
        far_same (sheet s at) (sheet (s ++ r) at) at (2 + request_most) (2 + request_most) (steady_sheet.more_bytes s r at (omega arith))
        (sheet_far s at (omega arith)) (omega arith)

    -- there is input after the second sheet
    end_agrees : (at : ℕ) → at ≤ input_most → end (s ++ r) at ≡ end s at
    unfolding end
    end_agrees at l =
        pick_false _ _ (ne_eqb at (length (s ++ r)) (λ q. omega (arith, length-append s r)))
        ∙ sym (pick_false _ _ (ne_eqb at (length s) (λ q. omega arith)))

    close_agrees : (u : Unit) (at : ℕ) → at + (2 + request_most) ≤ input_most → close u (s ++ r) at ≡ close u s at
    unfolding close ◌>>◌ pure
    close_agrees u at l =
        bind_agrees sheet _ at (sheet_agrees at l) λ x e h.
        ap {B = Out Ready} (λ (o : Out ℕ). and_then o (λ z n. got (record { unit = u; request = x }) n))
        (end_agrees e (omega (arith, far_end (sheet s at) at (2 + request_most) (2 + request_most) x e (sheet_far s at (omega arith)) h)))

    judge_at : (v : Verdict) (u w : Unit) (at e : ℕ) → judge v u at ≡ got w e → e ≡ at
    unfolding judge
    judge_at accepted u w at e h = let q : at ≡ e = cc in sym q
    judge_at (denied n) u w at e h = absurd (let z : ◌≡◌ {A = ℕ} 0 1 = cc in omega arith)

    apply_agrees : (u : Unit) (at : ℕ) → at ≤ 10 → apply u (s ++ r) at ≡ apply u s at
    unfolding apply accept
    apply_agrees u at l =
        bind_agrees sheet _ at (sheet_agrees at (omega arith)) λ x e h.
        bind_agrees (accept (set u x)) _ e refl λ v f j.
        close_agrees v f
        (omega (
          arith,
          judge_at (set u x).verdict (set u x).unit v e f j,
          far_end (sheet s at) at (2 + request_most) (2 + request_most) x e
              (sheet_far s at (omega arith)) h,
        ))

    hire_agrees : (n t at : ℕ) → at ≤ 10 → hire n t (s ++ r) at ≡ hire n t s at
    unfolding hire accept
    hire_agrees n t at l =
        bind_agrees (accept (rent (new_unit n) t)) _ at refl λ v f j.
        apply_agrees v f (omega (arith, judge_at (rent (new_unit n) t).verdict (rent (new_unit n) t).unit v at f j))

    pub bench_more : bench_input (s ++ r) 0 ≡ bench_input s 0
    unfolding bench_input
    bench_more =
        bind_agrees number _ 0 (number_agrees 0 (omega arith)) λ n e h.
        let i : e ≤ 5 = omega (arith, far_end (number s 0) 0 5 5 n e (number_far s 0 (omega arith)) h) in
        bind_agrees number _ e (number_agrees e (omega arith)) λ t f j.
        hire_agrees n t f (omega (arith, far_end (number s e) e 5 5 t f (number_far s e (omega arith)) j))

-- the longest input and one byte more are enough
pub bench_cut : (s : List ℕ) → bench_input (take (input_most + 1) s) 0 ≡ bench_input s 0
bench_cut s =
    by_cases (leb (length s) input_most)
    (λ t. ap (λ (x : List ℕ). bench_input x 0) (take_all (input_most + 1) s (omega (arith, leb-true (length s) input_most t))))
    (λ f.
    let l : length (take (input_most + 1) s)
    ≡ input_most + 1 = length-take-le (input_most + 1) s (omega (arith, leb-false (length s) input_most f)) in
    sym (bench_more (take (input_most + 1) s) (drop (input_most + 1) s) (omega arith))
    ∙ ap (λ (x : List ℕ). bench_input x 0) (take-append-drop (input_most + 1) s))
