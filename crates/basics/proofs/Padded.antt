-- Laws of lists with one value behind them.
--     pad_length, pad_within     how many entries there are
--     pad_at                     the entries are those of the list, for every place
--     pad_front, pad_rest        what was given, and what is behind it
--     pad_whole                  an array by its two parts
--     pad_set                    one entry more, in the place of the first behind them
use mathlib.Core.Path.{◌≡◌, refl, sym, ap, ◌∙◌}
use mathlib.Core.List.{List, [], ◌∷◌, ◌++◌, append_assoc}
use Prim.Native.Nat.{ℕ, zero, suc, ◌+◌, ◌-◌, ◌≤◌, ◌<◌}
use native.Mathlib.Omega.{arith}
use lib.ListN.{length, get_or, set, take, drop, replicate, length-append, length-replicate, take-append-drop}
use lib.Seq.{take_at, drop_at, set_at}
use Rattle.basics.specs.Padded.{pad_to}
use Rattle.basics.proofs.Lists.{replicate_at}

module _ {A : Type 0} (z : A) (n : ℕ) where
  pub pad_length : (xs : List A) → length xs ≤ n → length (pad_to z n xs) ≡ n
  unfolding pad_to
  pad_length xs l = omega (arith, length-append xs (replicate (n - length xs) z), length-replicate (n - length xs) z)

  pub pad_within : (xs : List A) → length xs ≤ length (pad_to z n xs)
  unfolding pad_to
  pad_within xs = omega (arith, length-append xs (replicate (n - length xs) z))

  pub pad_at : (xs : List A) (i : ℕ) → get_or (pad_to z n xs) i z ≡ get_or xs i z
  unfolding pad_to
  pad_at xs i = behind (n - length xs) xs i
    where
      behind : (k : ℕ) (xs : List A) (i : ℕ) → get_or (xs ++ replicate k z) i z ≡ get_or xs i z
      behind k [] i = replicate_at z k i
      behind k (x ∷ xs) zero = refl
      behind k (x ∷ xs) (suc i) = behind k xs i

  pub pad_front : (xs : List A) (k : ℕ) → length xs ≡ k → take k (pad_to z n xs) ≡ xs
  unfolding pad_to
  pad_front xs k e = take_at xs (replicate (n - length xs) z) k e

  pub pad_rest : (xs : List A) (k : ℕ) → length xs ≡ k → drop k (pad_to z n xs) ≡ replicate (n - k) z
  unfolding pad_to
  pad_rest xs k e = drop_at xs (replicate (n - length xs) z) k e ∙ ap (λ (j : ℕ). replicate (n - j) z) e

  pub pad_whole : (xs : List A) (k : ℕ) → length (take k xs) ≡ k → drop k xs ≡ replicate (n - k) z → xs ≡ pad_to z n (take k xs)
  unfolding pad_to
  pad_whole xs k e r =
      sym (take-append-drop k xs) ∙ ap (λ (y : List A). take k xs ++ y) (r ∙ ap (λ (j : ℕ). replicate (n - j) z) (sym e))

  pub pad_set : (xs : List A) (x : A) (i : ℕ) → length xs ≡ i → i < n → set (pad_to z n xs) i x ≡ pad_to z n (xs ++ (x ∷ []))
  unfolding pad_to
  pad_set xs x i e h =
      let k : n - length xs ≡ suc (n - (i + 1)) = omega (arith, e) in
      let m : n - length (xs ++ (x ∷ [])) ≡ n - (i + 1) = omega (arith, e, length-append xs (x ∷ [])) in
      ap (λ (j : ℕ). set (xs ++ replicate j z) i x) k
      ∙ set_at xs z (replicate (n - (i + 1)) z) x i e
      ∙ sym (append_assoc xs (x ∷ []) (replicate (n - (i + 1)) z))
      ∙ ap (λ (j : ℕ). (xs ++ (x ∷ [])) ++ replicate j z) (sym m)
