-- Dictionary order, over any property of schedules.
--     agree_sym, agree_trans, agree_less   the same for the first k blocks
--     Lowest                       as low as can be, block by block
--     lowest_first, first_lowest   block by block the lowest possible is the first, and the other way
--     lowest_start                 before any block is settled
--     lowest_keep                  what has the property and agrees below k is as low below k
--     lowest_more                  from k blocks settled to k + 1
--     first_unique, first_same     two firsts agree; the first of one property is that of another that says the same
--     InTime, first_has_time       the first of all done by R, the least time, is the first of time R
use Prim.Native.Nat.{ℕ, zero, suc, ◌≤◌, ◌<◌}
use mathlib.Core.Path.{sym, ap, ◌∙◌}
use mathlib.Core.Logic.{⊎_elim}
use native.Mathlib.Nat.{le_antisymm}
use native.Mathlib.Omega.{arith}
use Rattle.model.specs.Case.{Case, Schedule, response, HasTime}
use Rattle.model.specs.Time.{LeastTime}
use Rattle.model.specs.Order.{Agree, Before, FirstOf}
use Rattle.basics.proofs.Tests.{below_suc, below_or}

pub agree_sym : {A : Type 0} (k : ℕ) (a a' : ℕ → A) → Agree k a a' → Agree k a' a
unfolding Agree
agree_sym k a a' e b h = sym (e b h)

pub agree_trans : {A : Type 0} (k : ℕ) (a a' a'' : ℕ → A) → Agree k a a' → Agree k a' a'' → Agree k a a''
unfolding Agree
agree_trans k a a' a'' e e' b h = e b h ∙ e' b h

pub agree_less : {A : Type 0} (j k : ℕ) (a a' : ℕ → A) → j ≤ k → Agree k a a' → Agree j a a'
unfolding Agree
agree_less j k a a' l e b h = e b (omega arith)

-- ---- block by block

-- as low as can be for the first k blocks: none with P that agrees with a before block b has a lower disk at b
pub record Lowest (k : ℕ) (P : (ℕ → ℕ) → Type 0) (a : ℕ → ℕ) : Type 0 where
  pub holds : P a
  pub low : (a' : ℕ → ℕ) → P a' → (b : ℕ) → b < k → Agree b a' a → a b ≤ a' b

module _ (P : (ℕ → ℕ) → Type 0) where
  pub lowest_start : (a : ℕ → ℕ) → P a → Lowest 0 P a
  lowest_start a p = record { holds = p; low = λ a' p' b h e. omega arith }

  pub lowest_first : (q : ℕ) (a : ℕ → ℕ) → Lowest q P a → FirstOf q P a
  unfolding Before
  lowest_first q a l =
      record { holds = l.holds; none = λ a' p f. omega (arith, f.3, l.low a' p f.0 f.1 f.2) }

  pub first_lowest : (q : ℕ) (a : ℕ → ℕ) → FirstOf q P a → Lowest q P a
  unfolding Before
  first_lowest q a f =
      record {
        holds = f.holds;
        low = λ a' p b h e.
            below_or (a' b) (a b) (λ l. absurd (f.none a' p (b, h, e, l))) (λ l. l);
      }

  pub lowest_keep : (k : ℕ) (a a' : ℕ → ℕ) → Lowest k P a → P a' → Agree k a' a → Lowest k P a'
  unfolding Agree
  lowest_keep k a a' l p e =
      record {
        holds = p;
        low = λ x px b h ag.
            omega (arith, e b h, l.low x px b h (agree_trans b x a' a ag (agree_less b k a' a (omega arith) e)));
      }

  pub lowest_more : (k : ℕ) (a : ℕ → ℕ) → Lowest k P a
      → ((a' : ℕ → ℕ) → P a' → Agree k a' a → a k ≤ a' k) → Lowest (suc k) P a
  lowest_more k a l s =
      record {
        holds = l.holds;
        low = λ a' p b h e.
            ⊎_elim
            (λ r. l.low a' p b r e)
            (λ r. omega (arith, ap a r, ap a' r, s a' p (agree_less k b a' a (omega arith) e)))
            (below_suc k b h);
      }

  pub first_unique : (q : ℕ) (a a' : ℕ → ℕ) → FirstOf q P a → FirstOf q P a' → Agree q a a'
  unfolding Agree
  first_unique q a a' f f' = upto q (omega arith)
    where
      upto : (k : ℕ) → k ≤ q → Agree k a a'
      upto zero l b h = let z : ⊥ = omega arith in absurd z
      upto (suc k) l b h =
          let e : Agree k a a' = upto k (omega arith) in
          ⊎_elim
          (λ r. e b r)
          (λ r. omega (
            arith,
            ap a r,
            ap a' r,
            (first_lowest q a f).low a' f'.holds k l (agree_sym k a a' e),
            (first_lowest q a' f').low a f.holds k l e,
          ))
          (below_suc k b h)

-- the first of all with P is the first of all with P' where the two are one property
pub first_same : (P P' : (ℕ → ℕ) → Type 0) (q : ℕ) (a : ℕ → ℕ)
    → ((x : ℕ → ℕ) → P x → P' x) → ((x : ℕ → ℕ) → P' x → P x) → FirstOf q P a → FirstOf q P' a
first_same P P' q a f g l = record { holds = f a l.holds; none = λ a' p. l.none a' (g a' p) }

-- ---- at the least time

-- the schedules that are done by t
unfoldable pub InTime : Case → ℕ → (ℕ → ℕ) → Type 0
InTime m t a = Schedule m a × (response m a ≤ t)

has_in : (m : Case) (R : ℕ) (a : ℕ → ℕ) → HasTime m R a → InTime m R a
unfolding HasTime InTime
has_in m R a h = (h.0, omega (arith, h.1))

in_has : (m : Case) (R : ℕ) → LeastTime m R → (a : ℕ → ℕ) → InTime m R a → HasTime m R a
unfolding HasTime InTime
in_has m R l a h = (h.0, le_antisymm h.1 (l.lower a h.0))

pub first_has_time : (m : Case) (R q : ℕ) (a : ℕ → ℕ) → LeastTime m R → FirstOf q (InTime m R) a → FirstOf q (HasTime m R) a
first_has_time m R q a l = first_same (InTime m R) (HasTime m R) q a (in_has m R l) (has_in m R)
