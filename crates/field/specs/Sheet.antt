-- A sheet is read left to right, and the first refusal met stands.
--     Note         a refusal: its number, and the place that it tells
--     unplaced     a refusal for which no sheet is at fault: its place is 0
--     Out          what reading gives: a value and the place after it, or a refusal
--     Parser       reads a sheet from a place on
--     ◌>>=◌, ◌>>◌  one reader, then another at the place where the first ended
--     pure         reads nothing
--     here         the present place; reads nothing
--     require      goes on where a test holds, else refuses
--     times        a reader so many times
use Rattle.std.specs.Prelude.{ℕ, zero, suc, Bool, List, [], ◌∷◌}
use Rattle.basics.specs.Choice.{pick}

pub record Note : Type 0 where
  pub number : ℕ
  pub place : ℕ

abbrev pub note : ℕ → ℕ → Note
note n p = record { number = n; place = p }

abbrev pub unplaced : ℕ → Note
unplaced n = note n 0

pub data Out (A : Type 0) : Type 0 where
  got : A → ℕ → Out A
  refused : Note → Out A

abbrev pub Parser : Type 0 → Type 0
Parser A = List ℕ → ℕ → Out A

module _ {A B : Type 0} where
  -- a refusal stands, whatever would follow
  unfoldable pub and_then : Out A → (A → ℕ → Out B) → Out B
  and_then (got a at) k = k a at
  and_then (refused e) k = refused e

  infixl 10 ◌>>=◌ ◌>>◌
  unfoldable pub ◌>>=◌ : Parser A → (A → Parser B) → Parser B
  unfolding and_then
  ◌>>=◌ p k s at = and_then (p s at) (λ a next. k a s next)

  unfoldable pub ◌>>◌ : Parser A → Parser B → Parser B
  unfolding and_then
  ◌>>◌ p q s at = and_then (p s at) (λ a next. q s next)

unfoldable pub pure : {A : Type 0} → A → Parser A
pure a s at = got a at

unfoldable pub here : Parser ℕ
here s at = got at at

unfoldable pub require : Bool → Note → Parser Unit
unfolding pick
require b e s at = pick b (got tt at) (refused e)

unfoldable pub times : {A : Type 0} → ℕ → Parser A → Parser (List A)
times zero p = pure []
times (suc n) p = do
  a ← p
  as' ← times n p
  pure (a ∷ as')
