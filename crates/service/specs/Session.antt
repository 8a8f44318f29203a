-- All the bytes of the shelf's input, and the lines for them.
--     Whole     what is due stands whole at the start of the bytes: its line, the shelf afterwards, the bytes behind it
--     Ends      the last line, where nothing whole stands in what is left
--     Says      the lines of all the bytes that there will ever be
--     Turns     a turn, as `serve` promises it
--     Fed       the lines of bytes that come in pieces, turn by turn
--     SoFar     the pieces that were taken, the lines that were printed: to go on from here is to go on from the start
use Rattle.std.specs.Prelude.{ℕ, Bool, true, false, ◌≡◌, List, [], ◌∷◌, ◌++◌, drop}
use Rattle.field.specs.Sheet.{Note, got, refused}
use Rattle.service.specs.declared.Next.{Next}
use Rattle.service.specs.declared.Next.TheVariants.{Served, Wants, Done}
use Rattle.service.specs.declared.Shelf.{Shelf}
use Rattle.service.specs.Shelf.{Due, due, closed, opened, Serves, last_line, Comes}

pub record Whole (sh : Shelf) (s line : List ℕ) (after : Shelf) (left : List ℕ) : Type 0 where
  pub what : Due
  pub end : ℕ
  pub read : due (opened sh) s 0 ≡ got what end
  pub done : Serves sh what line after
  pub rest : left ≡ drop end s

pub record Ends (sh : Shelf) (s last : List ℕ) : Type 0 where
  pub why : Note
  pub read : due (opened sh) s 0 ≡ refused why
  pub line : last ≡ last_line (opened sh) s why

pub data Says : Shelf → List ℕ → List ℕ → Type 0 where
  last : {sh : Shelf} {s text : List ℕ} → Ends sh s text → Says sh s text
  next : {sh after : Shelf} {s line left text : List ℕ} → Whole sh s line after left → Says after left text → Says sh s (line ++ text)

pub record Turns (sh : Shelf) (s : List ℕ) (ended : Bool) (to : Next) (used : ℕ) (line : List ℕ) (after : Shelf) : Type 0 where
  pub comes : Comes sh s ended (due (opened sh) s 0) to used line after

-- by the shelf, what is left of the bytes that came, whether it was told that the input has ended, and the pieces to come:
-- a turn that is served leaves the bytes behind it; one that wants more takes the next piece, or is told that none follows;
-- after the last, pieces that were not taken stay where they are
pub data Fed : Shelf → List ℕ → Bool → List (List ℕ) → List ℕ → Type 0 where
  served : {sh after : Shelf} {s line text : List ℕ} {ended : Bool} {pieces : List (List ℕ)} {used : ℕ}
      → Turns sh s ended Served used line after → Fed after (drop used s) ended pieces text → Fed sh s ended pieces (line ++ text)
  takes : {sh after : Shelf} {s line text piece : List ℕ} {pieces : List (List ℕ)} {used : ℕ}
      → Turns sh s false Wants used line after → Fed after (s ++ piece) false pieces text → Fed sh s false (piece ∷ pieces) (line ++ text)
  told : {sh after : Shelf} {s line text : List ℕ} {used : ℕ}
      → Turns sh s false Wants used line after → Fed after s true [] text → Fed sh s false [] (line ++ text)
  stopped : {sh after : Shelf} {s line : List ℕ} {pieces : List (List ℕ)} {used : ℕ}
      → Turns sh s false Done used line after → Fed sh s false pieces line
  over : {sh after : Shelf} {s line : List ℕ} {used : ℕ} → Turns sh s true Done used line after → Fed sh s true [] line

pub record SoFar (sh : Shelf) (left : List ℕ) (ended : Bool) : Type 0 where
  pub taken : List (List ℕ)
  pub text : List ℕ
  pub goes_on : (pieces : List (List ℕ)) (more : List ℕ) → Fed sh left ended pieces more
      → Fed closed [] false (taken ++ pieces) (text ++ more)
