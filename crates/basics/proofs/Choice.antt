-- Laws of a choice by a test.
use mathlib.Core.Path.{◌≡◌, refl}
use mathlib.Core.Bool.{Bool, true, false}
use Rattle.basics.specs.Choice.{pick}

module _ {A : Type 0} where
  -- the first where the test passes
  pub pick_true : {b : Bool} (x y : A) → b ≡ true → pick b x y ≡ x
  unfolding pick
  pick_true x y e = rw e

  -- the second where it fails
  pub pick_false : {b : Bool} (x y : A) → b ≡ false → pick b x y ≡ y
  unfolding pick
  pick_false x y e = rw e

  -- what holds of each, where its side of the test does, holds of the choice
  pub pick_elim : (P : A → Type 0) (b : Bool) (x y : A) → (b ≡ true → P x) → (b ≡ false → P y) → P (pick b x y)
  unfolding pick
  pick_elim P true x y f g = f refl
  pick_elim P false x y f g = g refl
