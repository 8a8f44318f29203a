-- A reason that is not the second has no time.
use mathlib.Core.Path.{◌≡◌, refl}
use mathlib.Core.List.{List, [], ◌∷◌}
use mathlib.Core.Logic.{inl, inr}
use Prim.Native.Nat.{ℕ}
use native.Mathlib.Omega.{arith}
use denote.Enum.Declared.{tag_of}
use types.Run.{OneOf}
use Rattle.reason.specs.contracts.Reason.{the_type}
use Rattle.reason.specs.declared.Reason.{Reason}
use Rattle.reason.specs.declared.Reason.TheVariants.{NoCopy, Later, NotKept, Lower, Chosen}
use Rattle.reason.specs.Reason.{timed}

-- the places of all reasons but the second
abbrev pub others : List ℕ
others = 0 ∷ 2 ∷ 3 ∷ 4 ∷ []

-- 1 is none of them
none_second : (x : ℕ) → x ≡ 1 → OneOf others x → ⊥
none_second x e (inl h) = omega (arith, e, h)
none_second x e (inr (inl h)) = omega (arith, e, h)
none_second x e (inr (inr (inl h))) = omega (arith, e, h)
none_second x e (inr (inr (inr h))) = omega (arith, e, h)

pub no_time : (r : Reason) → OneOf others (tag_of the_type r) → 0 ≡ timed r
no_time NoCopy h = refl
no_time (Later t) h = absurd (none_second _ refl h)
no_time NotKept h = refl
no_time Lower h = refl
no_time Chosen h = refl
