-- Why a plan reads a block from a disk, or doesn't.
--     forced     the case with one block's copies cut to one disk
--     Could      some schedule of the plan's time reads the block there
--     Keeps      one that keeps the plan's choices for the earlier blocks does
--     Why        what each of the five reasons says, the second with the least time if the block were forced there
--     Reasons    a reason that is true of the plan of a case
--     numbered, timed     the reason's number, 1 to 5, and its time, 0 but for the second
use Rattle.std.specs.Prelude.{ℕ, ◌<◌, ◌≡◌, Bool, true, false, eqb}
use Rattle.basics.specs.Choice.{pick}
use Rattle.model.specs.Case.{Case, HasTime}
use Rattle.model.specs.Order.{Agree}
use Rattle.model.specs.Plan.{Optimal}
use Rattle.model.specs.Time.{LeastTime}
use Rattle.reason.specs.declared.Reason.{Reason}
use Rattle.reason.specs.declared.Reason.TheVariants.{NoCopy, Later, NotKept, Lower, Chosen}

unfoldable pub forced : Case → ℕ → ℕ → Case
forced m b d =
    record {
      disks = m.disks;
      blocks = m.blocks;
      start = m.start;
      cost = m.cost;
      copy = λ i e. pick (eqb i b) (eqb e d) (m.copy i e);
    }

unfoldable pub Could : Case → ℕ → ℕ → ℕ → Type 0
Could m R b d = (x : ℕ → ℕ) × HasTime m R x × (x b ≡ d)

unfoldable pub Keeps : Case → ℕ → (ℕ → ℕ) → ℕ → ℕ → Type 0
Keeps m R a b d = (x : ℕ → ℕ) × HasTime m R x × Agree b x a × (x b ≡ d)

-- of a plan with time R and schedule a
unfoldable pub Why : Case → ℕ → (ℕ → ℕ) → ℕ → ℕ → Reason → Type 0
-- the disk holds no copy
Why m R a b d NoCopy = m.copy b d ≡ false
-- it holds one, but no least_time schedule reads this block there, and T is the least time if it were forced there
Why m R a b d (Later T) = (m.copy b d ≡ true) × (Could m R b d → ⊥) × LeastTime (forced m b d) T
-- some least_time schedule does, but none that keeps the plan's choices for the earlier blocks
Why m R a b d NotKept = Could m R b d × (Keeps m R a b d → ⊥)
-- it could, but a lower disk number could too
Why m R a b d Lower = Keeps m R a b d × ((e : ℕ) × (e < d) × Keeps m R a b e)
-- it is the one chosen
Why m R a b d Chosen = a b ≡ d

-- a reason that is true of the plan of a case
pub record Reasons (m : Case) (b d : ℕ) (r : Reason) : Type 0 where
  pub time : ℕ
  pub schedule : ℕ → ℕ
  pub set : ℕ → Bool
  pub plan : Optimal m time schedule set
  pub why : Why m time schedule b d r

abbrev pub numbered : Reason → ℕ
numbered NoCopy = 1
numbered (Later t) = 2
numbered NotKept = 3
numbered Lower = 4
numbered Chosen = 5

abbrev pub timed : Reason → ℕ
timed NoCopy = 0
timed (Later t) = t
timed NotKept = 0
timed Lower = 0
timed Chosen = 0
