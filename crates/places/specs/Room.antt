-- The disks that have room.
--     Open, OpenBut    the disks that have room; the same but for one disk
use Rattle.std.specs.Prelude.{ℕ, ◌<◌, ◌≡◌, true, ◌&&◌, List, ltb}
use Rattle.mask.specs.Has.{has}
use Rattle.places.specs.Places.{roomy}

-- the disks below n that have room
abbrev pub Open : ℕ → List ℕ → List ℕ → ℕ → Type 0
Open n caps counts m = (d : ℕ) → has m d ≡ (ltb d n && roomy caps counts d)

-- m has the disks below n that have room, and disk d, whether that has room or not
pub record OpenBut (n d : ℕ) (caps counts : List ℕ) (m : ℕ) : Type 0 where
  pub disk : d < n
  pub here : has m d ≡ true
  pub others : (e : ℕ) → (e ≡ d → ⊥) → has m e ≡ (ltb e n && roomy caps counts e)
