-- A mask told by the disks that it holds. A number at disks_most or above is no disk.
use Rattle.std.specs.Prelude.{◌≡◌, ℕ, ◌≤◌, ltb}
use Rattle.basics.specs.Limits.{disks_most}
use Rattle.mask.specs.Has.{has}

-- r holds the disks below n; all of them where n is no disk
pub record Below (n r : ℕ) : Type 0 where
  pub holds : n ≤ disks_most → (e : ℕ) → has r e ≡ ltb e n
  pub beyond : disks_most ≤ n → (e : ℕ) → has r e ≡ ltb e disks_most
