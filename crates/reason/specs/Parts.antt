-- What the private functions promise, and by what the third reason is told from the fourth.
--     Forced, Kept     an array of copies, those of one block cut to one disk; those of the earlier blocks cut to a schedule's disks
--     kept     the forced case, with the copies of each block before b cut to the plan's choice for it
use Rattle.std.specs.Prelude.{ℕ, ◌≤◌, ◌<◌, ◌≡◌, List, eqb, ltb, length, get_or}
use Rattle.basics.specs.Limits.{blocks_most}
use Rattle.basics.specs.Choice.{pick}
use Rattle.mask.specs.Has.{has}
use Rattle.model.specs.Case.{Case}
use Rattle.reason.specs.Reason.{forced}

unfoldable pub kept : Case → (ℕ → ℕ) → ℕ → ℕ → Case
kept m a b d =
    record {
      disks = m.disks;
      blocks = m.blocks;
      start = m.start;
      cost = m.cost;
      copy = λ i e. pick (ltb i b) (eqb e (a i)) ((forced m b d).copy i e);
    }

pub record Forced (copies : List ℕ) (b d : ℕ) (masks : List ℕ) : Type 0 where
  pub long : length masks ≡ blocks_most
  pub same : (i e : ℕ) → has (get_or masks i 0) e ≡ pick (eqb i b) (eqb e d) (has (get_or copies i 0) e)

pub record Kept (b : ℕ) (disks masks masks' : List ℕ) : Type 0 where
  pub long : length masks' ≡ length masks
  pub earlier : (i e : ℕ) → i < b → has (get_or masks' i 0) e ≡ eqb e (get_or disks i 0)
  pub others : (i : ℕ) → b ≤ i → get_or masks' i 0 ≡ get_or masks i 0
