-- What the private function promises.
--     Begun     empty rings
use Rattle.std.specs.Prelude.{ℕ, ◌+◌, ◌<◌, ◌≡◌, List, get_or, length}
use Rattle.basics.specs.Limits.{blocks_most, nodes_most}
use Rattle.ring.specs.Walk.{Bounded}

-- the rings of the places below d are empty
pub record Begun (d : ℕ) (next prev : List ℕ) : Type 0 where
  pub forth : (e : ℕ) → e < d → get_or next (blocks_most + e) 0 ≡ blocks_most + e
  pub back : (e : ℕ) → e < d → get_or prev (blocks_most + e) 0 ≡ blocks_most + e
  pub long_next : length next ≡ nodes_most
  pub long_prev : length prev ≡ nodes_most
  pub bounded_next : Bounded next
  pub bounded_prev : Bounded prev
