-- Blocks in rings: next and prev lead from node to node. A node is a block, or blocks_most + d, where the ring of place d begins and ends.
--     Rings      the nodes of N stand in rings, each with nodes of its own home
--     But, And   the nodes of N but one; the nodes of N and one more
--     Unlinked, Linked     the lists after a node is taken out, and put in at the end of a ring
use Rattle.std.specs.Prelude.{ℕ, ◌<◌, ◌≡◌, Bool, true, not, ◌&&◌, ◌||◌, List, eqb, get_or, set, length}
use Rattle.basics.specs.Limits.{blocks_most, nodes_most}

-- the nodes of N stand in rings; on the way from where a ring begins, the rank of a block rises
pub record Rings (N : ℕ → Bool) (home : ℕ → ℕ) (next prev : List ℕ) : Type 0 where
  pub rank : ℕ → ℕ
  pub small : (x : ℕ) → N x ≡ true → x < nodes_most
  pub forth : (x : ℕ) → N x ≡ true
      → (N (get_or next x 0) ≡ true) × (home (get_or next x 0) ≡ home x) × (get_or prev (get_or next x 0) 0 ≡ x)
  pub back : (x : ℕ) → N x ≡ true → (N (get_or prev x 0) ≡ true) × (get_or next (get_or prev x 0) 0 ≡ x)
  pub rise : (x : ℕ) → N x ≡ true → x < blocks_most → get_or prev x 0 < blocks_most → rank (get_or prev x 0) < rank x
  pub long_next : length next ≡ nodes_most
  pub long_prev : length prev ≡ nodes_most

-- the nodes of N but b
abbrev pub But : (ℕ → Bool) → ℕ → ℕ → Bool
But N b x = N x && not (eqb x b)

-- the nodes of N, and b
abbrev pub And : (ℕ → Bool) → ℕ → ℕ → Bool
And N b x = eqb x b || N x

-- b is out of its ring
abbrev pub Unlinked : ℕ → List ℕ → List ℕ → List ℕ → List ℕ → Type 0
Unlinked b next prev next' prev' =
    (next' ≡ set next (get_or prev b 0) (get_or next b 0)) × (prev' ≡ set prev (get_or next b 0) (get_or prev b 0))

-- b is the last of the ring of c
abbrev pub Linked : ℕ → ℕ → List ℕ → List ℕ → List ℕ → List ℕ → Type 0
Linked b c next prev next' prev' =
    (next' ≡ set (set next b c) (get_or prev c 0) b) × (prev' ≡ set (set prev b (get_or prev c 0)) c b)
