-- A walk along next from node to node, as far as the end of a ring.
--     walk, Comes    where it is after so many steps; a node that it comes to
--     hops, Ends     how many steps it takes, if fewer than so many; it ends
--     Bounded        no entry of a list leads out of it
use Rattle.std.specs.Prelude.{ℕ, zero, suc, ◌<◌, ◌≡◌, cond, List, ltb, get_or}
use Rattle.basics.specs.Limits.{blocks_most, nodes_most}

-- where the walk from x is after k steps; it stays where a ring ends
unfoldable pub walk : List ℕ → ℕ → ℕ → ℕ
walk next zero x = x
walk next (suc k) x = cond (ltb x blocks_most) (walk next k (get_or next x 0)) x

-- the walk from x comes to y
abbrev pub Comes : List ℕ → ℕ → ℕ → Type 0
Comes next x y = (k : ℕ) × (walk next k x ≡ y)

-- the steps of the walk from x, at most k
unfoldable pub hops : List ℕ → ℕ → ℕ → ℕ
hops next zero x = 0
hops next (suc k) x = cond (ltb x blocks_most) (suc (hops next k (get_or next x 0))) 0

-- the walk from x ends
abbrev pub Ends : List ℕ → ℕ → Type 0
Ends next x = hops next nodes_most x < nodes_most

-- no entry leads out of the lists
abbrev pub Bounded : List ℕ → Type 0
Bounded next = (x : ℕ) → get_or next x 0 < nodes_most
