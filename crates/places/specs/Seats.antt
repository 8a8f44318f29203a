-- Blocks in the rings of their places, and what they can bring.
--     node, home           the nodes of the rings, and the place of a node
--     Ringed               the blocks from a number on stand in the rings of their places
--     Row                  the ring of a disk, as the walk along next sees it: its movable blocks, and no others
--     Far                  out has for each disk the disks of all copies of the blocks there
--     Seated               places, rings and out fit together
--     Relinked, Grown      the rings and out after a block has gone to another place
--     Shifting, Shifted    what such a move takes, and what it leaves
--     Lifted               no disk reads more than its capacity
--     Empty, Cleared       lists before and after all blocks are taken off
use Rattle.std.specs.Prelude.{ℕ, ◌+◌, ◌-◌, ◌≤◌, ◌<◌, ◌≡◌, Bool, cond, ◌&&◌, ◌||◌, List, leb, ltb, get_or, set, length}
use Rattle.basics.specs.Limits.{disks_most, blocks_most, places_most, nodes_most}
use Rattle.mask.specs.Has.{has}
use Rattle.model.specs.Assignment.{Within}
use Rattle.ring.specs.Rings.{Rings, Unlinked, Linked}
use Rattle.ring.specs.Walk.{Comes, Ends, Bounded}
use Rattle.places.specs.Places.{entry, Placed, Movable, Moved}
use Rattle.places.specs.Among.{Inside}

-- the nodes: blocks from a number on, and where the rings of the places 0 to n begin
unfoldable pub node : ℕ → ℕ → ℕ → ℕ → Bool
node n q bound x = (leb bound x && ltb x q) || (leb blocks_most x && leb x (blocks_most + n))

-- where a node stands
unfoldable pub home : List ℕ → ℕ → ℕ
home seats x = cond (ltb x blocks_most) (get_or seats x 0) (x - blocks_most)

-- the blocks from bound on stand in the rings of their places
pub record Ringed (n q bound : ℕ) (seats next prev : List ℕ) : Type 0 where
  pub disks : n ≤ disks_most
  pub blocks : q ≤ blocks_most
  pub rings : Rings (node n q bound) (home seats) next prev
  pub bounded_next : Bounded next
  pub bounded_prev : Bounded prev

-- the blocks from a number on that are at d, and no others, stand in the ring of d
pub record Row (q bound d : ℕ) (seats next : List ℕ) : Type 0 where
  pub few : q ≤ blocks_most
  pub bounded : Bounded next
  pub ends : Ends next (get_or next (blocks_most + d) 0)
  pub all : (y : ℕ) → bound ≤ y → y < q → get_or seats y 0 ≡ d → Comes next (get_or next (blocks_most + d) 0) y
  pub none : (y : ℕ) → Comes next (get_or next (blocks_most + d) 0) y → y < blocks_most → (y < q) × (get_or seats y 0 ≡ d) × (bound ≤ y)

-- out has for each disk the disks of all copies of the blocks from bound on that are there, and perhaps others
pub record Far (n q bound : ℕ) (masks seats out : List ℕ) : Type 0 where
  pub long : length out ≡ places_most
  pub each : (i : ℕ) → bound ≤ i → i < q → get_or seats i 0 < n → Inside (get_or masks i 0) (get_or out (get_or seats i 0) 0)

-- blocks are placed; those from bound on stand in rings, and out has what they can bring
pub record Seated (n q bound : ℕ) (masks seats counts next prev out : List ℕ) : Type 0 where
  pub placed : Placed n q masks seats counts
  pub ringed : Ringed n q bound seats next prev
  pub far : Far n q bound masks seats out

-- b has gone from its ring to the end of the ring of d
pub record Relinked (b d : ℕ) (next prev next' prev' : List ℕ) : Type 0 where
  pub mid_next : List ℕ
  pub mid_prev : List ℕ
  pub out : Unlinked b next prev mid_next mid_prev
  pub back : Linked b (blocks_most + d) mid_next mid_prev next' prev'

-- out has the copies of b for place d too
abbrev pub Grown : ℕ → ℕ → List ℕ → List ℕ → List ℕ → Type 0
Grown b d masks out out' = (m : ℕ) × (out' ≡ set out d m) × ((e : ℕ) → has m e ≡ (has (get_or out d 0) e || has (get_or masks b 0) e))

-- block b can go to place d, and no entry leads out of the lists
pub record Shifting (b d : ℕ) (seats counts next prev : List ℕ) : Type 0 where
  pub movable : Movable b d seats counts
  pub bounded_next : Bounded next
  pub bounded_prev : Bounded prev

-- block b went from place old to place d, in its ring too, and out has its copies for d
pub record Shifted (b d : ℕ) (masks seats counts next prev out seats' counts' next' prev' out' : List ℕ) (old : ℕ) : Type 0 where
  pub moved : Moved b d seats counts seats' counts' old
  pub relinked : Relinked b d next prev next' prev'
  pub grown : Grown b d masks out out'

-- no disk reads more than its capacity
pub record Lifted (n q : ℕ) (masks caps seats counts next prev out : List ℕ) : Type 0 where
  pub seated : Seated n q 0 masks seats counts next prev out
  pub within : Within n q (entry caps) (entry seats)

-- lists of the right length, no entry that leads out of them, and no block counted at any disk
pub record Empty (n q : ℕ) (seats counts next prev : List ℕ) : Type 0 where
  pub disks : n ≤ disks_most
  pub blocks : q ≤ blocks_most
  pub long_seats : length seats ≡ blocks_most
  pub long_counts : length counts ≡ places_most
  pub long_next : length next ≡ nodes_most
  pub long_prev : length prev ≡ nodes_most
  pub bounded_next : Bounded next
  pub bounded_prev : Bounded prev
  pub none : (d : ℕ) → d < n → get_or counts d 0 ≡ 0

-- no block is on a disk, whatever the copies
pub record Cleared (n q : ℕ) (seats counts next prev : List ℕ) : Type 0 where
  pub placed : (masks : List ℕ) → Placed n q masks seats counts
  pub none : (d : ℕ) → d < n → get_or counts d 0 ≡ 0
  pub off : (b : ℕ) → b < q → get_or seats b 0 ≡ n
  pub ringed : Ringed n q 0 seats next prev
