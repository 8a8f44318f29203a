-- The words of Seats and Parts, of the lists of a board, or of its nodes.
--     Zeros     every entry is 0
use Rattle.std.specs.Prelude.{ℕ, ◌≡◌, List, replicate}
use Rattle.basics.specs.Limits.{blocks_most, places_most, nodes_most}
use Rattle.ring.specs.declared.Nodes.{Nodes}
use Rattle.places.specs.Seats as lists
use Rattle.places.specs.Parts as parts
use Rattle.places.specs.declared.Board.{Board}

-- every entry is 0
pub record Zeros (s : Board) : Type 0 where
  pub seats : s.seats ≡ replicate blocks_most 0
  pub counts : s.counts ≡ replicate places_most 0
  pub next : s.nodes.next ≡ replicate nodes_most 0
  pub prev : s.nodes.prev ≡ replicate nodes_most 0
  pub out : s.out ≡ replicate places_most 0

-- blocks are placed; those from bound on stand in rings, and out has what they can bring
abbrev pub Seated : ℕ → ℕ → ℕ → List ℕ → Board → Type 0
Seated n q bound masks s = lists.Seated n q bound masks s.seats s.counts s.nodes.next s.nodes.prev s.out

-- block b can go to place d, and no entry leads out of the lists
abbrev pub Shifting : ℕ → ℕ → Board → Type 0
Shifting b d s = lists.Shifting b d s.seats s.counts s.nodes.next s.nodes.prev

-- block b went from place old to place d, in its ring too, and out has its copies for d
abbrev pub Shifted : ℕ → ℕ → List ℕ → Board → Board → ℕ → Type 0
Shifted b d masks s s' old =
    lists.Shifted b d masks s.seats s.counts s.nodes.next s.nodes.prev s.out
    s'.seats s'.counts s'.nodes.next s'.nodes.prev s'.out old

-- no disk reads more than its capacity
abbrev pub Lifted : ℕ → ℕ → List ℕ → List ℕ → Board → Type 0
Lifted n q masks caps s = lists.Lifted n q masks caps s.seats s.counts s.nodes.next s.nodes.prev s.out

-- lists of the right length, no entry that leads out of them, and no block counted at any disk
abbrev pub Empty : ℕ → ℕ → Board → Type 0
Empty n q s = lists.Empty n q s.seats s.counts s.nodes.next s.nodes.prev

-- no block is on a disk, whatever the copies
abbrev pub Cleared : ℕ → ℕ → Board → Type 0
Cleared n q s = lists.Cleared n q s.seats s.counts s.nodes.next s.nodes.prev

-- the rings of the places below d are empty
abbrev pub Begun : ℕ → Nodes → Type 0
Begun d s = parts.Begun d s.next s.prev
