-- Blocks brought to their lowest disk one after another: what the private functions promise each other. cut has what is left of each
-- block's copies: those of a block that is done are cut to its disk. dead has for each disk other disks that no block on it can go to.
--     Owned, DeadFor         disks that no block from elsewhere can go to; what dead has for each disk
--     Bound, Standing        a schedule whose first k blocks are done; the rings of the others
--     Sorting                both, with what room and dead have
--     LowestAt               no schedule has a block on a lower disk
--     LowerCopies, AllDead   the lower copies of a block that are not dead for its disk; there are none
--     Trying, Tried          a block asked for lower disks: it went there (Lowered), or stayed (Stayed)
--     Spread                 disks found dead, told to all others
--     Asked, Done            a block asked once; a block that is done
use Rattle.std.specs.Prelude.{ℕ, ◌+◌, ◌≤◌, ◌<◌, ◌≡◌, ◌⊎◌, Bool, true, false, not, ◌&&◌, ◌||◌, List, eqb, ltb, get_or, length}
use Rattle.basics.specs.Limits.{disks_most, blocks_most, places_most}
use Rattle.mask.specs.Has.{has}
use Rattle.model.specs.Assignment.{reads, Valid, Within}
use Rattle.places.specs.Places.{entry, holds, roomy, Placed, Kept}
use Rattle.places.specs.Among.{Inside}
use Rattle.places.specs.Seats.{Ringed, Far}
use Rattle.places.specs.Room.{Open, OpenBut}
use Rattle.search.specs.declared.Hit.{Hit}
use Rattle.search.specs.declared.Hit.TheVariants.{Free, Stuck}

-- the disks of X are full, and blocks on them have no copy elsewhere
pub record Owned (n q : ℕ) (copy : ℕ → ℕ → Bool) (capacities a : ℕ → ℕ) (X : ℕ → Bool) : Type 0 where
  pub full : (d : ℕ) → d < n → X d ≡ true → capacities d ≤ reads q a d
  pub owns : (b : ℕ) → b < q → X (a b) ≡ true → (d : ℕ) → copy b d ≡ true → X d ≡ true

-- for each disk, owned disks without itself
pub record DeadFor (n q : ℕ) (cut caps seats dead : List ℕ) : Type 0 where
  pub long : length dead ≡ disks_most
  pub small : (o : ℕ) → o < n → (d : ℕ) → has (get_or dead o 0) d ≡ true → d < n
  pub apart : (o : ℕ) → o < n → has (get_or dead o 0) o ≡ false
  pub owned : (o : ℕ) → o < n → Owned n q (holds cut) (entry caps) (entry seats) (has (get_or dead o 0))

-- every block is placed within the capacities, and the first k are bound to their disk
pub record Bound (n q k : ℕ) (cut caps seats counts : List ℕ) : Type 0 where
  pub placed : Placed n q cut seats counts
  pub whole : get_or counts n 0 ≡ 0
  pub within : Within n q (entry caps) (entry seats)
  pub kept : Kept n q k cut seats
  pub long : length cut ≡ blocks_most

-- the blocks from k on stand in rings, and out has what those after k can bring (a try cuts the copies of k itself); by can note a search
pub record Standing (n q k : ℕ) (cut seats next prev out by : List ℕ) : Type 0 where
  pub ringed : Ringed n q k seats next prev
  pub far : Far n q (k + 1) cut seats out
  pub steps : length by ≡ places_most

-- the first k blocks are done; room has the disks that have room, and dead those that are dead for each
pub record Sorting (n q k room : ℕ) (cut caps seats counts next prev out by dead : List ℕ) : Type 0 where
  pub bound : Bound n q k cut caps seats counts
  pub standing : Standing n q k cut seats next prev out by
  pub opened : Open n caps counts room
  pub dead_for : DeadFor n q cut caps seats dead

-- no schedule within the capacities has block k on a lower disk
abbrev pub LowestAt : ℕ → ℕ → (ℕ → ℕ → Bool) → (ℕ → ℕ) → (ℕ → ℕ) → ℕ → Type 0
LowestAt n q copy capacities a k = (a' : ℕ → ℕ) → Valid n q copy a' → Within n q capacities a' → a k ≤ a' k

-- r has the copies of block k on lower disks that are not dead for its disk
pub record LowerCopies (k : ℕ) (cut seats dead : List ℕ) (r : ℕ) : Type 0 where
  pub each : (e : ℕ) → has r e ≡ ((holds cut k e && ltb e (get_or seats k 0)) && not (has (get_or dead (get_or seats k 0) 0) e))

-- the lower disks that hold a copy of block k are dead for its disk
abbrev pub AllDead : ℕ → List ℕ → List ℕ → List ℕ → Type 0
AllDead k cut seats dead =
    (d : ℕ) → holds cut k d ≡ true → d < get_or seats k 0 → has (get_or dead (get_or seats k 0) 0) d ≡ true

-- block k is asked for one of the disks of lower, which are copies of it; room has the disks that have room once it is off its disk,
-- and base disks that are dead for that
pub record Trying (n q k lower base room : ℕ) (cut caps seats counts next prev out by : List ℕ) : Type 0 where
  pub bound : Bound n q k cut caps seats counts
  pub standing : Standing n q k cut seats next prev out by
  pub less : k < q
  pub part : Inside lower (get_or cut k 0)
  pub opened : (d : ℕ) → has room d ≡ (eqb d (get_or seats k 0) || (ltb d n && roomy caps counts d))
  pub small : (d : ℕ) → has base d ≡ true → d < n
  pub apart : has base (get_or seats k 0) ≡ false
  pub owned : Owned n q (holds cut) (entry caps) (entry seats) (has base)

-- it went there, and disk d has one block more
pub record Lowered (n q k lower room : ℕ) (cut caps cut' seats' counts' next' prev' out' by' : List ℕ) (d : ℕ) : Type 0 where
  pub copies : cut' ≡ cut
  pub bound : Bound n q k cut caps seats' counts'
  pub standing : Standing n q k cut seats' next' prev' out' by'
  pub here : has lower (get_or seats' k 0) ≡ true
  pub opened : OpenBut n d caps counts' room

-- it stayed: those disks lie among x, which is owned and has not the block's own disk
pub record Stayed (n q k lower : ℕ) (cut caps seats counts cut' seats' counts' next' prev' out' by' : List ℕ) (x : ℕ) : Type 0 where
  pub copies : cut' ≡ cut
  pub same_seats : seats' ≡ seats
  pub same_counts : counts' ≡ counts
  pub standing : Standing n q k cut seats next' prev' out' by'
  pub small : (d : ℕ) → has x d ≡ true → d < n
  pub owned : Owned n q (holds cut) (entry caps) (entry seats) (has x)
  pub apart : has x (get_or seats k 0) ≡ false
  pub part : Inside lower x

-- one of the two, by the answer
unfoldable pub Tried : (n q k lower room : ℕ) (cut caps seats counts cut' seats' counts' next' prev' out' by' : List ℕ) → Hit → Type 0
Tried n q k lower room cut caps seats counts cut' seats' counts' next' prev' out' by' (Free d steps) =
    Lowered n q k lower room cut caps cut' seats' counts' next' prev' out' by' d
Tried n q k lower room cut caps seats counts cut' seats' counts' next' prev' out' by' (Stuck x) =
    Stayed n q k lower cut caps seats counts cut' seats' counts' next' prev' out' by' x

-- x is added to what dead holds for every disk that is not in x
pub record Spread (n x : ℕ) (dead dead' : List ℕ) : Type 0 where
  pub long : length dead' ≡ length dead
  pub same : (o : ℕ) → o < n → has x o ≡ true → get_or dead' o 0 ≡ get_or dead o 0
  pub more : (o : ℕ) → o < n → has x o ≡ false → (e : ℕ) → has (get_or dead' o 0) e ≡ (has (get_or dead o 0) e || has x e)

-- block k is on a lower disk than before, or stayed and no lower copy is left to ask for; r has the disks that have room
pub record Asked (n q k : ℕ) (cut caps seats cut' seats' counts' next' prev' out' by' dead' : List ℕ) (r : ℕ) : Type 0 where
  pub copies : cut' ≡ cut
  pub sorting : Sorting n q k r cut' caps seats' counts' next' prev' out' by' dead'
  pub lower : (get_or seats' k 0 < get_or seats k 0) ⊎ ((get_or seats' k 0 ≡ get_or seats k 0) × AllDead k cut' seats' dead')

-- block k is done: on the lowest disk that any schedule of the copies left has for it, and bound there
pub record Done (n q k : ℕ) (cut caps cut' seats' counts' next' prev' out' by' dead' : List ℕ) (r : ℕ) : Type 0 where
  pub sorting : Sorting n q (k + 1) r cut' caps seats' counts' next' prev' out' by' dead'
  pub fewer : (b d : ℕ) → holds cut' b d ≡ true → holds cut b d ≡ true
  pub later : (b : ℕ) → k < b → get_or cut' b 0 ≡ get_or cut b 0
  pub lowest : LowestAt n q (holds cut) (entry caps) (entry seats') k
