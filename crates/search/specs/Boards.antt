-- The words of Outcome, Parts and Search, of a task and a board.
use Rattle.std.specs.Prelude.{ℕ, List}
use Rattle.places.specs.declared.Board.{Board}
use Rattle.search.specs.Search as search
use Rattle.search.specs.Outcome as outcome
use Rattle.search.specs.Parts as parts
use Rattle.search.specs.declared.Task.{Task}
use Rattle.search.specs.declared.Reach.{Reach}
use Rattle.search.specs.declared.Hit.{Hit}

-- block b is on no disk; the blocks before bound are bound to their disk; the disks of base have no room, and the blocks there have
-- all copies there
abbrev pub Seeking : Task → List ℕ → Board → List ℕ → Type 0
Seeking t masks s by =
    outcome.Seeking t.n t.q t.b t.base t.bound masks s.seats s.counts t.room s.nodes.next s.nodes.prev s.out by

-- block b is on a disk now, and one disk that had room has one block more; or nothing has changed but out, and there is no way
abbrev pub Improved : Task → List ℕ → Board → Board → List ℕ → Hit → Type 0
Improved t masks s s' by' hit =
    outcome.Improved t.n t.q t.b t.base t.bound masks s.seats s.counts t.room s.nodes.next s.nodes.prev
    s'.seats s'.counts s'.nodes.next s'.nodes.prev s'.out by' hit

-- b is on a disk: the room that start had has come back along the steps to it
abbrev pub Drawn : Task → ℕ → List ℕ → Board → Board → Type 0
Drawn t start masks s s' =
    search.Drawn t.n t.q t.b t.base t.bound start masks s.seats s.counts
    s'.seats s'.counts s'.nodes.next s'.nodes.prev s'.out

-- what the way back takes: steps to a disk, b on no disk
abbrev pub Drawing : Task → ℕ → ℕ → List ℕ → List ℕ → Board → Type 0
Drawing t start steps masks by s =
    parts.Drawing t.n t.q t.b t.base t.bound start steps masks by s.seats s.counts s.nodes.next s.nodes.prev s.out

-- a reached disk whose blocks are still to be looked at
abbrev pub Visiting : Task → ℕ → List ℕ → List ℕ → List ℕ → List ℕ → List ℕ → Reach → Type 0
Visiting t d masks seats next out by reach =
    parts.Visiting t.n t.q t.b t.base t.bound d masks seats next out t.room by reach.steps reach.disks

-- what one disk gives: a way to a disk that has room, or nothing new any more
abbrev pub Visited : Task → ℕ → List ℕ → List ℕ → Reach → List ℕ → List ℕ → Reach → Type 0
Visited t d masks seats reach by' out' r =
    parts.Visited t.n t.q t.b t.base t.bound d masks seats t.room reach.disks by' out' r

-- steps that lead to a disk that has room, or the reached disks where there is none
abbrev pub Sought : Task → List ℕ → List ℕ → List ℕ → Hit → Type 0
Sought t masks seats by hit = parts.Sought t.n t.q t.b t.base t.bound masks seats t.room by hit
