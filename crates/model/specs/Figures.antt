-- The paper's figures P1 to P9 as one table, on its three disks, P10 to P12 at an age, P13 to P17 where the wait overlaps the queue, P18 on
-- the same disks by the sum, and P19 with a disk out.
--     Disks      some disks: the start rule, and each one's cost, load and delay
--     paper, overlapping, queued     the paper's three disks; three on whose starts the rules differ, by the larger and by the sum
--     Figure     a request and its plan, or a disk's capacities at some times
--     asked      the case of a request at an age: the copies by block, each a list of disk numbers
--     Planned, Answer     the plan of a case; of a request
--     Holds      what a figure says
--     table      P1 to P19
use Rattle.std.specs.Prelude.{ℕ, ◌≡◌, List, [], ◌∷◌, map, length, get_or}
use Rattle.basics.specs.Lists.{listed}
use Rattle.model.specs.declared.Rule.{Rule}
use Rattle.model.specs.declared.Rule.TheVariants.{Sum, Larger}
use Rattle.model.specs.Case.{Case, left, base, in_use, capacity_at}
use Rattle.model.specs.Shortfall.{size}
use Rattle.model.specs.Plan.{Optimal}

pub record Disks : Type 0 where
  pub rule : Rule
  pub costs : List ℕ
  pub loads : List ℕ
  pub delays : List ℕ

-- they start at 1, 2 and 0
abbrev pub paper : Disks
paper = record { rule = Sum; costs = 4 ∷ 3 ∷ 10 ∷ []; loads = 0 ∷ 2 ∷ 0 ∷ []; delays = 1 ∷ 0 ∷ 0 ∷ [] }

-- they start at 3, 8 and 0; by the sum it would be 5, 10 and 0
abbrev pub overlapping : Disks
overlapping = record { rule = Larger; costs = 4 ∷ 3 ∷ 10 ∷ []; loads = 3 ∷ 2 ∷ 0 ∷ []; delays = 2 ∷ 8 ∷ 0 ∷ [] }

-- the same disks start at 5, 10 and 0
abbrev pub queued : Disks
queued = record { rule = Sum; costs = overlapping.costs; loads = overlapping.loads; delays = overlapping.delays }

-- one line of the table
pub data Figure : Type 0 where
  -- the disks, the age, the copies by block; the time, the disk of each block, the short set
  request : Disks → ℕ → List (List ℕ) → ℕ → List ℕ → List ℕ → Figure
  -- the same, with the disks that are out before the copies
  pulled : Disks → ℕ → List ℕ → List (List ℕ) → ℕ → List ℕ → List ℕ → Figure
  -- the disks, one of them, some times, its capacity at each
  capacities : Disks → ℕ → List ℕ → List ℕ → Figure

unfoldable pub asked : Disks → ℕ → List (List ℕ) → Case
asked u age copies =
    base u.rule (length u.costs) (length copies)
    (λ d. get_or u.costs d 0) (λ d. left age (get_or u.loads d 0)) (λ d. get_or u.delays d 0)
    (λ b d. listed (get_or copies b []) d)

-- the plan of a case, with a disk for each block and as many entries in the short set as it has blocks
pub record Planned (m : Case) (R : ℕ) (disks short : List ℕ) : Type 0 where
  pub plan : Optimal m R (λ b. get_or disks b 0) (listed short)
  pub every_block : length disks ≡ m.blocks
  pub no_other : length short ≡ size m.blocks (listed short)

abbrev pub Answer : Disks → ℕ → List (List ℕ) → ℕ → List ℕ → List ℕ → Type 0
Answer u age copies R disks short = Planned (asked u age copies) R disks short

-- what a figure says of the model
unfoldable pub Holds : Figure → Type 0
Holds (request u age copies R disks short) = Answer u age copies R disks short
Holds (pulled u age out copies R disks short) = Planned (in_use (listed out) (asked u age copies)) R disks short
Holds (capacities u d times values) = map (λ t. capacity_at (asked u 0 []) t d) times ≡ values

-- every figure of the table holds
unfoldable pub AllHold : List Figure → Type 0
AllHold [] = Unit {0}
AllHold (f ∷ fs) = Holds f × AllHold fs

-- a block with one copy
abbrev only : ℕ → List ℕ
only d = d ∷ []

-- a block with two copies
abbrev either : ℕ → ℕ → List ℕ
either d e = d ∷ e ∷ []

-- P1 to P9 at age 0, P10 to P12 at another, P13 to P17 with the larger of delay and load, P18 with their sum, P19 with a disk out
unfoldable pub table : List Figure
table =
    -- P1: no blocks
    request paper 0 [] 0 [] []
    -- P2
    ∷ request paper 0 (only 2 ∷ []) 10 (2 ∷ []) (0 ∷ [])
    -- P3
    ∷ request paper 0 (either 0 1 ∷ []) 5 (0 ∷ []) (0 ∷ [])
    -- P4
    ∷ request paper 0 (either 0 1 ∷ only 0 ∷ []) 5 (1 ∷ 0 ∷ []) (0 ∷ 1 ∷ [])
    -- P5
    ∷ request paper 0 (only 2 ∷ only 0 ∷ only 0 ∷ []) 10 (2 ∷ 0 ∷ 0 ∷ []) (0 ∷ [])
    -- P6
    ∷ request paper 0 (either 0 1 ∷ either 0 1 ∷ either 0 1 ∷ either 1 2 ∷ []) 9 (0 ∷ 0 ∷ 1 ∷ 1 ∷ []) (0 ∷ 1 ∷ 2 ∷ 3 ∷ [])
    -- P7
    ∷ request paper 0 (either 0 1 ∷ either 0 1 ∷ either 0 1 ∷ []) 8 (0 ∷ 1 ∷ 1 ∷ []) (0 ∷ 1 ∷ 2 ∷ [])
    -- P8
    ∷ request paper 0 (only 1 ∷ only 1 ∷ only 1 ∷ []) 11 (1 ∷ 1 ∷ 1 ∷ []) (0 ∷ 1 ∷ 2 ∷ [])
    -- P9: disk 1
    ∷ capacities paper 1 (1 ∷ 4 ∷ 5 ∷ 7 ∷ 8 ∷ []) (0 ∷ 0 ∷ 1 ∷ 1 ∷ 2 ∷ [])
    -- P10: the age is above the load of disk 1
    ∷ request paper 3 (either 0 1 ∷ either 0 1 ∷ either 0 1 ∷ []) 6 (0 ∷ 1 ∷ 1 ∷ []) (0 ∷ 1 ∷ 2 ∷ [])
    -- P11: the load of disk 1 is above the age
    ∷ request paper 1 (only 1 ∷ []) 4 (1 ∷ []) (0 ∷ [])
    -- P12: no age shortens the delay of disk 0
    ∷ request paper 3 (only 0 ∷ []) 5 (0 ∷ []) (0 ∷ [])
    -- P13: disk 0 ends at 7, 11, 15 and disk 1 at 11, 14, so that by 11 there is room for three blocks and by 10 for one
    ∷ request overlapping 0 (either 0 1 ∷ either 0 1 ∷ either 0 1 ∷ []) 11 (0 ∷ 0 ∷ 1 ∷ []) (0 ∷ 1 ∷ 2 ∷ [])
    -- P14: 2 off the loads leaves 1 and 0, and the starts are 2 and 8; disk 0 ends at 6, 10 and disk 1 at 11
    ∷ request overlapping 2 (either 0 1 ∷ either 0 1 ∷ []) 10 (0 ∷ 0 ∷ []) (0 ∷ 1 ∷ [])
    -- P15: disk 1 is idle, and starts after disk 0 has ended
    ∷ request overlapping 0 (only 0 ∷ []) 7 (0 ∷ []) (0 ∷ [])
    -- P16: disk 0, whose load is larger
    ∷ capacities overlapping 0 (2 ∷ 6 ∷ 7 ∷ 9 ∷ 11 ∷ []) (0 ∷ 0 ∷ 1 ∷ 1 ∷ 2 ∷ [])
    -- P17: disk 1, whose delay is larger
    ∷ capacities overlapping 1 (5 ∷ 10 ∷ 11 ∷ 13 ∷ 14 ∷ []) (0 ∷ 0 ∷ 1 ∷ 1 ∷ 2 ∷ [])
    -- P18: P13 by the sum; disk 0 ends at 9, 13, 17 and disk 1 at 13, 16
    ∷ request queued 0 (either 0 1 ∷ either 0 1 ∷ either 0 1 ∷ []) 13 (0 ∷ 0 ∷ 1 ∷ []) (0 ∷ 1 ∷ 2 ∷ [])
    -- P19: P6 with disk 0 out; disk 1 ends at 5, 8, 11 and disk 2 at 10
    ∷ pulled paper 0 (0 ∷ []) (either 0 1 ∷ either 0 1 ∷ either 0 1 ∷ either 1 2 ∷ []) 11 (1 ∷ 1 ∷ 1 ∷ 2 ∷ []) (0 ∷ 1 ∷ 2 ∷ [])
    ∷ []
