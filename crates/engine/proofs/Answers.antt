-- From the steps to the plan.
--     blank               nothing in the lists: what the search for the time starts from
--     least_time          a schedule in time t and a set short just before t make t the least time
--     first_time          the first schedule within the capacities at t is the first of those with time t
--     short_same          the short set by any list of the same blocks
--     named, sorted       the short set and the first schedule in the lent buffers
--     least_of, spelling  the least time alone
--     solved, solving     all of it is the plan of the case that the slices spell
use Prim.Native.Nat.{ℕ, ◌-◌, ◌≤◌, ◌<◌}
use mathlib.Core.Path.{◌≡◌, sym, ap, subst, fun_ext, ◌∙◌}
use mathlib.Core.Bool.{Bool, true}
use mathlib.Core.List.{List}
use native.Mathlib.Omega.{arith}
use lib.Dec.{ltb}
use lib.ListN.{get_or, length, take, replicate, length-replicate}
use borrow.Author.Tests.{ltb-true, ltb-false}
use Rattle.basics.specs.Limits.{disks_most, blocks_most, places_most, nodes_most}
use Rattle.places.specs.declared.Board.{Board}
use Rattle.places.specs.Boards.{Zeros}
use Rattle.mask.specs.Has.{has}
use Rattle.model.specs.Assignment.{Valid, Within}
use Rattle.model.specs.Case.{Case, Priced, Schedule, response, HasTime, capacity_at}
use Rattle.model.proofs.Order.{InTime, first_same, first_has_time, first_lowest, lowest_keep, lowest_first}
use Rattle.model.specs.Shortfall.{size, Sub, NoShorter, Greatest, ShortSet}
use Rattle.model.specs.Time.{LeastTime}
use Rattle.model.specs.Order.{Agree, FirstOf}
use Rattle.model.specs.Plan.{Optimal}
use Rattle.basics.proofs.Tests.{by_cases}
use Rattle.basics.proofs.Lists.{replicate_at}
use Rattle.basics.proofs.Count.{count_ext}
use Rattle.model.proofs.Capacity.{response_within, within_response}
use Rattle.model.proofs.Duality.{room_ext}
use Rattle.model.proofs.Time.{certificate_least}
use Rattle.model.proofs.Move.{reads_ext}
use Rattle.places.specs.Places.{entry, holds, Possible}
use Rattle.places.specs.Table.{masked_case, Table}
use Rattle.places.specs.Among.{among}
use Rattle.places.specs.Seats.{Cleared}
use Rattle.places.proofs.Laws.{all_placed}
use Rattle.places.proofs.Shifts.{cleared_seated}
use Rattle.timing.specs.Times.{Blank, Timed, Least, Restored}
use Rattle.timing.proofs.Stuck.{within_caps}
use Rattle.order.specs.Ordered.{Ordered}
use Rattle.engine.specs.Spelled.{Spellable, Loaded, Ready}
use Rattle.engine.specs.Planned.{LeastOf}
use Rattle.basics.specs.Lists.{listed}
use Rattle.engine.specs.Parts.{Stored, Listed, Fresh, Named, Sorted, Solving, Solved}

pub blank : {n q : ℕ} {masks costs starts caps seats counts next prev out seats' counts' next' prev' : List ℕ}
    → Fresh n q masks costs starts caps seats counts next prev out → Cleared n q seats' counts' next' prev'
    → Blank n q masks costs starts caps seats' counts' next' prev' out
blank {masks = masks} {out = out} f c =
    record { table = f.table; copies = f.copies; long = f.long; seated = cleared_seated masks out c f.wide; off = c.off }

-- ---- the least time

priced : {n : ℕ} {costs starts : List ℕ} (q : ℕ) (masks : List ℕ) → Table n costs starts → Priced (masked_case n q masks costs starts)
unfolding Priced
priced q masks tb = tb.priced

pub least_time : {n q : ℕ} {masks costs starts caps seats counts next prev out : List ℕ} {t : ℕ} → Table n costs starts
    → Least n q masks costs starts caps seats counts next prev out t → LeastTime (masked_case n q masks costs starts) t
unfolding Schedule
least_time {n} {q} {masks} {costs} {starts} {seats = seats} {t = t} tb l =
    let m = masked_case n q masks costs starts in
    let k = l.timed in
    let v : Schedule m (entry seats) = all_placed k.ready.seated.placed k.whole in
    let w : response m (entry seats) ≤ t =
    within_response m (entry seats) t (priced q masks tb) (within_caps k.caps_at q masks seats k.ready.within) in
    by_cases (ltb 0 t)
    (λ e. let s = l.lower (ltb-true 0 t e) in
    certificate_least m t (entry seats) s.0 (priced q masks tb) (record { schedule = v; by_then = w; short = s.1 }))
    (λ e. let z = ltb-false 0 t e in record { lower = λ a u. omega arith; reached = (entry seats, v, omega arith) })

-- the schedules within the capacities at t are those in time t
first_time : {n q : ℕ} {masks costs starts : List ℕ} {t : ℕ} {caps seats counts next prev out : List ℕ} (a : ℕ → ℕ) → Table n costs starts
    → LeastTime (masked_case n q masks costs starts) t → Timed n q masks costs starts t caps seats counts next prev out
    → FirstOf q (Possible n q masks caps) a → FirstOf q (HasTime (masked_case n q masks costs starts) t) a
unfolding InTime Schedule Within capacity_at
first_time {n} {q} {masks} {costs} {starts} {t} {caps} a tb l k f =
    let m = masked_case n q masks costs starts in
    first_has_time m t q a l
    (first_same (Possible n q masks caps) (InTime m t) q a
    (λ x p. (p.0, within_response m x t (priced q masks tb) (λ d h. omega (arith, p.1 d h, k.caps_at.each d h))))
    (λ x p. (p.0, λ d h. omega (arith, response_within m x t (priced q masks tb) p.1 d h, k.caps_at.each d h)))
    f)

-- ---- the short set

short_same : (n q : ℕ) (copy : ℕ → ℕ → Bool) (capacities : ℕ → ℕ) (S S' : ℕ → Bool) → ((b : ℕ) → b < q → S' b ≡ S b)
    → ShortSet n q copy capacities S → ShortSet n q copy capacities S'
unfolding Greatest NoShorter size Sub
short_same n q copy capacities S S' e s =
    record {
      greatest = λ T. omega (arith, s.greatest T, room_ext n q copy capacities S' S e, count_ext q S' S e);
      least = λ T g b h t. s.least T g b h (sym (e b h) ∙ t);
    }

pub named : {n q : ℕ} {masks costs starts : List ℕ} {t : ℕ} {caps seats counts next prev out : List ℕ} {x : ℕ}
    {short short' : List ℕ} {m : ℕ} → Restored n q masks costs starts t caps seats counts next prev out x → Listed q masks x short short' m
    → Named n q masks costs starts t caps seats counts next prev out short short' m
named {n} {q} {masks} {costs} {starts} {t} {x = x} {short' = short'} {m = m} r l =
    record {
      set = l.set;
      smallest = short_same n q (holds masks) (capacity_at (masked_case n q masks costs starts) (t - 1)) (among masks x)
          (listed (take m short')) l.same r.short;
      timed = r.timed;
    }

-- ---- the first schedule

pub sorted : {n q : ℕ} {masks caps seats disks disks' : List ℕ} → Ordered n q masks caps seats → Stored q seats disks disks'
    → Sorted n q masks caps disks disks'
unfolding Valid Within Agree
sorted {n} {q} {masks} {caps} {seats} {disks} {disks'} o s =
    let P = Possible n q masks caps in
    let l = first_lowest P q (entry seats) o.first in
    let p = l.holds in
    record {
      first = lowest_first P q (entry disks')
          (lowest_keep P q (entry seats) (entry disks') l (
            (λ b h. subst (λ (y : ℕ). (y < n) × (holds masks b y ≡ true)) (sym (s.same b h)) (p.0 b h)),
            λ d h. omega (arith, p.1 d h, reads_ext q (entry disks') (entry seats) s.same d),
          )
          s.same);
      rest = s.rest;
      long = s.long;
    }

-- ---- the plan

-- masks and copies spell the same case
same_copies : {copies masks : List ℕ} → Loaded copies masks → holds masks ≡ holds copies
same_copies l = fun_ext (λ b. fun_ext (λ d. ap (λ (y : ℕ). has y d) (l.same b)))

pub solved : {n q : ℕ} {masks costs starts caps seats counts next prev out caps' seats' counts' next' prev' out' : List ℕ}
    {disks short disks' short' : List ℕ} {t m : ℕ} → Table n costs starts → Least n q masks costs starts caps seats counts next prev out t
    → Named n q masks costs starts t caps' seats' counts' next' prev' out' short short' m → Sorted n q masks caps' disks disks'
    → Solved q masks costs starts disks short disks' short' (record { time = t; size = m })
solved {masks = masks} {costs = costs} {starts = starts} {disks = disks} {short = short} {disks' = disks'} {short' = short'} {t = t} {m = m}
    tb k s f copies e l =
    let case : ℕ → (ℕ → ℕ → Bool) → Case = λ n c.
    record { disks = n; blocks = length copies; start = λ d. get_or starts d 0; cost = λ d. get_or costs d 0; copy = c } in
    let h = least_time tb k in
    let plan : Optimal (case (length costs) (holds copies)) t (entry disks') (listed (take m short')) =
    rw (tb.costs_long, e, ← same_copies l)
    (record { least = h; first = first_time (entry disks') tb h s.timed f.first; short = s.smallest }) in
    record {
      plan = plan;
      set = rw e s.set;
      disks_rest = λ b u. f.rest b (rw e at u);
      disks_long = f.long;
      time_within = k.time;
    }

-- the time of the masks' schedule is that of the copies that they were loaded from
pub least_of : {copies costs starts masks caps seats counts next prev out : List ℕ} {t : ℕ} → Table (length costs) costs starts
    → Loaded copies masks → Least (length costs) (length copies) masks costs starts caps seats counts next prev out t
    → LeastOf copies costs starts t
least_of {copies} {costs} {starts} {t = t} tb l k =
    let case : (ℕ → ℕ → Bool) → Case = λ c.
    record { disks = length costs; blocks = length copies; start = λ d. get_or starts d 0; cost = λ d. get_or costs d 0; copy = c } in
    let h : LeastTime (case (holds copies)) t = rw (← same_copies l) (least_time tb k) in
    record { least = h; most = k.time }

-- what the slices spell, with nothing in the other lists
pub spelling : {copies costs starts : List ℕ} (masks : List ℕ) {s : Board} → Spellable copies costs starts → Loaded copies masks → Zeros s
    → Fresh (length costs) (length copies) masks costs starts (replicate disks_most 0) s.seats s.counts s.nodes.next s.nodes.prev s.out
spelling masks r l z =
    record {
      table = r.table;
      copies = record {
        small = λ b d h t. r.copied.small b d h (rw (l.same b) at t);
        some = λ b h. let x = r.copied.some b h in (x.0, rw (l.same b) x.1);
      };
      long = length-replicate {A = ℕ} disks_most 0;
      empty = record {
        disks = r.table.few;
        blocks = r.blocks;
        long_seats = rw z.seats (length-replicate {A = ℕ} blocks_most 0);
        long_counts = rw z.counts (length-replicate {A = ℕ} places_most 0);
        long_next = rw z.next (length-replicate {A = ℕ} nodes_most 0);
        long_prev = rw z.prev (length-replicate {A = ℕ} nodes_most 0);
        bounded_next = λ x. rw z.next (omega (arith, replicate_at {A = ℕ} 0 nodes_most x));
        bounded_prev = λ x. rw z.prev (omega (arith, replicate_at {A = ℕ} 0 nodes_most x));
        none = λ d _. rw z.counts (replicate_at {A = ℕ} 0 places_most d);
      };
      wide = rw z.out (length-replicate {A = ℕ} places_most 0);
    }

pub solving : {copies costs starts disks short : List ℕ} (masks : List ℕ) {s : Board} → Ready copies costs starts disks short
    → Loaded copies masks → Zeros s
    → Solving (length costs) (length copies) masks costs starts (replicate disks_most 0) s.seats s.counts s.nodes.next s.nodes.prev s.out
    disks short
solving masks r l z =
    record {
      fresh = spelling masks r.spellable l z;
      long = l.long;
      disks_room = r.disks_room;
      short_room = r.short_room;
    }
