-- `search::seek` meets its contract.
use Prim.Native.Nat.{ℕ, ◌<◌}
use mathlib.Core.Path.{◌≡◌, refl, sym, subst}
use mathlib.Core.Bool.{true}
use mathlib.Core.List.{List}
use Rattle.mask.specs.Has.{has}
use Rattle.search.specs.declared.Reach.{Reach}
use Rattle.search.specs.Boards.{Visited}
use Rattle.search.specs.Parts.{Sought}
use Rattle.places.proofs.Among.{inside_zero}
use Rattle.places.proofs.Seats.{ringed_row}
use Rattle.search.proofs.Sweeps.{sweep_start, sweep_end, reached, beyond, sweep_on, sweep_less, visited_skip}
use native.Mathlib.Omega.{arith}
use Rattle.search.proofs.seek.Goals.{In-Some, Joined-without-ne0, then-without-ne0, else-without-ne0}
use Rattle.search.proofs.seek.Goals as goal

-- the disk that is chosen is reached
chosen : (c : In-Some) → has c.search.reach.disks c.in-Some.d ≡ true
chosen c = reached c.requires.0 c.search.invariant.0 c.in-Some.d c.without.result c.without.ensures c.in-Some.ensures.found

small : (c : In-Some) → c.in-Some.d < c.args.task.n
small c = c.search.invariant.0.seeks.small c.in-Some.d (chosen c)

-- what has come of the disk that is chosen
abbrev Came : (c : Joined-without-ne0) → List ℕ → List ℕ → Reach → Type 0
Came c = λ by out reach. Visited c.args.task c.in-Some.d c.args.masks.now c.args.seats.now c.search.reach by out reach

-- whether it was visited or skipped, its blocks bring nothing new
visited : (c : Joined-without-ne0) → c.in-Some.d < c.args.task.n → Came c c.if-without-ne0.by c.if-without-ne0.out c.if-without-ne0.reach
visited c l =
    let s = c.search in
    let j = c.if-without-ne0 in
    elim c.if-without-ne0.branch [
      | then-without-ne0 u ↦
          let v = u.visit-reach in
          subst (λ (x : List ℕ). Came c j.by x j.reach) (sym u.out-is) (subst (λ (x : List ℕ). Came c x v.new.out j.reach) (sym u.by-is)
          (subst (λ (x : Reach). Came c v.new.by v.new.out x) (sym u.reach-is) v.ensures))
      | else-without-ne0 u ↦
          subst (λ (x : List ℕ). Came c j.by x j.reach) (sym u.out-is)
          (subst (λ (x : List ℕ). Came c x s.out j.reach) (sym u.by-is)
          (subst (λ (x : Reach). Came c s.by s.out x) (sym u.reach-is)
          (visited_skip c.without-in-search.result s.reach s.invariant.1 l s.invariant.2 s.invariant.0.seeks
          c.without-in-search.ensures (omega (arith, u.if-without-ne0.false)))))
    ]

pub search-init : goal.search-init
search-init c =
    let p = c.requires in
    let e = c.either in
    (sweep_start p.0 e.result p.1 (omega (arith, e.type_inv)) (omega arith) e.ensures, refl, p.0.seated.far)

pub visit-reach-requires : goal.visit-reach-requires
visit-reach-requires c =
    let p = c.requires.0 in
    let d = c.in-Some.d in
    let i = (goal.at.visit-reach-requires c).In-Some in
    record {
      disks = p.seated.placed.disks;
      disk = small i;
      row = ringed_row p.seated.ringed d (omega (arith, small i));
      seeks = c.search.invariant.0.seeks;
      reached = chosen i;
      beyond = beyond p c.search.invariant.0 d c.without.result c.without.ensures c.in-Some.ensures.found;
      low = p.kept.small;
      far = c.search.invariant.2;
    }

pub search-smaller : goal.search-smaller
search-smaller c =
    let e = c.put-done in
    sweep_less c.requires.0 c.search.invariant.0 c.in-Some.d c.without.result c.without.ensures c.in-Some.ensures.found
    e.result e.ensures (omega (arith, e.type_inv))

pub search-preserved : goal.search-preserved
search-preserved c =
    let e = c.put-done in
    let v = visited (goal.at.search-preserved c).Joined-without-ne0 (small (goal.at.search-preserved c).In-Some) in
    let o = c.in_default-free.is in (
      sweep_on c.requires.0 c.search.invariant.0 c.in-Some.d c.without.result c.without.ensures c.in-Some.ensures.found
          e.result e.ensures (omega (arith, e.type_inv)) (v.seeks o) (v.more o) (v.quiet o),
      o,
      v.far,
    )

pub returns-in_default : goal.returns-in_default
unfolding Sought
returns-in_default c =
    let l = c.search in
    let w = c.without in (
      sweep_end c.requires.0 l.invariant.0 (inside_zero l.reach.disks l.done w.result w.ensures c.in_default.ensures),
      l.invariant.2,
      l.invariant.0.seeks.long,
    )

pub returns-in-Some-free : goal.returns-in-Some-free
unfolding Sought
returns-in-Some-free c =
    let v = visited (goal.at.returns-in-Some-free c).Joined-without-ne0 (small (goal.at.returns-in-Some-free c).In-Some) in
    (v.found c.in-Some-free.f c.in-Some-free.is, v.far, v.long)
