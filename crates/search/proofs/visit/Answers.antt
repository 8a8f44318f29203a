-- `search::visit` meets its contract.
use Prim.Native.Nat.{ℕ, ◌+◌, ◌<◌}
use mathlib.Core.Path.{◌≡◌, sym, subst, ◌∙◌}
use mathlib.Core.Bool.{true, ◌&&◌}
use mathlib.Core.List.{List}
use lib.ListN.{get_or, length-set}
use Rattle.std.proofs.lemmas.Option.{none-some, same_Some}
use Rattle.basics.specs.Limits.{places_most}
use Rattle.mask.specs.Has.{has}
use Rattle.basics.proofs.Tests.{and_left, and_right, or_left, or_right}
use Rattle.places.specs.Among.{Inside}
use Rattle.places.proofs.Among.{inside_zero}
use Rattle.places.proofs.Masks.{none_free}
use Rattle.search.proofs.Turns.{Turn, more_steps, seeks_way, seeks_mark, up, covered}
use Rattle.search.proofs.Rounds.{Round, round_start, round_end, round_far, round_less, round_turn, round_on}
use native.Mathlib.Omega.{arith}
use Rattle.search.proofs.visit.Goals.{Then-fresh-ne0, then-fresh-ne0+in_default+else-without-eq0, else-fresh-ne0}
use Rattle.search.proofs.visit.Goals as goal

-- the block at which the walk is brings a disk
turn : (c : Then-fresh-ne0) → let l = c.loop-y in let t = c.args.task in
    Turn t.n t.q t.b t.base t.bound c.args.masks.now c.args.seats.now t.room l.by l.steps l.disks l.y c.args.d c.without-fresh.result
turn c =
    let w = c.without-fresh in
    round_turn c.loop-y.invariant c.loop-y-test.true w.result c.requires (omega (arith, w.type_inv)) w.ensures c.if-fresh-ne0.true

-- there is room for its note
few : (c : Then-fresh-ne0) → c.loop-y.steps < places_most
few c = omega (arith, more_steps (turn c))

pub loop-y-init : goal.loop-y-init
loop-y-init c = round_start c.requires.row c.requires.seeks

pub offset_bounds-by-steps : goal.offset_bounds-by-steps
offset_bounds-by-steps c = omega (arith, few (goal.at.offset_bounds-by-steps c).Then-fresh-ne0)

pub bounds-by-steps : goal.bounds-by-steps
bounds-by-steps c = few (goal.at.bounds-by-steps c).Then-fresh-ne0

pub overflow_add-steps : goal.overflow_add-steps
overflow_add-steps c = omega (arith, few (goal.at.overflow_add-steps c).Then-fresh-ne0)

pub returns-in-Some : goal.returns-in-Some
returns-in-Some c =
    let t = turn (goal.at.returns-in-Some c).Then-fresh-ne0 in
    let f = c.in-Some.f in
    let w = c.without-fresh.result in
    let room = c.args.task.room in
    record {
      far = c.requires.far;
      long = length-set c.loop-y.by c.loop-y.steps c.loop-y.y ∙ c.loop-y.invariant.seeks.long;
      found = λ x e.
          let g : (has w x && has room x) ≡ true =
          sym (c.both.ensures x) ∙ subst (λ (d : ℕ). has c.both.result d ≡ true) (same_Some f x e) c.in-Some.ensures.found in (
            omega (arith, more_steps t),
            seeks_way t x (and_left (has w x) (has room x) g),
            and_right (has w x) (has room x) g,
          );
      seeks = λ e. absurd (none-some f (sym e));
      quiet = λ e. absurd (none-some f (sym e));
      more = λ e. absurd (none-some f (sym e));
    }

pub returns-then-without-eq0 : goal.returns-then-without-eq0
returns-then-without-eq0 c =
    let t = turn (goal.at.returns-then-without-eq0 c).Then-fresh-ne0 in
    let e = c.either-disks in
    let u = c.without in
    let m = c.both in
    let a = c.args in
    record {
      far = c.requires.far;
      long = length-set c.loop-y.by c.loop-y.steps c.loop-y.y ∙ c.loop-y.invariant.seeks.long;
      found = λ f h. absurd (none-some f h);
      seeks = λ _. seeks_mark t e.result e.ensures (omega (arith, e.type_inv))
          (none_free c.without-fresh.result a.task.room m.result m.ensures c.in_default.ensures);
      quiet = λ _ i h k o x v. inside_zero (get_or a.out.now a.d 0) e.result u.result u.ensures c.if-without-eq0.true x
          (subst (λ (j : ℕ). has (get_or a.out.now j 0) x ≡ true) o
          (c.requires.far.each i h k (subst (λ (j : ℕ). j < a.task.n) (sym o) c.requires.disk) x v));
      more = λ _ x v. up t e.result e.ensures (omega (arith, e.type_inv)) x (c.loop-y.invariant.more x v);
    }

pub loop-y-smaller : goal.loop-y-smaller
loop-y-smaller c = round_less c.loop-y.invariant (omega arith)

pub loop-y-preserved : goal.loop-y-preserved
loop-y-preserved c =
    let a = c.args in
    let t = a.task in
    let l = c.loop-y in
    let w = c.without-fresh in
    let e = c.either-seen in
    let j = c.if-fresh-ne0 in
    let copies = get_or a.masks.now l.y 0 in
    let R : List ℕ → ℕ → ℕ → Type 0 = λ by steps x.
    Round t.n t.q t.b t.base t.bound a.d a.masks.now a.seats.now a.next.now t.room a.reach.disks
    by steps x (get_or a.next.now l.y 0) e.result in
    let sees : Inside l.seen e.result = λ x t. e.ensures x ∙ or_left (has l.seen x) (has copies x) t in
    let adds : Inside copies e.result = λ x t. e.ensures x ∙ or_right (has l.seen x) (has copies x) t in
    elim c.if-fresh-ne0.branch [
      | then-fresh-ne0+in_default+else-without-eq0 v ↦
          let m = v.either-disks in
          let turn = round_turn l.invariant (omega arith) w.result c.requires (omega (arith, w.type_inv)) w.ensures v.if-fresh-ne0.true in
          subst (λ (x : ℕ). R j.by j.steps x) (sym v.disks-is) (subst (λ (t : ℕ). R j.by t m.result) (sym v.steps-is)
          (subst (λ (i : List ℕ). R i (l.steps + 1) m.result) (sym v.by-is)
          (round_on l.invariant (omega arith) e.result
          (seeks_mark turn m.result m.ensures (omega (arith, m.type_inv))
          (none_free w.result t.room v.both.result v.both.ensures v.in_default.ensures))
          (up turn m.result m.ensures (omega (arith, m.type_inv))) (covered turn m.result m.ensures (omega (arith, m.type_inv)))
          sees adds)))
      | else-fresh-ne0 v ↦
          subst (λ (x : ℕ). R j.by j.steps x) (sym v.disks-is) (subst (λ (t : ℕ). R j.by t l.disks) (sym v.steps-is)
          (subst (λ (i : List ℕ). R i l.steps l.disks) (sym v.by-is)
          (round_on l.invariant (omega arith) e.result l.invariant.seeks (λ e t. t)
          (inside_zero copies l.disks w.result w.ensures (omega (arith, v.if-fresh-ne0.false))) sees adds)))
    ]

pub returns : goal.returns
returns c =
    let l = c.loop-y in
    record {
      far = round_far l.invariant c.requires.row (omega arith) (omega (arith, c.requires.disk, c.requires.disks)) c.requires.far;
      long = l.invariant.seeks.long;
      found = λ f h. absurd (none-some f h);
      seeks = λ _. l.invariant.seeks;
      quiet = λ _. round_end l.invariant c.requires.row (omega arith);
      more = λ _. l.invariant.more;
    }
