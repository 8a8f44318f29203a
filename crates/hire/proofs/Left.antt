-- What remains of one tenant when the next one comes.
--     returned_bare     after an accepted Return the number and the last tenancy, and nothing else
--     free_alike        units of one number that come from New and the calls and are not rented differ in the last tenancy alone
--     shows_only        the last tenancy shows only in refusal 13, whatever calls come in whatever order
use mathlib.Core.Path.{◌≡◌, refl, sym, ap, ◌∙◌, subst}
use mathlib.Core.Bool.{false, ◌&&◌}
use mathlib.Core.List.{List, [], ◌∷◌}
use mathlib.Core.Logic.{inl, inr}
use Prim.Native.Nat.{ℕ}
use native.Mathlib.Omega.{arith}
use borrow.Author.Tests.{ltb-true, ltb-false}
use lib.Dec.{eqb, ltb}
use Rattle.basics.proofs.Tests.{by_cases}
use Rattle.basics.proofs.Choice.{pick_elim}
use Rattle.field.specs.Sheet.{unplaced, Out, got, refused as refused_sheet}
use Rattle.settings.specs.declared.Table.{Table}
use Rattle.settings.specs.Sheet.{settings_sheet}
use Rattle.settings.specs.Table.{no_table}
use Rattle.settings.proofs.Accepted.{accepted_tenancy}
use Rattle.plan.specs.Plan.{Plan}
use Rattle.planner.specs.Answered.{draft_of}
use Rattle.planner.specs.Asked.{Plans}
use Rattle.planner.proofs.Plans.{plans_unique}
use Rattle.unit.specs.declared.Unit.{Unit as Shelf}
use Rattle.unit.specs.Life.{accepted, Outcome, takes, refuses, rent, settled, set, give_back}
use Rattle.unit.specs.Request.{asked_of}
use Rattle.unit.specs.Unit.{new_unit, tenancy_of, tenanted, returned}
use Rattle.unit.proofs.Lives.{tenancy_free, rent_low, rent_taken, back_free}
use Rattle.why.specs.Why.{within, Explains}
use Rattle.why.proofs.Unique.{explains_unique}
use Rattle.hire.specs.Agrees.{Alike, Parts, Agrees, end, same, part}
use Rattle.hire.specs.Calls.{Call, renting, setting, asking, returning, explaining}
use Rattle.hire.specs.Calls.{Reply, said, explained, Comes, sent, Does, Runs, none, next}
use Rattle.hire.proofs.Clause.{clash, rent_same}
use Rattle.hire.proofs.Runs.{runs_unique, unit_number, unit_sound}

-- ---- an accepted Return

bare : (u : Shelf) (t : ℕ) → (give_back u t).verdict ≡ accepted
    → (give_back u t).unit ≡ record { number = u.number; last = u.last; rented = false; table = no_table }
unfolding give_back returned
bare u t =
    pick_elim
    (λ (o : Outcome). o.verdict ≡ accepted → o.unit ≡ record { number = u.number; last = u.last; rented = false; table = no_table })
    (u.rented && eqb t u.last) _ _ (λ _ _. refl) (λ _ h. clash (unplaced 14) h)

pub returned_bare : (u : Shelf) (t : ℕ) (v : Shelf) → Does u (returning t) (said accepted) v
    → v ≡ record { number = u.number; last = u.last; rented = false; table = no_table }
unfolding Does Comes
returned_bare u t v p =
    let h : said accepted ≡ said (give_back u t).verdict = p.0 in
    let k : (give_back u t).verdict ≡ accepted = cc in
    p.1 ∙ bare u t k

pub free_alike : (n : ℕ) {before before' : List Call} {rs rs' : List Reply} {u v : Shelf}
    → Runs (new_unit n) before rs u → Runs (new_unit n) before' rs' v → u.rented ≡ false → v.rented ≡ false → Alike u v
free_alike n p q f g = record {
  number = unit_number n p ∙ sym (unit_number n q);
  free = f;
  free' = g;
  table = (unit_sound n p).cleared f ∙ sym ((unit_sound n q).cleared g);
}

-- ---- while not rented no call but Rent changes a unit

settled_free : (u : Shelf) → u.rented ≡ false → (s : List ℕ) (o : Out Table) → settings_sheet u.number (tenancy_of u) s 0 ≡ o
    → (settled u o).unit ≡ u
unfolding settled
settled_free u f s (refused_sheet n) h = refl
settled_free u f s (got T e) h = absurd (omega (arith, tenancy_free u f, accepted_tenancy u.number (tenancy_of u) s T e h))

-- ---- two units that are alike, call by call

-- one call to both: one reply, and the units stay or are then one; or a Rent that one of the two refuses with 13 and the other accepts
data Step (u v : Shelf) (r s : Reply) (x y : Shelf) : Call → Type 0 where
  stay : {c : Call} → r ≡ s → x ≡ u → y ≡ v → Step u v r s x y c
  meet : {c : Call} → r ≡ s → x ≡ y → Step u v r s x y c
  apart : {t : ℕ} → Parts r s → Step u v r s x y (renting t)

settled_verdict : (u v : Shelf) (o : Out Table) → (settled u o).verdict ≡ (settled v o).verdict
unfolding settled
settled_verdict u v (got t e) = refl
settled_verdict u v (refused_sheet n) = refl

module _ {u v : Shelf} (k : Alike u v) where
  same_tenancy : tenancy_of u ≡ tenancy_of v
  same_tenancy = tenancy_free u k.free ∙ sym (tenancy_free v k.free')

  same_set : (s : List ℕ) → (set u s).verdict ≡ (set v s).verdict
  unfolding set
  same_set s =
      settled_verdict u v (settings_sheet u.number (tenancy_of u) s 0)
      ∙ ap (λ (n : ℕ). (settled v (settings_sheet n (tenancy_of u) s 0)).verdict) k.number
      ∙ ap (λ (n : ℕ). (settled v (settings_sheet v.number n s 0)).verdict) same_tenancy

  same_asked : (s : List ℕ) → asked_of v s ≡ asked_of u s
  same_asked s = let e = same_tenancy in let n = k.number in let t = k.table in cc

  same_sent : (x y : Out Plan) (out : List ℕ) → x ≡ y
      → sent (draft_of u.number (tenancy_of u) x) out ≡ sent (draft_of v.number (tenancy_of v) y) out
  same_sent x y out h = let e = same_tenancy in let n = k.number in cc

  step : (c : Call) (r s : Reply) (x y : Shelf) → Does u c r x → Does v c s y → Step u v r s x y c
  unfolding Does Comes set
  step (setting z) r s x y p q =
      stay (p.0 ∙ ap said (same_set z) ∙ sym q.0)
      (p.1 ∙ settled_free u k.free z (settings_sheet u.number (tenancy_of u) z 0) refl)
      (q.1 ∙ settled_free v k.free' z (settings_sheet v.number (tenancy_of v) z 0) refl)
  step (asking z out) r s x y p q =
      let same : p.0 ≡ q.0 = plans_unique (asked_of u z) p.1 (subst (λ o. Plans o q.0) (same_asked z) q.1) in
      stay (p.2 ∙ same_sent p.0 q.0 out same ∙ sym q.2) p.3 q.3
  step (explaining z b d) r s x y p q =
      let there = subst (λ o. Explains (within o b d) b d q.0) (same_asked z) q.1 in
      stay (p.2 ∙ ap explained (explains_unique (asked_of u z) b d p.1 there) ∙ sym q.2) p.3 q.3
  step (returning t) r s x y p q =
      let a = back_free u t k.free in
      let b = back_free v t k.free' in
      stay (p.0 ∙ ap (λ (o : Outcome). said o.verdict) a ∙ sym (ap (λ (o : Outcome). said o.verdict) b) ∙ sym q.0)
      (p.1 ∙ ap (λ (o : Outcome). o.unit) a)
      (q.1 ∙ ap (λ (o : Outcome). o.unit) b)
  step (renting t) r s x y p q =
      by_cases (ltb u.last t)
      (λ a.
      let ou : rent u t ≡ takes (tenanted u t) = rent_taken u t k.free (ltb-true _ _ a) in
      by_cases (ltb v.last t)
      (λ b.
      let ov : rent v t ≡ takes (tenanted v t) = rent_taken v t k.free' (ltb-true _ _ b) in
      meet (p.0 ∙ ap (λ (o : Outcome). said o.verdict) ou ∙ sym (ap (λ (o : Outcome). said o.verdict) ov) ∙ sym q.0)
      (p.1 ∙ rent_same u t (ap (λ (o : Outcome). o.verdict) ou) v k.number (ap (λ (o : Outcome). o.verdict) ov) ∙ sym q.1))
      (λ b.
      let ov : rent v t ≡ refuses v (unplaced 13) = rent_low v t k.free' (ltb-false _ _ b) in
      apart (inr (p.0 ∙ ap (λ (o : Outcome). said o.verdict) ou, q.0 ∙ ap (λ (o : Outcome). said o.verdict) ov))))
      (λ a.
      let ou : rent u t ≡ refuses u (unplaced 13) = rent_low u t k.free (ltb-false _ _ a) in
      by_cases (ltb v.last t)
      (λ b.
      let ov : rent v t ≡ takes (tenanted v t) = rent_taken v t k.free' (ltb-true _ _ b) in
      apart (inl (p.0 ∙ ap (λ (o : Outcome). said o.verdict) ou, q.0 ∙ ap (λ (o : Outcome). said o.verdict) ov)))
      (λ b.
      let ov : rent v t ≡ refuses v (unplaced 13) = rent_low v t k.free' (ltb-false _ _ b) in
      stay (p.0 ∙ ap (λ (o : Outcome). said o.verdict) ou ∙ sym (ap (λ (o : Outcome). said o.verdict) ov) ∙ sym q.0)
      (p.1 ∙ ap (λ (o : Outcome). o.unit) ou)
      (q.1 ∙ ap (λ (o : Outcome). o.unit) ov)))

-- ---- any calls in any order

agrees_self : {cs : List Call} {u x : Shelf} {rs : List Reply} → Runs u cs rs x → Agrees cs rs rs
agrees_self none = end
agrees_self (next d p) = same (agrees_self p)

agrees_one : {cs : List Call} {u x y : Shelf} {rs ss : List Reply} → Runs u cs rs x → Runs u cs ss y → Agrees cs rs ss
agrees_one {cs} {rs = rs} p q = subst (λ (z : List Reply). Agrees cs rs z) (runs_unique cs p q).0 (agrees_self p)

-- after the first call
abbrev Goes : List Call → Shelf → Shelf → Type 0
Goes cs u v = (rs ss : List Reply) (x y : Shelf) → Runs u cs rs x → Runs v cs ss y → Agrees cs rs ss

after : (c : Call) (cs : List Call) {u v : Shelf} → Goes cs u v → {r s : Reply} {m n : Shelf} → Step u v r s m n c
    → (rs ss : List Reply) (x y : Shelf) → Runs m cs rs x → Runs n cs ss y → Agrees (c ∷ cs) (r ∷ rs) (s ∷ ss)
after c cs go {r} (stay e a b) rs ss x y p q =
    subst (λ (z : Reply). Agrees (c ∷ cs) (r ∷ rs) (z ∷ ss)) e
    (same (go rs ss x y (subst (λ (z : Shelf). Runs z cs rs x) a p) (subst (λ (z : Shelf). Runs z cs ss y) b q)))
after c cs go {r} (meet e a) rs ss x y p q =
    subst (λ (z : Reply). Agrees (c ∷ cs) (r ∷ rs) (z ∷ ss)) e (same (agrees_one (subst (λ (z : Shelf). Runs z cs rs x) a p) q))
after c cs go (apart h) rs ss x y p q = part h

alike_agrees : (cs : List Call) {u v : Shelf} → Alike u v → Goes cs u v
alike_agrees [] k rs ss x y none none = end
alike_agrees (c ∷ cs) k rs ss x y (next d p) (next e q) = after c cs (alike_agrees cs k) (step k c _ _ _ _ d e) _ _ x y p q

-- two units of one number that come from New and the calls and are not rented answer any calls alike, up to a Rent that one refuses with 13
pub shows_only : (n : ℕ) {before before' : List Call} {rs rs' : List Reply} {u v : Shelf}
    → Runs (new_unit n) before rs u → Runs (new_unit n) before' rs' v
    → u.rented ≡ false → v.rented ≡ false
    → {cs : List Call} {xs ys : List Reply} {x y : Shelf} → Runs u cs xs x → Runs v cs ys y → Agrees cs xs ys
shows_only n p q f g {cs} a b = alike_agrees cs (free_alike n p q f g) _ _ _ _ a b
