-- Runs of calls to a unit.
--     rent_does .. why_does              what the methods promise is a call's reply
--     does_unique, runs_unique           a unit and its calls fix all replies
--     unit_number                        no call changes a unit's number
--     does_sound, runs_sound, unit_sound every unit that comes from New and the calls is sound
--     runs_exist                         every sound unit answers every sequence of calls
use mathlib.Core.Path.{◌≡◌, refl, sym, ap, ap₂, ◌∙◌, subst}
use mathlib.Core.Bool.{◌&&◌}
use mathlib.Core.List.{List, [], ◌∷◌}
use Prim.Native.Nat.{ℕ}
use lib.Dec.{eqb, ltb}
use Rattle.basics.proofs.Choice.{pick_elim}
use Rattle.field.specs.Send.{told_written}
use Rattle.field.specs.Sheet.{Out, got, refused as refused_sheet}
use Rattle.settings.specs.declared.Table.{Table}
use Rattle.plan.specs.Plan.{Plan}
use Rattle.planner.specs.Answered.{draft_of}
use Rattle.planner.proofs.Exists.{plans_exist}
use Rattle.planner.proofs.Plans.{plans_unique}
use Rattle.unit.specs.declared.Done.{Done}
use Rattle.unit.specs.declared.Requested.{Requested}
use Rattle.unit.specs.declared.Unit.{Unit as Shelf}
use Rattle.unit.specs.Life.{Outcome, rent, settled, set, give_back}
use Rattle.unit.specs.Request.{asked_of, Replied}
use Rattle.unit.specs.Sound.{Sound}
use Rattle.unit.specs.Told.{told, told_verdict}
use Rattle.unit.specs.Unit.{new_unit, tenancy_of, tenanted, returned}
use Rattle.unit.proofs.Sound.{sound_new, sound_rent, sound_set, sound_back}
use Rattle.why.specs.declared.Reasoned.{Reasoned}
use Rattle.why.specs.Why.{told_why, Explained}
use Rattle.why.proofs.Unique.{explains_unique, explains_exists}
use Rattle.hire.specs.Calls.{Call, renting, setting, asking, returning, explaining}
use Rattle.hire.specs.Calls.{Reply, said, planned, explained, Comes, sent, Does, Runs, none, next}

-- ---- what the methods promise is a call's reply

comes : {o : Outcome} (d : Done) → told d ≡ o → Comes o (said (told_verdict d.answer)) d.unit
unfolding Comes
comes d h = (ap (λ (o : Outcome). said o.verdict) h, ap (λ (o : Outcome). o.unit) h)

pub rent_does : (u : Shelf) (t : ℕ) (d : Done) → told d ≡ rent u t → Does u (renting t) (said (told_verdict d.answer)) d.unit
unfolding Does
rent_does u t d h = comes d h

pub set_does : (u : Shelf) (s : List ℕ) (d : Done) → told d ≡ set u s → Does u (setting s) (said (told_verdict d.answer)) d.unit
unfolding Does
set_does u s d h = comes d h

pub back_does : (u : Shelf) (t : ℕ) (d : Done) → told d ≡ give_back u t → Does u (returning t) (said (told_verdict d.answer)) d.unit
unfolding Does
back_does u t d h = comes d h

pub request_does : {u : Shelf} {s out after : List ℕ} {r : Requested} → Replied u s out r after
    → Does u (asking s out) (planned (told_written r.answer) after) r.unit
unfolding Does sent
request_does a = let w = a.reply in (w.plan, w.plans, ap₂ planned w.sent.answer w.sent.held, a.same)

pub why_does : (u : Shelf) (s : List ℕ) (b d : ℕ) (r : Reasoned) → Explained u s b d r
    → Does u (explaining s b d) (explained (told_why r.answer)) r.unit
unfolding Does
why_does u s b d r a = (told_why r.answer, a.says, refl, a.same)

-- ---- a unit and its calls fix all replies

pub does_unique : (u : Shelf) (c : Call) (r s : Reply) (v w : Shelf) → Does u c r v → Does u c s w → (r ≡ s) × (v ≡ w)
unfolding Does Comes
does_unique u (renting t) r s v w p q = (p.0 ∙ sym q.0, p.1 ∙ sym q.1)
does_unique u (setting x) r s v w p q = (p.0 ∙ sym q.0, p.1 ∙ sym q.1)
does_unique u (returning t) r s v w p q = (p.0 ∙ sym q.0, p.1 ∙ sym q.1)
does_unique u (asking x out) r s v w p q = (
  p.2 ∙ ap (λ (z : Out Plan). sent (draft_of u.number (tenancy_of u) z) out) (plans_unique (asked_of u x) p.1 q.1) ∙ sym q.2,
  p.3 ∙ sym q.3,
)
does_unique u (explaining x b d) r s v w p q = (
  p.2 ∙ ap explained (explains_unique (asked_of u x) b d p.1 q.1) ∙ sym q.2,
  p.3 ∙ sym q.3,
)

pub runs_unique : (cs : List Call) {u v w : Shelf} {rs ss : List Reply} → Runs u cs rs v → Runs u cs ss w → (rs ≡ ss) × (v ≡ w)
runs_unique [] none none = (refl, refl)
runs_unique (c ∷ cs) {u} {v} {w} (next {rs = rs} d p) (next {v = mid} {rs = ss} e q) =
    let one = does_unique u c _ _ _ _ d e in
    let rest = runs_unique cs {u = mid} {v = v} {w = w} {rs = rs} {ss = ss} (subst (λ (m : Shelf). Runs m cs rs v) one.1 p) q in
    (ap₂ ◌∷◌ one.0 rest.0, rest.1)

-- ---- no call changes a unit's number

abbrev Keeps : Shelf → Outcome → Type 0
Keeps u o = o.unit.number ≡ u.number

rent_number : (u : Shelf) (t : ℕ) → Keeps u (rent u t)
unfolding rent tenanted
rent_number u t = pick_elim (Keeps u) u.rented _ _ (λ _. refl) λ _. pick_elim (Keeps u) (ltb u.last t) _ _ (λ _. refl) (λ _. refl)

settled_number : (u : Shelf) (o : Out Table) → Keeps u (settled u o)
unfolding settled
settled_number u (got t e) = refl
settled_number u (refused_sheet n) = refl

set_number : (u : Shelf) (s : List ℕ) → Keeps u (set u s)
unfolding set
set_number u s = settled_number u _

back_number : (u : Shelf) (t : ℕ) → Keeps u (give_back u t)
unfolding give_back returned
back_number u t = pick_elim (Keeps u) (u.rented && eqb t u.last) _ _ (λ _. refl) (λ _. refl)

does_number : (u : Shelf) (c : Call) (r : Reply) (v : Shelf) → Does u c r v → v.number ≡ u.number
unfolding Does Comes
does_number u (renting t) r v p = ap (λ (x : Shelf). x.number) p.1 ∙ rent_number u t
does_number u (setting s) r v p = ap (λ (x : Shelf). x.number) p.1 ∙ set_number u s
does_number u (returning t) r v p = ap (λ (x : Shelf). x.number) p.1 ∙ back_number u t
does_number u (asking s out) r v p = ap (λ (x : Shelf). x.number) p.3
does_number u (explaining s b d) r v p = ap (λ (x : Shelf). x.number) p.3

runs_number : {u v : Shelf} {cs : List Call} {rs : List Reply} → Runs u cs rs v → v.number ≡ u.number
runs_number none = refl
runs_number (next d p) = runs_number p ∙ does_number _ _ _ _ d

-- a unit that comes from New has the number that it was given
pub unit_number : (n : ℕ) {cs : List Call} {rs : List Reply} {v : Shelf} → Runs (new_unit n) cs rs v → v.number ≡ n
unfolding new_unit
unit_number n p = runs_number p

-- ---- every unit that comes from New and the calls is sound

pub does_sound : (u : Shelf) (c : Call) (r : Reply) (v : Shelf) → Does u c r v → Sound u → Sound v
unfolding Does Comes
does_sound u (renting t) r v p w = subst Sound (sym p.1) (sound_rent u w t)
does_sound u (setting s) r v p w = subst Sound (sym p.1) (sound_set u w s)
does_sound u (returning t) r v p w = subst Sound (sym p.1) (sound_back u w t)
does_sound u (asking s out) r v p w = subst Sound (sym p.3) w
does_sound u (explaining s b d) r v p w = subst Sound (sym p.3) w

pub runs_sound : {u v : Shelf} {cs : List Call} {rs : List Reply} → Runs u cs rs v → Sound u → Sound v
runs_sound none w = w
runs_sound (next d p) w = runs_sound p (does_sound _ _ _ _ d w)

pub unit_sound : (n : ℕ) {cs : List Call} {rs : List Reply} {v : Shelf} → Runs (new_unit n) cs rs v → Sound v
unit_sound n p = runs_sound p (sound_new n)

-- ---- a run exists

does_exists : (u : Shelf) (c : Call) → Sound u → (r : Reply) × (v : Shelf) × Does u c r v
unfolding Does Comes
does_exists u (renting t) w = (said (rent u t).verdict, (rent u t).unit, (refl, refl))
does_exists u (setting s) w = (said (set u s).verdict, (set u s).unit, (refl, refl))
does_exists u (returning t) w = (said (give_back u t).verdict, (give_back u t).unit, (refl, refl))
does_exists u (asking s out) w =
    let x = plans_exist u.number (tenancy_of u) s w.proper in
    (sent (draft_of u.number (tenancy_of u) x.0) out, u, (x.0, x.1, refl, refl))
does_exists u (explaining s b d) w = let x = explains_exists u s b d w in (explained x.0, u, (x.0, x.1, refl, refl))

pub runs_exist : (u : Shelf) (cs : List Call) → Sound u → (rs : List Reply) × (v : Shelf) × Runs u cs rs v
runs_exist u [] w = ([], u, none)
runs_exist u (c ∷ cs) w =
    let d = does_exists u c w in
    let r = runs_exist d.1 cs (does_sound u c _ _ d.2 w) in
    (d.0 ∷ r.0, r.1, next d.2 r.2)
