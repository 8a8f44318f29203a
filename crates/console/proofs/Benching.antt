-- Laws of the bench: a call's outcome, what is shown of a plan sheet, and each stage of the input.
use mathlib.Core.Path.{◌≡◌, refl, sym, ap, ◌∙◌, subst}
use mathlib.Core.List.{List}
use Prim.Native.Nat.{ℕ, ◌^◌, ◌≤◌, ◌<◌}
use native.Mathlib.Omega.{arith}
use borrow.Author.Tests.{le-leb, ltb-true}
use lib.Dec.{ltb}
use lib.ListN.{length, take}
use Rattle.std.specs.Prelude.{Result, Ok, Err}
use Rattle.basics.specs.Limits.{blocks_most, plan_most}
use Rattle.basics.specs.Choice.{pick}
use Rattle.basics.proofs.Choice.{pick_true, pick_elim}
use Rattle.field.specs.declared.Fault.{Fault}
use Rattle.field.specs.Field.{number, end}
use Rattle.field.specs.Refusal.{number_of, note_of}
use Rattle.field.specs.Sheet.{Note, Out, got, refused, pure}
use Rattle.field.proofs.Sheet.{next, then, stops, halts}
use Rattle.settings.specs.declared.Table.{Table}
use Rattle.settings.specs.Sheet.{settings_sheet}
use Rattle.plan.specs.declared.Head.{Head}
use Rattle.plan.specs.Draft.{plan_bytes}
use Rattle.plan.specs.Plan.{Plan, plan_sheet}
use Rattle.plan.specs.Range.{InRange}
use Rattle.plan.specs.Receive.{if_room, heads, Received}
use Rattle.plan.proofs.Longest.{longest}
use Rattle.basics.proofs.Buffer.{over_within, over_front}
use Rattle.plan.proofs.Accepted.{Took, took}
use Rattle.plan.proofs.RoundTrip.{sheet_read, same_plan}
use Rattle.planner.proofs.Answers.{Unsent, denied, longer, plans_range, answered_sheet, answered_none}
use Rattle.planner.proofs.Plans.{plans_unique}
use Rattle.unit.specs.declared.Done.{Done}
use Rattle.unit.specs.declared.Requested.{Requested}
use Rattle.unit.specs.declared.Unit.{Unit}
use Rattle.unit.specs.Life.{accepted, Outcome, rent, settled, set}
use Rattle.unit.specs.Request.{asked_of, Replied}
use Rattle.unit.specs.Sound.{Sound}
use Rattle.unit.specs.Told.{told, told_verdict}
use Rattle.unit.specs.Unit.{new_unit, tenancy_of, tenanted}
use Rattle.unit.proofs.Sound.{sound_new, sound_rent, sound_set}
use Rattle.unit.proofs.Replies.{replied_as}
use Rattle.console.specs.Bench.{Ready, judge, accept, close, apply, hire, bench_input, answer_line, Asks, Line, Tells}
use Rattle.console.specs.Parts.{Rented, Shows, Replies, Readied}
use Rattle.stream.specs.declared.Span.{Span}
use Rattle.stream.specs.Frame.{sheet, at_span}
use Rattle.line.specs.Line.{refused_text, plan_line}
use Rattle.line.specs.Printed.{Printed}
use Rattle.line.proofs.Adding.{printed_unique}

-- ---- a call's outcome

module _ (s : List ℕ) (at : ℕ) {o : Outcome} (d : Done) (h : told d ≡ o) where
  pub outcome_taken : d.answer ≡ Ok tt → accept o s at ≡ got d.unit at
  unfolding accept judge
  outcome_taken q = ap (λ (x : Outcome). judge x.verdict x.unit at) (sym h) ∙ ap (λ v. judge (told_verdict v) d.unit at) q

  pub outcome_denied : (e : Fault) → d.answer ≡ Err e → accept o s at ≡ refused (note_of e)
  unfolding accept judge
  outcome_denied e q = ap (λ (x : Outcome). judge x.verdict x.unit at) (sym h) ∙ ap (λ v. judge (told_verdict v) d.unit at) q

-- the unit of an outcome
pub outcome_unit : {o : Outcome} (d : Done) → told d ≡ o → o.unit ≡ d.unit
outcome_unit d h = ap (λ (x : Outcome). x.unit) (sym h)

outcome_verdict : {o : Outcome} (d : Done) → told d ≡ o → d.answer ≡ Ok tt → o.verdict ≡ accepted
outcome_verdict d h q = ap (λ (x : Outcome). x.verdict) (sym h) ∙ ap told_verdict q

-- ---- a rented unit

-- an accepted rent leaves a tenancy
RentedBy : Outcome → Type 0
RentedBy o = o.verdict ≡ accepted → 0 < tenancy_of o.unit

rented_by : (u : Unit) (t : ℕ) → RentedBy (rent u t)
unfolding RentedBy rent tenanted tenancy_of pick
rented_by u t =
    pick_elim RentedBy u.rented _ _
    (λ _ q. absurd (let z : ◌≡◌ {A = ℕ} 0 1 = cc in omega arith))
    (λ _. pick_elim RentedBy (ltb u.last t) _ _
    (λ l q. omega (arith, ltb-true u.last t l))
    (λ _ q. absurd (let z : ◌≡◌ {A = ℕ} 0 1 = cc in omega arith)))

-- settings leave the tenancy as it was
settled_tenancy : (u : Unit) (o : Out Table) → tenancy_of (settled u o).unit ≡ tenancy_of u
unfolding settled tenancy_of
settled_tenancy u (got t e) = refl
settled_tenancy u (refused n) = refl

set_tenancy : (u : Unit) (s : List ℕ) → tenancy_of (set u s).unit ≡ tenancy_of u
unfolding set
set_tenancy u s = settled_tenancy u (settings_sheet u.number (tenancy_of u) s 0)

pub rented_new : (n t : ℕ) (d : Done) → told d ≡ rent (new_unit n) t → d.answer ≡ Ok tt → Rented d.unit
unfolding RentedBy
rented_new n t d h q =
    let e : (rent (new_unit n) t).unit ≡ d.unit = outcome_unit d h in
    record {
      sound = subst Sound e (sound_rent (new_unit n) (sound_new n) t);
      tenancy = subst (λ (u : Unit). 0 < tenancy_of u) e (rented_by (new_unit n) t (outcome_verdict d h q));
    }

pub rented_set : {u : Unit} (s : List ℕ) (d : Done) → Rented u → told d ≡ set u s → Rented d.unit
rented_set {u} s d w h =
    let e : (set u s).unit ≡ d.unit = outcome_unit d h in
    record {
      sound = subst Sound e (sound_set u w.sound s);
      tenancy = subst (λ (v : Unit). 0 < tenancy_of v) e (omega (arith, set_tenancy u s, w.tenancy));
    }

-- ---- each stage of the input

-- a refusal's line
pub tells_refused : {o : Out Ready} {out after : List ℕ} {n : ℕ} (e : Fault) → o ≡ refused (note_of e)
    → Printed (refused_text (number_of e.refusal)) out n after → Tells o out n after
unfolding Line
tells_refused e h p = record { text = refused_text (number_of e.refusal); says = rw h refl; printed = p }

-- another reader that gives the same
pub tells_same : {o q : Out Ready} {out after : List ℕ} {n : ℕ} → q ≡ o → Tells o out n after → Tells q out n after
tells_same {o} {q} {out} {after} {n} e w = subst (λ (x : Out Ready). Tells x out n after) (sym e) w

-- a refusal that was met, and handed on
pub readied_refused : (s : List ℕ) {o : Out Ready} {r : Result (Unit × Span) Fault} {f : Fault} → r ≡ Err f → o ≡ refused (note_of f)
    → Readied s o r
readied_refused s {o} e h = subst (λ r. Readied s o r) (sym e) h

-- the unit and its request
pub tells_asked : (s : List ℕ) {o : Out Ready} {u : Unit} {w : Span} {out after : List ℕ} {n : ℕ} → Readied s o (Ok (u, w))
    → Replies u (at_span s w) out n after → Tells o out n after
unfolding Line
tells_asked s {u = u} {w = w} r a = record { text = a.0; says = rw r.1 a.1; printed = a.2 }

-- unit and tenancy
module _ (s : List ℕ) {n e : ℕ} (h : number s 0 ≡ got n e) where
  pub input_hires : {t f : ℕ} → number s e ≡ got t f → bench_input s 0 ≡ hire n t s f
  unfolding bench_input
  input_hires k = next number _ s 0 h ∙ next number _ s e k

  pub input_no_tenancy : {m : Note} → number s e ≡ refused m → bench_input s 0 ≡ refused m
  unfolding bench_input
  input_no_tenancy k = next number _ s 0 h ∙ stops number _ s e k

pub input_no_unit : (s : List ℕ) {m : Note} → number s 0 ≡ refused m → bench_input s 0 ≡ refused m
unfolding bench_input
input_no_unit s h = stops number _ s 0 h

-- the rent
module _ (n t : ℕ) (s : List ℕ) (at : ℕ) {d : Done} (h : told d ≡ rent (new_unit n) t) where
  pub hire_taken : d.answer ≡ Ok tt → hire n t s at ≡ apply d.unit s at
  unfolding hire
  hire_taken q = next (accept (rent (new_unit n) t)) _ s at (outcome_taken s at d h q)

  pub hire_denied : {e : Fault} → d.answer ≡ Err e → hire n t s at ≡ refused (note_of e)
  unfolding hire
  hire_denied {e} q = stops (accept (rent (new_unit n) t)) _ s at (outcome_denied s at d h e q)

module _ (u : Unit) (s : List ℕ) (at : ℕ) where
  -- the settings
  module _ (w : Span) (h : sheet s at ≡ got (at_span s w) w.to) {d : Done} (t : told d ≡ set u (at_span s w)) where
    pub apply_taken : d.answer ≡ Ok tt → apply u s at ≡ close d.unit s w.to
    unfolding apply
    apply_taken q = next sheet _ s at h ∙ next (accept (set u (at_span s w))) _ s w.to (outcome_taken s w.to d t q)

    pub apply_denied : {e : Fault} → d.answer ≡ Err e → apply u s at ≡ refused (note_of e)
    unfolding apply
    apply_denied {e} q = next sheet _ s at h ∙ stops (accept (set u (at_span s w))) _ s w.to (outcome_denied s w.to d t e q)

  pub apply_stops : {n : Note} → sheet s at ≡ refused n → apply u s at ≡ refused n
  unfolding apply
  apply_stops h = stops sheet _ s at h

  -- the request and the end of the input
  module _ (w : Span) (h : sheet s at ≡ got (at_span s w) w.to) where
    pub close_got : {v e : ℕ} → end s w.to ≡ got v e → close u s at ≡ got (record { unit = u; request = at_span s w }) e
    unfolding close pure
    close_got k = next sheet _ s at h ∙ then end _ s w.to k

    pub close_extra : {n : Note} → end s w.to ≡ refused n → close u s at ≡ refused n
    unfolding close
    close_extra k = next sheet _ s at h ∙ halts end _ s w.to k

  pub close_stops : {n : Note} → sheet s at ≡ refused n → close u s at ≡ refused n
  unfolding close
  close_stops h = stops sheet _ s at h

-- ---- the plan sheet, read back

module _ (unit t : ℕ) (s disks short : List ℕ) where
  module _ (h : Head) (disks' short' : List ℕ)
      (w : Received (plan_sheet unit t s 0) (length s) disks short (Ok h) disks' short') where
    back : Took (plan_sheet unit t s 0) (length s) disks short h disks' short'
    back = took (length s) disks short h disks' short' (plan_sheet unit t s 0) w

    -- both lists have so many entries
    pub back_disks : h.blocks ≤ length disks'
    back_disks = omega (arith, back.blocks, ap length back.disks_left_law, over_within back.plan.disks disks)

    pub back_short : h.size ≤ length short'
    back_short = omega (arith, back.size, ap length back.short_left_law, over_within back.plan.short short)

    -- what was read is the plan
    pub back_plan : unit < 2 ^ 32 → t < 2 ^ 32 → (p : Plan) → InRange p → 0 < t → s ≡ plan_bytes unit t p
        → record { time = h.time; disks = take h.blocks disks'; short = take h.size short' } ≡ p
    back_plan a b p r l q =
        let x : plan_sheet unit t s 0 ≡ got p (length (plan_bytes unit t p)) = ap (λ (z : List ℕ). plan_sheet unit t z 0) q
        ∙ sheet_read unit t p a l b r in
        let y : got back.plan (length s) ≡ got p (length (plan_bytes unit t p)) = sym back.says ∙ x in
        let e : back.plan ≡ p = cc in
        same_plan h.time back.plan.time (take h.blocks disks') back.plan.disks (take h.size short')
        back.plan.short back.time
        (ap (take h.blocks) back.disks_left_law ∙ over_front back.plan.disks disks h.blocks (sym back.blocks))
        (ap (take h.size) back.short_left_law ∙ over_front back.plan.short short h.size (sym back.size))
        ∙ e

  -- a plan sheet is never refused
  pub back_never : (e : Fault) (disks' short' : List ℕ) → Received (plan_sheet unit t s 0) (length s) disks short (Err e) disks' short'
      → unit < 2 ^ 32 → t < 2 ^ 32 → length disks ≡ blocks_most → length short ≡ blocks_most → (p : Plan) → InRange p → 0 < t
      → s ≡ plan_bytes unit t p → ⊥
  unfolding if_room heads
  back_never e disks' short' w a b m n p r l q =
      let x : plan_sheet unit t s 0 ≡ got p (length (plan_bytes unit t p)) = ap (λ (z : List ℕ). plan_sheet unit t z 0) q
      ∙ sheet_read unit t p a l b r in
      let y : refused (note_of e) ≡ heads (got p (length (plan_bytes unit t p))) = w.answer
      ∙ ap (λ (o : Out Plan). heads (if_room o disks short)) x
      ∙ ap heads (pick_true _ _ (le-leb (length p.disks) (length disks) (omega (arith, r.few)))
      ∙ pick_true _ _ (le-leb (length p.short) (length short) (omega (arith, r.few, r.size_to)))) in
      let z : ◌≡◌ {A = ℕ} 0 1 = cc in
      omega arith

-- ---- the request's answer

unsent : {u : Unit} {s out : List ℕ} {e : Fault} → plan_most ≤ length out → Unsent u.number (tenancy_of u) (asked_of u s) out e
    → Asks u s (refused_text (number_of e.refusal))
unfolding answer_line
unsent {e = e} room (denied w) = record { plan = refused (note_of e); plans = w; says = refl }
unsent {u} {s} room (longer p i w l q) = absurd (omega (arith, longest u.number (tenancy_of u) p (plans_range (asked_of u s) p i w)))

module _ {u : Unit} {s out after : List ℕ} {buf buf' : List ℕ} {m : ℕ} where
  pub asks_shown : {r : Requested} {k n t : ℕ} → Replied u s out r after → r.answer ≡ Ok n → 0 < tenancy_of u
      → k ≡ u.number → t ≡ tenancy_of u
      → Shows k t (take n after) buf m buf' → Replies u s buf m buf'
  unfolding answer_line
  asks_shown {r} {k} {n} {t} a q l i e f =
      let w = answered_sheet (replied_as a q) in
      let g : 0 < tenancy_of u → take n after ≡ plan_bytes u.number (tenancy_of u) w.plan
      → Printed (plan_line u.number (tenancy_of u) w.plan) buf m buf' =
      subst (λ (x : ℕ). 0 < tenancy_of u → take n after ≡ plan_bytes x (tenancy_of u) w.plan
      → Printed (plan_line x (tenancy_of u) w.plan) buf m buf') i
      (subst (λ (x : ℕ). 0 < x → take n after ≡ plan_bytes k x w.plan → Printed (plan_line k x w.plan) buf m buf') e
      (f w.plan w.range)) in (
        plan_line u.number (tenancy_of u) w.plan,
        record
            { plan = got w.plan w.end; plans = w.plans; says = refl },
        g l w.bytes,
      )

  pub asks_refused : {r : Requested} {e : Fault} → Replied u s out r after → r.answer ≡ Err e → plan_most ≤ length out
      → Printed (refused_text (number_of e.refusal)) buf m buf' → Replies u s buf m buf'
  asks_refused {r} {e} a q room p = (refused_text (number_of e.refusal), unsent {u = u} room (answered_none (replied_as a q)), p)

-- ---- there is no second answer

asks_unique : {u : Unit} {s x y : List ℕ} → Asks u s x → Asks u s y → x ≡ y
asks_unique {u} {s} v w = v.says
    ∙ ap (answer_line u.number (tenancy_of u)) (plans_unique (asked_of u s) v.plans w.plans) ∙ sym w.says

line_unique : (o : Out Ready) (x y : List ℕ) → Line o x → Line o y → x ≡ y
unfolding Line
line_unique (refused n) x y v w = v ∙ sym w
line_unique (got r e) x y v w = asks_unique v w

pub bench_unique : (o : Out Ready) (out : List ℕ) (n m : ℕ) (x y : List ℕ) → Tells o out n x → Tells o out m y → (n ≡ m) × (x ≡ y)
bench_unique o out n m x y v w =
    printed_unique w.text out n m x y
    (subst (λ (z : List ℕ). Printed z out n x) (line_unique o v.text w.text v.says w.says) v.printed) w.printed
