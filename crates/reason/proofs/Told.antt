-- The reason is told by three least times: the plan's, that of the forced case, and that of the kept case.
--     forced_from, forced_could, could_forced     the forced case's is the plan's where some schedule of that time reads the block there
--     kept_from, kept_keeps, keeps_kept           the same of the kept case, for schedules that keep the earlier choices
--     told_later, told_not_kept, told_lower       the reason that the three times tell
--     later_above                                 the time of the second reason is above the plan's
--     reason_exists, reasons_exist                one reason is true of a plan, and so of a case
use Prim.Native.Nat.{ℕ, ◌≤◌, ◌<◌}
use mathlib.Core.Path.{◌≡◌, refl, sym, ap, subst, ◌∙◌}
use mathlib.Core.Bool.{Bool, true}
use native.Mathlib.Omega.{arith}
use lib.Dec.{eqb, ltb}
use borrow.Author.Tests.{eqb-true, eqb-false, eq-eqb, ne_eqb, ltb-true, ltb-false, lt-ltb}
use Rattle.basics.proofs.Choice.{pick_true, pick_false}
use Rattle.basics.proofs.Tests.{by_cases}
use Rattle.model.specs.Case.{Case, Priced, Held, HasTime, Schedule, response, end_of}
use Rattle.model.specs.Assignment.{Valid}
use Rattle.model.specs.Order.{Agree}
use Rattle.model.specs.Plan.{Optimal}
use Rattle.model.specs.Time.{LeastTime}
use Rattle.model.proofs.Existence.{plan_exists}
use Rattle.reason.specs.Parts.{kept}
use Rattle.reason.specs.Reason.{forced, Could, Keeps, Why, Reasons}
use Rattle.reason.specs.declared.Reason.{Reason}
use Rattle.reason.specs.declared.Reason.TheVariants.{NoCopy, Later, NotKept, Lower, Chosen}
use Rattle.reason.proofs.Unique.{chosen_keeps, none_lower}

module _ (m : Case) (a : ℕ → ℕ) (b d : ℕ) (h : b < m.blocks) (c : m.copy b d ≡ true) where
  -- a schedule of the forced case is one of the case, and reads block b from disk d
  forced_in : (x : ℕ → ℕ) → Schedule (forced m b d) x → Schedule m x × (x b ≡ d)
  unfolding Schedule Valid forced
  forced_in x v = (
    λ i l. (
      (v i l).0,
      by_cases (eqb i b)
          (λ t. let e : i ≡ b = eqb-true i b t in
          let f : x i ≡ d = eqb-true (x i) d (sym (pick_true _ _ t) ∙ (v i l).1) in
          subst (λ (y : ℕ). m.copy i y ≡ true) (sym f) (subst (λ (y : ℕ). m.copy y d ≡ true) (sym e) c))
          (λ t. sym (pick_false _ _ t) ∙ (v i l).1),
    ),
    eqb-true (x b) d (sym (pick_true _ _ (eq-eqb b b refl)) ∙ (v b h).1),
  )

  forced_out : (x : ℕ → ℕ) → Schedule m x → x b ≡ d → Schedule (forced m b d) x
  unfolding Schedule Valid forced
  forced_out x v e i l = (
    (v i l).0,
    by_cases (eqb i b)
        (λ t. pick_true _ _ t ∙ eq-eqb (x i) d (ap x (eqb-true i b t) ∙ e))
        (λ t. pick_false _ _ t ∙ (v i l).1),
  )

  same_time : (x : ℕ → ℕ) → response (forced m b d) x ≡ response m x
  unfolding response end_of forced
  same_time x = refl

  module _ (R T : ℕ) (l : LeastTime m R) (f : LeastTime (forced m b d) T) where
    pub forced_from : R ≤ T
    forced_from =
        let w = forced_in f.reached.0 f.reached.1 in
        omega (arith, l.lower f.reached.0 w.0, same_time f.reached.0, f.reached.2)

    pub forced_could : T ≡ R → Could m R b d
    unfolding Could HasTime
    forced_could e =
        let w = forced_in f.reached.0 f.reached.1 in
        (f.reached.0, (w.0, sym (same_time f.reached.0) ∙ f.reached.2 ∙ e), w.1)

    pub could_forced : Could m R b d → T ≡ R
    unfolding Could HasTime
    could_forced k = omega (arith, forced_from, f.lower k.0 (forced_out k.0 k.1.0 k.2), same_time k.0, k.1.1)

  -- the same for the kept case
  kept_in : (x : ℕ → ℕ) → Schedule m a → Schedule (kept m a b d) x → Schedule (forced m b d) x × Agree b x a
  unfolding Schedule Valid kept forced Agree
  kept_in x g v = (
    λ i l. (
      (v i l).0,
      by_cases (ltb i b)
          (λ t. let e : x i ≡ a i = eqb-true (x i) (a i) (sym (pick_true _ _ t) ∙ (v i l).1) in
          pick_false _ _ (ne_eqb i b (λ z. omega (arith, ltb-true i b t, z))) ∙ subst (λ (y : ℕ). m.copy i y ≡ true) (sym e) (g i l).1)
          (λ t. sym (pick_false _ _ t) ∙ (v i l).1),
    ),
    λ i l. eqb-true (x i) (a i) (sym (pick_true _ _ (lt-ltb i b l)) ∙ (v i (omega arith)).1),
  )

  kept_out : (x : ℕ → ℕ) → Schedule (forced m b d) x → Agree b x a → Schedule (kept m a b d) x
  unfolding Schedule Valid kept Agree forced
  kept_out x v g i l = (
    (v i l).0,
    by_cases (ltb i b)
        (λ t. pick_true _ _ t ∙ eq-eqb (x i) (a i) (g i (ltb-true i b t)))
        (λ t. pick_false _ _ t ∙ (v i l).1),
  )

  kept_time : (x : ℕ → ℕ) → response (kept m a b d) x ≡ response m x
  unfolding response end_of kept
  kept_time x = refl

  module _ (R K : ℕ) (l : LeastTime m R) (g : Schedule m a) (f : LeastTime (kept m a b d) K) where
    pub kept_from : R ≤ K
    kept_from =
        let v = kept_in f.reached.0 g f.reached.1 in
        let w = forced_in f.reached.0 v.0 in
        omega (arith, l.lower f.reached.0 w.0, kept_time f.reached.0, f.reached.2)

    pub kept_keeps : K ≡ R → Keeps m R a b d
    unfolding Keeps HasTime
    kept_keeps e =
        let v = kept_in f.reached.0 g f.reached.1 in
        let w = forced_in f.reached.0 v.0 in
        (f.reached.0, (w.0, sym (kept_time f.reached.0) ∙ f.reached.2 ∙ e), v.1, w.1)

    pub keeps_kept : Keeps m R a b d → K ≡ R
    unfolding Keeps HasTime
    keeps_kept k =
        omega (
          arith,
          kept_from,
          f.lower k.0 (kept_out k.0 (forced_out k.0 k.1.0 k.3) k.2),
          kept_time k.0,
          k.1.1,
        )

-- ---- the five answers of the code

module _ (m : Case) (R : ℕ) (a : ℕ → ℕ) (S : ℕ → Bool) (p : Optimal m R a S) (b d : ℕ) (h : b < m.blocks) where
  pub plan_schedule : Schedule m a
  unfolding HasTime
  plan_schedule = p.first.holds.0

  pub told_later : (T : ℕ) → m.copy b d ≡ true → LeastTime (forced m b d) T → R < T → Why m R a b d (Later T)
  unfolding Why
  told_later T c f l = (c, (λ k. omega (arith, could_forced m a b d h c R T p.least f k)), f)

  -- read there, the last block would be in later
  pub later_above : {T : ℕ} → Why m R a b d (Later T) → R < T
  unfolding Why
  later_above {T} w =
      by_cases (ltb R T) (λ t. ltb-true R T t)
      (λ t. absurd (w.1 (forced_could m a b d h w.0 R T p.least w.2
      (omega (arith, ltb-false R T t, forced_from m a b d h w.0 R T p.least w.2)))))

  pub told_not_kept : (T K : ℕ) → m.copy b d ≡ true → LeastTime (forced m b d) T → T ≡ R → LeastTime (kept m a b d) K
      → R < K → Why m R a b d NotKept
  unfolding Why
  told_not_kept T K c f e k l = (
    forced_could m a b d h c R T p.least f e,
    λ w. omega (arith, keeps_kept m a b d h c R K p.least plan_schedule k w),
  )

  pub told_lower : (K : ℕ) → m.copy b d ≡ true → LeastTime (kept m a b d) K → K ≡ R → (a b ≡ d → ⊥) → Why m R a b d Lower
  unfolding Why
  told_lower K c k e n =
      let w : Keeps m R a b d = kept_keeps m a b d h c R K p.least plan_schedule k e in
      let low : a b ≤ d = none_lower m R a S p b d h d w in
      (w, (a b, omega (arith, n), chosen_keeps m R a S p b (a b) h refl))

  -- ---- one reason is true

  module _ (price : Priced m) (held : Held m) (l : d < m.disks) where
    forced_least : m.copy b d ≡ true → (T : ℕ) × LeastTime (forced m b d) T
    unfolding Priced Held forced
    forced_least c =
        let f = plan_exists (forced m b d) price (λ i k. by_cases (eqb i b)
        (λ t. (d, l, pick_true _ _ t ∙ eq-eqb d d refl))
        (λ t. let s = held i k in (s.0, s.1, pick_false _ _ t ∙ s.2))) in
        (f.0, f.3.least)

    kept_least : m.copy b d ≡ true → (K : ℕ) × LeastTime (kept m a b d) K
    unfolding Priced Held kept forced Schedule Valid
    kept_least c =
        let f = plan_exists (kept m a b d) price (λ i k. by_cases (ltb i b)
        (λ t. (a i, (plan_schedule i k).0, pick_true _ _ t ∙ eq-eqb (a i) (a i) refl))
        (λ t. by_cases (eqb i b)
        (λ u. (d, l, pick_false _ _ t ∙ pick_true _ _ u ∙ eq-eqb d d refl))
        (λ u. let s = held i k in (s.0, s.1, pick_false _ _ t ∙ pick_false _ _ u ∙ s.2)))) in
        (f.0, f.3.least)

    pub reason_exists : (r : Reason) × Why m R a b d r
    unfolding Why
    reason_exists =
        by_cases (m.copy b d)
        (λ c. by_cases (eqb (a b) d)
        (λ e. (Chosen, eqb-true (a b) d e))
        (λ n. let T = forced_least c in
        let K = kept_least c in
        by_cases (ltb R T.0)
        (λ t. (Later T.0, told_later T.0 c T.1 (ltb-true R T.0 t)))
        (λ t. let e : T.0 ≡ R = omega (arith, ltb-false R T.0 t, forced_from m a b d h c R T.0 p.least T.1) in
        by_cases (ltb R K.0)
        (λ u. (NotKept, told_not_kept T.0 K.0 c T.1 e K.1 (ltb-true R K.0 u)))
        (λ u. let g : K.0 ≡ R =
        omega (arith, ltb-false R K.0 u, kept_from m a b d h c R K.0 p.least plan_schedule K.1) in
        (Lower, told_lower K.0 c K.1 g (eqb-false (a b) d n))))))
        (λ c. (NoCopy, c))

pub reasons_exist : {m : Case} {b d : ℕ} → Priced m → Held m → b < m.blocks → d < m.disks → (r : Reason) × Reasons m b d r
reasons_exist {m} {b} {d} price held h l =
    let p = plan_exists m price held in
    let w = reason_exists m p.0 p.1 p.2 p.3 b d h price held l in
    (w.0, record { time = p.0; schedule = p.1; set = p.2; plan = p.3; why = w.1 })
