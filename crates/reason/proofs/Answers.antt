-- The five ways in which `explain` ends.
--     no_copy, is_chosen                 before any time is compared
--     is_later, is_not_kept, is_lower    by the least times of the forced case and of the kept one
--     plan_disks, kept_low, kept_disks   what the copies are cut to: the plan's own disks
use Prim.Native.Nat.{ℕ, ◌≤◌, ◌<◌}
use mathlib.Core.Path.{◌≡◌, subst}
use mathlib.Core.Bool.{true, false}
use mathlib.Core.List.{List}
use native.Mathlib.Omega.{arith}
use lib.ListN.{length, get_or, take}
use Rattle.basics.specs.Limits.{disks_most}
use Rattle.mask.specs.Has.{has}
use Rattle.model.specs.Case.{Case, Schedule}
use Rattle.model.specs.Assignment.{Valid}
use Rattle.model.specs.Time.{LeastTime}
use Rattle.model.proofs.Existence.{plan_exists}
use Rattle.places.specs.Places.{entry}
use Rattle.engine.specs.Spelled.{spelled, Spellable}
use Rattle.engine.specs.Planned.{LeastOf, Planned}
use Rattle.engine.specs.declared.Found.{Found}
use Rattle.reason.specs.Parts.{kept, Forced, Kept}
use Rattle.reason.specs.Reason.{forced, Why, Reasons}
use Rattle.reason.specs.declared.Reason.TheVariants.{NoCopy, Later, NotKept, Lower, Chosen}
use Rattle.reason.proofs.Told.{told_later, told_not_kept, told_lower, forced_from, kept_from, plan_schedule}
use Rattle.reason.proofs.Cases.{priced, held, forced_spelled, kept_spelled}

module _ {copies costs starts : List ℕ} {b d : ℕ} (g : Spellable copies costs starts) (hb : b < length copies) (hd : d < length costs) where
  pub no_copy : has (get_or copies b 0) d ≡ false → Reasons (spelled copies costs starts) b d NoCopy
  unfolding Why
  no_copy h =
      let p = plan_exists (spelled copies costs starts) (priced g) (held g) in
      record { time = p.0; schedule = p.1; set = p.2; plan = p.3; why = h }

  module _ {disks₀ short₀ disks short : List ℕ} {r : Found} (p : Planned copies costs starts disks₀ short₀ disks short r) where
    pub is_chosen : get_or disks b 0 ≡ d → Reasons (spelled copies costs starts) b d Chosen
    unfolding Why
    is_chosen h = record { time = r.time; schedule = entry disks; set = _; plan = p.plan; why = h }

    -- a plan's disks are disks
    pub plan_disks : get_or disks b 0 < disks_most
    unfolding Schedule Valid
    plan_disks =
        omega (
          arith,
          g.table.few,
          (plan_schedule (spelled copies costs starts) r.time (entry disks) _ p.plan b d hb b hb).0,
        )

    pub kept_low : (i : ℕ) → i < b → get_or disks i 0 < length costs
    unfolding Schedule Valid
    kept_low i l = (plan_schedule (spelled copies costs starts) r.time (entry disks) _ p.plan b d hb i (omega (arith, l, hb))).0

    pub kept_disks : (i : ℕ) → i < b → get_or disks i 0 < disks_most
    kept_disks i l = omega (arith, kept_low i l, g.table.few)

    module _ (c : has (get_or copies b 0) d ≡ true) {masks : List ℕ} (f : Forced copies b d masks) {t : ℕ}
        (u : LeastOf (take (length copies) masks) costs starts t) where
      forced_time : LeastTime (forced (spelled copies costs starts) b d) t
      forced_time = subst (λ (m : Case). LeastTime m t) (forced_spelled g hb hd f) u.least

      pub is_later : r.time < t → Reasons (spelled copies costs starts) b d (Later t)
      is_later l =
          record {
            time = r.time;
            schedule = entry disks;
            set = _;
            plan = p.plan;
            why = told_later (spelled copies costs starts) r.time (entry disks) _ p.plan b d hb t c forced_time l;
          }

      module _ (l : t ≤ r.time) {masks' : List ℕ} (k : Kept b disks masks masks') {v : ℕ}
          (w : LeastOf (take (length copies) masks') costs starts v) where
        m : Case
        m = spelled copies costs starts

        kept_time : LeastTime (kept (spelled copies costs starts) (entry disks) b d) v
        kept_time = subst (λ (x : Case). LeastTime x v) (kept_spelled g hb hd f k) w.least

        same : t ≡ r.time
        same =
            omega (arith, l, forced_from (spelled copies costs starts) (entry disks) b d hb c r.time t p.plan.least forced_time)

        pub is_not_kept : r.time < v → Reasons (spelled copies costs starts) b d NotKept
        is_not_kept n =
            record {
              time = r.time;
              schedule = entry disks;
              set = _;
              plan = p.plan;
              why = told_not_kept (spelled copies costs starts) r.time (entry disks) _ p.plan b d hb t v c forced_time same
                  kept_time n;
            }

        pub is_lower : v ≤ r.time → (get_or disks b 0 ≡ d → ⊥) → Reasons (spelled copies costs starts) b d Lower
        is_lower n o =
            let s = plan_schedule (spelled copies costs starts) r.time (entry disks) _ p.plan b d hb in
            let e : v ≡ r.time =
            omega (arith, n, kept_from (spelled copies costs starts) (entry disks) b d hb c r.time v p.plan.least s kept_time) in
            record {
              time = r.time;
              schedule = entry disks;
              set = _;
              plan = p.plan;
              why = told_lower (spelled copies costs starts) r.time (entry disks) _ p.plan b d hb v c kept_time e o;
            }
