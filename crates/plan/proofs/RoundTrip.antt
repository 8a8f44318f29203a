-- Both round trips of a plan sheet.
--     sheet_read       reading a plan's bytes gives the plan
--     sheet_exact      the bytes of an accepted sheet are those of its plan, which is in range
--     read_written     reading what `write` wrote gives the same values
--     write_accepted, written_accepted     writing what `read` accepted gives the same bytes
use mathlib.Core.Path.{◌≡◌, refl, sym, ap, ◌∙◌, subst}
use mathlib.Core.List.{List, [], ◌∷◌, ◌++◌, append_assoc}
use Prim.Native.Nat.{ℕ, ◌-◌, ◌^◌, ◌≤◌, ◌<◌}
use native.Mathlib.Omega.{arith}
use lib.ListN.{length, take}
use Rattle.number.specs.Bytes.{Bytes}
use Rattle.number.specs.Encode.{encode}
use Rattle.field.specs.Sheet.{got, ◌>>=◌, pure, times}
use Rattle.field.specs.Field.{opening, inside, ascending}
use Rattle.field.specs.Put.{spell_all, opening_bytes}
use Rattle.std.specs.Prelude.{Result, Ok}
use Rattle.field.specs.declared.Fault.{Fault}
use Rattle.field.specs.Send.{sheet, Sent}
use Rattle.field.proofs.Sends.{sent_room}
use Rattle.basics.specs.Buffer.{over}
use Rattle.field.proofs.Sheet.{Step, bind_got, after_got, pure_got}
use Rattle.field.proofs.Read.{Reads, reads_bind, reads_then, reads_checked, reads_pure, reads_between, reads_whole}
use Rattle.field.proofs.Spelt.{Spelt, spelt_join, spelt_whole, between_spelt}
use Rattle.field.proofs.Whole.{whole_got}
use Rattle.basics.proofs.Lists.{one_listed}
use Rattle.field.proofs.Opened.{reads_opening, opening_one}
use Rattle.basics.specs.Lists.{All, Rises}
use Rattle.field.proofs.Lists.{reads_times, reads_ascending, times_spelt, ascending_spelt}
use Rattle.plan.specs.Plan.{Plan, plan_of, if_any, time_of, size_of, lists_of, plan_fields, plan_sheet, disk}
use Rattle.plan.specs.Range.{InRange}
use Rattle.plan.specs.Receive.{Received}
use Rattle.plan.specs.Draft.{plan_bytes, plan_draft}
use Rattle.plan.specs.declared.Head.{Head}
use Rattle.plan.proofs.Reading.{any_most}
use Rattle.basics.proofs.Buffer.{over_front}
use Rattle.plan.proofs.Accepted.{Took, took}
use Rattle.plan.proofs.Writing.{plan_drafted, sent_all, heading_bytes, lists_bytes, bytes_parts}
use Rattle.basics.specs.Limits.{disks_most, blocks_most, time_most}

-- the bytes, field by field
bytes_fields : (unit t : ℕ) (p : Plan)
    → opening_bytes 3 unit t ++ (encode (length p.disks) ++ (encode p.time ++ lists_bytes p)) ≡ plan_bytes unit t p
unfolding heading_bytes
bytes_fields unit t p =
    let q : List ℕ = encode (length p.disks) in
    let r : List ℕ = encode p.time in
    sym (append_assoc (opening_bytes 3 unit t ++ q) r (lists_bytes p) ∙ append_assoc (opening_bytes 3 unit t) q (r ++ lists_bytes p))
    ∙ bytes_parts unit t p

-- ---- reading after writing

module _ (unit t : ℕ) (p : Plan) where
  module _ (u : unit < 2 ^ 32) (l : 0 < t) (h : t < 2 ^ 32) (r : InRange p) where
    reads_lists : Reads (lists_of (length p.disks) p.time) (lists_bytes p) p
    unfolding lists_of lists_bytes size_of
    reads_lists =
        reads_bind _ (reads_times disk encode (λ d. d ≤ disks_most - 1)
        (λ d k. reads_between 0 (disks_most - 1) 16 16 d (omega arith) k (omega arith)) p.disks r.disks)
        (reads_bind _ (reads_between (if_any (length p.disks) 1) (length p.disks) 6 6 (length p.short) r.size_from r.size_to
        (omega (arith, r.few, r.size_to)))
        (reads_checked _ (reads_ascending (length p.disks - 1) (omega (arith, r.few)) 0 p.short r.blocks) (reads_pure p)))

    reads_plan : Reads (plan_fields unit t) (opening_bytes 3 unit t ++ (encode (length p.disks) ++ (encode p.time ++ lists_bytes p))) p
    unfolding plan_fields time_of
    reads_plan =
        reads_then (reads_opening unit t u l h (3 ∷ []) 3 (one_listed 3) (omega arith))
        (reads_bind _ (reads_between 0 blocks_most 6 6 (length p.disks) (omega arith) r.few (omega (arith, r.few)))
        (reads_bind _ (reads_between (if_any (length p.disks) 1) (if_any (length p.disks) time_most) 15 15 p.time r.time_from
        r.time_to (omega (arith, r.time_to, any_most (length p.disks) time_most)))
        reads_lists))

    pub sheet_read : plan_sheet unit t (plan_bytes unit t p) 0 ≡ got p (length (plan_bytes unit t p))
    unfolding plan_sheet
    sheet_read = reads_whole (subst (λ (z : List ℕ). Reads (plan_fields unit t) z p) (bytes_fields unit t p) reads_plan)

-- ---- writing after reading

module _ (s : List ℕ) (b : Bytes s) where
  -- what the lists of an accepted sheet are
  record Lists (q r at : ℕ) (p : Plan) (e : ℕ) : Type 0 where
    spelt : Spelt s at e (lists_bytes p)
    blocks : length p.disks ≡ q
    time : p.time ≡ r
    disks : All (λ d. d ≤ disks_most - 1) p.disks
    from : if_any q 1 ≤ length p.short
    to : length p.short ≤ q
    members : Rises 0 (q - 1) p.short

  lists_spelt : (q r at : ℕ) (p : Plan) (e : ℕ) → at ≤ length s → lists_of q r s at ≡ got p e → Lists q r at p e
  unfolding lists_of size_of lists_bytes
  lists_spelt q r at p e l h =
      let w : Step (times q disk s at) (λ ds n. (size_of q >>= λ m. ascending m 0 (q - 1) >>= λ bs. pure (plan_of r ds bs)) s n) p e =
      bind_got (times q disk) s at p e _ h in
      let ds : List ℕ = w.found in
      let x : Spelt s at w.mid (spell_all encode ds) × (length ds ≡ q)
      × All (λ d. d ≤ disks_most - 1) ds =
      times_spelt disk encode (λ d. d ≤ disks_most - 1) s
      (λ i d n k. ((between_spelt s b i 0 (disks_most - 1) 16 16 k).0, (between_spelt s b i 0 (disks_most - 1) 16 16 k).2)) q at ds
      w.mid l w.first in
      let z : Step (size_of q s w.mid) (λ m n. (ascending m 0 (q - 1) >>= λ bs. pure (plan_of r ds bs)) s n) p e =
      bind_got (size_of q) s w.mid p e _ w.last in
      let y : Spelt s w.mid z.mid (encode z.found) × (if_any q 1 ≤ z.found)
      × (z.found ≤ q) = between_spelt s b w.mid (if_any q 1) q 6 6 z.first in
      let c : Step (ascending z.found 0 (q - 1) s z.mid) (λ bs n. pure (plan_of r ds bs) s n) p e =
      bind_got (ascending z.found 0 (q - 1)) s z.mid p e _ z.last in
      let bs : List ℕ = c.found in
      let g : Spelt s z.mid c.mid (spell_all encode bs) × (length bs ≡ z.found)
      × Rises 0 (q - 1) bs = ascending_spelt (q - 1) s b z.found 0 z.mid bs c.mid y.0.within c.first in
      let f : (plan_of r ds bs ≡ p) × (c.mid ≡ e) = pure_got (plan_of r ds bs) p s c.mid e c.last in
      let m : Spelt s w.mid z.mid (encode (length bs)) =
      subst (λ (k : ℕ). Spelt s w.mid z.mid (encode k)) (sym g.1) y.0 in
      let found : Lists q r at (plan_of r ds bs) c.mid = record {
        spelt = spelt_join x.0 (spelt_join m g.0);
        blocks = x.1;
        time = refl;
        disks = x.2;
        from = omega (arith, y.1, g.1);
        to = omega (arith, y.2, g.1);
        members = g.2;
      } in
      subst (λ (k : ℕ). Lists q r at p k) f.1 (subst (λ (k : Plan). Lists q r at k c.mid) f.0 found)

  lists_range : (q r at : ℕ) (p : Plan) (e : ℕ) → Lists q r at p e → q ≤ blocks_most → if_any q 1 ≤ r → r ≤ if_any q time_most → InRange p
  lists_range q r at p e x l f g = record {
    few = rw x.blocks l;
    time_from = rw (x.blocks, x.time) f;
    time_to = rw (x.blocks, x.time) g;
    disks = x.disks;
    size_from = rw x.blocks x.from;
    size_to = rw x.blocks x.to;
    blocks = rw x.blocks x.members;
  }

  pub sheet_exact : (unit t : ℕ) (p : Plan) (e : ℕ) → plan_sheet unit t s 0 ≡ got p e → (plan_bytes unit t p ≡ s) × InRange p × (0 < t)
  unfolding plan_sheet plan_fields time_of
  sheet_exact unit t p e h =
      let w : (plan_fields unit t s 0 ≡ got p e) × (e ≡ length s) = whole_got (plan_fields unit t) s p e h in
      let o : Step (opening (3 ∷ []) unit t s 0) (λ _ n. (inside 0 blocks_most 6 >>= λ q. time_of q >>= λ r. lists_of q r) s n) p e =
      after_got (opening (3 ∷ []) unit t) s 0 p e _ w.0 in
      let o' : Spelt s 0 o.mid (opening_bytes 3 unit t) × (0 < t) = opening_one unit t 3 s 0 b o.first in
      let q : Step (inside 0 blocks_most 6 s o.mid) (λ q n. (time_of q >>= λ r. lists_of q r) s n) p e =
      bind_got (inside 0 blocks_most 6) s o.mid p e _ o.last in
      let q' : Spelt s o.mid q.mid (encode q.found) × (0 ≤ q.found)
      × (q.found ≤ blocks_most) = between_spelt s b o.mid 0 blocks_most 6 6 q.first in
      let r : Step (time_of q.found s q.mid) (λ r n. lists_of q.found r s n) p e =
      bind_got (time_of q.found) s q.mid p e _ q.last in
      let r' : Spelt s q.mid r.mid (encode r.found) × (if_any q.found 1 ≤ r.found)
      × (r.found ≤ if_any q.found time_most) =
      between_spelt s b q.mid (if_any q.found 1) (if_any q.found time_most) 15 15 r.first in
      let x : Lists q.found r.found r.mid p e = lists_spelt q.found r.found r.mid p e r'.0.within r.last in
      let a : Spelt s o.mid q.mid (encode (length p.disks)) =
      subst (λ (k : ℕ). Spelt s o.mid q.mid (encode k)) (sym x.blocks) q'.0 in
      let c : Spelt s q.mid r.mid (encode p.time) =
      subst (λ (k : ℕ). Spelt s q.mid r.mid (encode k)) (sym x.time) r'.0 in (
        sym (spelt_whole s e _ w.1 (spelt_join o'.0 (spelt_join a (spelt_join c x.spelt))) ∙ bytes_fields unit t p),
        lists_range q.found r.found r.mid p e x q'.2 r'.1 r'.2,
        o'.1,
      )

-- ---- what the functions promise

-- two plans with the same values
pub same_plan : (r r' : ℕ) (ds ds' bs bs' : List ℕ) → r ≡ r' → ds ≡ ds' → bs ≡ bs' → ◌≡◌ {A = Plan} (plan_of r ds bs) (plan_of r' ds' bs')
same_plan r r' ds ds' bs bs' x y z = cc

-- writing what `read` accepted gives the same bytes
pub write_accepted : (unit t : ℕ) (s : List ℕ) → Bytes s → (disks short disks' short' : List ℕ) (h : Head)
    → Received (plan_sheet unit t s 0) (length s) disks short (Ok h) disks' short'
    → plan_draft unit t (plan_of h.time (take h.blocks disks') (take h.size short')) ≡ sheet s
write_accepted unit t s b disks short disks' short' h r =
    let w : Took (plan_sheet unit t s 0) (length s) disks short h disks' short' =
    took (length s) disks short h disks' short' (plan_sheet unit t s 0) r in
    let p : Plan = w.plan in
    let x : (plan_bytes unit t p ≡ s) × InRange p × (0 < t) = sheet_exact s b unit t p (length s) w.says in
    let ds : take h.blocks disks' ≡ p.disks = ap (take h.blocks) w.disks_left_law
    ∙ over_front p.disks disks h.blocks (sym w.blocks) in
    let bs : take h.size short' ≡ p.short = ap (take h.size) w.short_left_law
    ∙ over_front p.short short h.size (sym w.size) in
    let e : plan_of h.time (take h.blocks disks') (take h.size short')
    ≡ p = same_plan h.time p.time (take h.blocks disks') p.disks (take h.size short') p.short w.time ds bs in
    ap (plan_draft unit t) e ∙ plan_drafted unit t p x.1 ∙ ap sheet x.0

-- with room for it, the writer leaves the same bytes
pub written_accepted : (unit t : ℕ) (s : List ℕ) → Bytes s → (disks short disks' short' : List ℕ) (h : Head)
    → Received (plan_sheet unit t s 0) (length s) disks short (Ok h) disks' short'
    → (out : List ℕ) (r : Result ℕ Fault) (after : List ℕ) → length s ≤ length out
    → Sent (plan_draft unit t (plan_of h.time (take h.blocks disks') (take h.size short'))) out r after
    → (r ≡ Ok (length s)) × (after ≡ over s out)
written_accepted unit t s b disks short disks' short' h x out r after room w =
    sent_room out r after (write_accepted unit t s b disks short disks' short' h x) room w

-- reading what `write` wrote gives the same values: those of a plan in range, since `write` writes whatever it is given
pub read_written : (unit t : ℕ) (p : Plan) → unit < 2 ^ 32 → 0 < t → t < 2 ^ 32 → InRange p → (out after : List ℕ) (n : ℕ)
    → Sent (plan_draft unit t p) out (Ok n) after → plan_sheet unit t (take n after) 0 ≡ got p n
read_written unit t p u l k r out after n w =
    let x : (n ≡ length (plan_bytes unit t p)) × (take n after ≡ plan_bytes unit t p)
    × (n ≤ length out) = sent_all unit t p r out n after w in
    ap (λ (z : List ℕ). plan_sheet unit t z 0) x.1 ∙ sheet_read unit t p u l k r ∙ ap (got p) (sym x.0)
