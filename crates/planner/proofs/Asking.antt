-- What `ask` and `plan_into` answer.
--     asks_of, asks_refused         lists that spell the case; a refusal
--     said_count                    of what the reader of requests accepted the copies can be cut
--     asks_case, asked_not          what it accepted, with the copies in use and the columns; what it refused
--     lent, lent_case               the lists that were asked for can be lent, cut to Q and N; their case is the one asked for
--     refused_of                    what was refused
--     answered_plan, answered_not   the sheet of the plan was sent; the refusal stands
use mathlib.Core.Path.{◌≡◌, refl, sym, ap, ◌∙◌, subst, fun_ext}
use mathlib.Core.Bool.{Bool}
use mathlib.Core.List.{List, map, ◌++◌}
use Prim.Native.Nat.{ℕ, ◌≤◌}
use native.Mathlib.Omega.{arith}
use lib.ListN.{length, take, drop}
use Rattle.std.specs.Prelude.{Result, Ok, Err}
use Rattle.basics.specs.Limits.{disks_most, blocks_most}
use Rattle.basics.proofs.Padded.{pad_within, pad_front}
use Rattle.mask.specs.Has.{has}
use Rattle.model.specs.Case.{Case, in_use}
use Rattle.field.specs.declared.Fault.{Fault}
use Rattle.field.specs.Refusal.{note_of}
use Rattle.field.specs.Sheet.{Out, got, refused}
use Rattle.field.proofs.Sends.{sent_refused}
use Rattle.settings.specs.declared.Table.{Table}
use Rattle.settings.specs.Table.{disk_rows, costs, Proper}
use Rattle.request.specs.declared.Request.{Request}
use Rattle.request.specs.Request.{request_sheet}
use Rattle.request.specs.Told.{Told as Read}
use Rattle.request.proofs.Accepted.{Accepts, accepted, refused_sheet}
use Rattle.planner.specs.declared.Spelling.{Spelling}
use Rattle.planner.specs.Answered.{draft_of, Answered}
use Rattle.planner.specs.Asked.{start_of, is_out, table_case, case_in, asked, Plans}
use Rattle.planner.specs.Lists.{Spells, Asks}
use Rattle.planner.specs.Parts.{Kept, Columns, Lent, case_lent, Solved}
use Rattle.planner.proofs.Cut.{kept_whole, kept_case}
use Rattle.planner.proofs.Plannable.{length_costs, length_starts, asked_plannable}

-- ---- the lists, cut to Q and N

record Cut (m : Case) (r : Spelling) : Type 0 where
  copies_long : r.blocks ≤ length r.copies
  costs_long : r.disks ≤ length r.costs
  starts_long : r.disks ≤ length r.starts
  same_long : length (take r.disks r.starts) ≡ length (take r.disks r.costs)
  case : case_lent r ≡ m

cut_case : {m : Case} {r : Spelling} → Spells m r → Cut m r
cut_case {m} {r} v =
    let nc : length v.copies ≡ r.blocks = ap (λ (x : Case). x.blocks) v.case ∙ sym v.blocks in
    let nk : length v.costs ≡ r.disks = ap (λ (x : Case). x.disks) v.case ∙ sym v.disks in
    let ns : length v.starts ≡ r.disks = v.starts_long ∙ nk in
    let c : take r.blocks r.copies ≡ v.copies = ap (take r.blocks) v.copies_held ∙ pad_front 0 blocks_most v.copies r.blocks nc in
    let k : take r.disks r.costs ≡ v.costs = ap (take r.disks) v.costs_held ∙ pad_front 0 disks_most v.costs r.disks nk in
    let s : take r.disks r.starts ≡ v.starts = ap (take r.disks) v.starts_held ∙ pad_front 0 disks_most v.starts r.disks ns in
    record {
      copies_long = omega (arith, ap length v.copies_held, pad_within 0 blocks_most v.copies, nc);
      costs_long = omega (arith, ap length v.costs_held, pad_within 0 disks_most v.costs, nk);
      starts_long = omega (arith, ap length v.starts_held, pad_within 0 disks_most v.starts, ns);
      same_long = ap length s ∙ v.starts_long ∙ sym (ap length k);
      case = rw (c, k, s) v.case;
    }

pub asks_of : {o : Out Case} {m : Case} {bytes : ℕ} {r : Spelling} → o ≡ got m bytes → Spells m r → Asks o bytes (Ok r)
asks_of {bytes = bytes} {r = r} h v =
    let c = (cut_case v).case in
    record { told = ap (λ (x : Case). got x bytes) c ∙ sym h; lists = subst (λ (x : Case). Spells x r) (sym c) v }

pub asks_refused : {o : Out Case} {bytes : ℕ} {e : Fault} → o ≡ refused (note_of e) → Asks o bytes (Err e)
asks_refused h = record { told = sym h; lists = tt }

-- ---- what the reader of requests said

-- `out` is the number of the disks that are out
module _ (number tenancy : ℕ) {t : Table} (w : Proper t) (s : List ℕ) (out : ℕ) (o : (d : ℕ) → has out d ≡ is_out t d) where
  read_so : (r : Result Request Fault) → Read (length s) (request_sheet number tenancy t.disks (has out) s 0) r
      → Read (length s) (request_sheet number tenancy t.disks (is_out t) s 0) r
  read_so r a = subst (λ (f : ℕ → Bool). Read (length s) (request_sheet number tenancy t.disks f s 0) r) (fun_ext o) a

  module _ (r : Request) (a : Read (length s) (request_sheet number tenancy t.disks (has out) s 0) (Ok r)) where
    said : Accepts number tenancy t.disks (is_out t) s r.blocks r.kind r.age r.copies
    said = accepted number tenancy t.disks (is_out t) s r w.few (read_so (Ok r) a)

    pub said_count : length (take r.blocks r.copies) ≡ r.blocks
    said_count = said.count

    pub asks_case : {kept cs ss : List ℕ} → Kept (length (take r.blocks r.copies)) out (take r.blocks r.copies) kept → Columns t r.age cs ss
        → Asks (asked number tenancy t s) (length s) (Ok (record {
          blocks = r.blocks;
          disks = t.disks;
          copies = kept ++ drop r.blocks r.copies;
          costs = cs;
          starts = ss;
        }))
    unfolding asked case_in table_case in_use
    asks_case {kept} {cs} {ss} u c =
        let k = said in
        asks_of (ap (case_in t) k.sheet) (record {
          copies = kept;
          costs = costs t;
          starts = map (start_of t.rule r.age) (disk_rows t);
          starts_long = length_starts w r.age ∙ sym (length_costs w);
          case = kept_case r.blocks r.copies k.count k.beyond u (costs t) (map (start_of t.rule r.age) (disk_rows t)) o;
          blocks = sym k.count;
          disks = sym (length_costs w);
          copies_held = kept_whole r.blocks r.copies k.count k.beyond u;
          costs_held = c.costs_held;
          starts_held = c.starts_held;
        })

  pub asked_not : (e : Fault) → Read (length s) (request_sheet number tenancy t.disks (has out) s 0) (Err e)
      → asked number tenancy t s ≡ refused (note_of e)
  unfolding asked case_in
  asked_not e a = ap (case_in t) (refused_sheet (length s) (request_sheet number tenancy t.disks (is_out t) s 0) e (read_so (Err e) a))

-- ---- what was asked

-- its case is that of the lists
pub lent_case : {o : Out Case} {bytes : ℕ} {r : Spelling} → Asks o bytes (Ok r) → o ≡ got (case_lent r) bytes
lent_case a = sym a.told

-- it can be lent
pub lent : (number tenancy : ℕ) {t : Table} (s : List ℕ) {r : Spelling} → Proper t
    → Asks (asked number tenancy t s) (length s) (Ok r) → Lent r
lent number tenancy s {r} w a =
    let c : Cut (case_lent r) r = cut_case a.lists in
    let p = asked_plannable w number tenancy s (lent_case a) in
    (c.copies_long, c.costs_long, c.starts_long, record { starts_long = c.same_long; plannable = p })

pub refused_of : {o : Out Case} {bytes : ℕ} {e : Fault} → Asks o bytes (Err e) → o ≡ refused (note_of e)
refused_of a = sym a.told

-- ---- the answer

pub answered_plan : {number tenancy : ℕ} {o : Out Case} {bytes : ℕ} {r : Spelling} {out after : List ℕ} {x : Result ℕ Fault}
    → Asks o bytes (Ok r) → Solved number tenancy (case_lent r) out x after → Answered number tenancy o out x after
unfolding Plans draft_of
answered_plan {o = o} {bytes = bytes} {r = r} a w =
    record { plan = got w.plan bytes; plans = rw (lent_case a) (w.plan, w.is, refl); sent = w.sent }

pub answered_not : {number tenancy : ℕ} {o : Out Case} {bytes : ℕ} {x : Result ℕ Fault} {e : Fault} (out : List ℕ) → x ≡ Err e
    → Asks o bytes (Err e) → Answered number tenancy o out x out
unfolding Plans draft_of
answered_not {number} {tenancy} {o} {x = x} {e = e} out q a =
    let n : Answered number tenancy o out (Err e) out =
    record { plan = refused (note_of e); plans = rw (refused_of a) refl; sent = sent_refused e out } in
    subst (λ (y : Result ℕ Fault). Answered number tenancy o out y out) (sym q) n
