-- Each promise of this crate fixes the answer and what was lent: no second one satisfies it.
--     spelled_injective     lists are known by the case that they spell
--     ask_unique            `ask`: the answer and all lists
--     plan_into_unique      `plan_into`: the answer and the buffer
use mathlib.Core.Path.{◌≡◌, sym, ap, ◌∙◌, subst}
use mathlib.Core.List.{List}
use Prim.Native.Nat.{ℕ, zero, suc, ◌+◌, ◌^◌, ◌<◌}
use native.Mathlib.Omega.{arith}
use native.Mathlib.Nat.{pow-suc}
use lib.ListN.{length}
use lib.Seq.{ext_get_or}
use Rattle.basics.specs.Limits.{disks_most, blocks_most}
use Rattle.basics.specs.Padded.{pad_to}
use Rattle.mask.specs.Has.{has}
use Rattle.mask.proofs.Has.{has_ext}
use Rattle.model.specs.Case.{Case}
use Rattle.engine.specs.Spelled.{spelled}
use Rattle.std.specs.Prelude.{Result, Ok, Err}
use Rattle.field.specs.declared.Fault.{Fault}
use Rattle.field.specs.Refusal.{note_of}
use Rattle.field.specs.Send.{Sent}
use Rattle.field.specs.Sheet.{Out, got, refused}
use Rattle.field.proofs.Sends.{sent_unique}
use Rattle.field.proofs.Unique.{note_injective, not_refused}
use Rattle.plan.specs.Plan.{Plan}
use Rattle.planner.specs.declared.Spelling.{Spelling}
use Rattle.planner.specs.Answered.{draft_of, Answered}
use Rattle.planner.specs.Lists.{Spells, Asks}
use Rattle.planner.specs.Parts.{case_lent}
use Rattle.planner.proofs.Plans.{plans_unique}

-- a number is below its power of two
below_pow : (n : ℕ) → n < 2 ^ n
below_pow zero = omega arith
below_pow (suc n) = omega (arith, below_pow n, pow-suc 2 n)

-- numbers of the same disks are the same
mask_same : (m m' : ℕ) → ((d : ℕ) → has m d ≡ has m' d) → m ≡ m'
mask_same m m' h = let l = below_pow (m + m') in has_ext (m + m') m m' (omega (arith, l)) (omega (arith, l)) (λ d _. h d)

module _ {copies costs starts copies' costs' starts' : List ℕ} (l : length starts ≡ length costs) (l' : length starts' ≡ length costs')
    (e : spelled copies costs starts ≡ spelled copies' costs' starts') where
  pub spelled_injective : (copies ≡ copies') × (costs ≡ costs') × (starts ≡ starts')
  spelled_injective =
      let n : length costs ≡ length costs' = ap (λ (m : Case). m.disks) e in (
        ext_get_or 0 copies copies' (ap (λ (m : Case). m.blocks) e) (λ b _. mask_same _ _ (λ d. ap (λ (m : Case). m.copy b d) e)),
        ext_get_or 0 costs costs' n (λ d _. ap (λ (m : Case). m.cost d) e),
        ext_get_or 0 starts starts' (l ∙ n ∙ sym l') (λ d _. ap (λ (m : Case). m.start d) e),
      )

same_spelling : (r r' : Spelling) → r.blocks ≡ r'.blocks → r.disks ≡ r'.disks → r.copies ≡ r'.copies → r.costs ≡ r'.costs
    → r.starts ≡ r'.starts → r ≡ r'
same_spelling r r' b n c k s =
    ap {B = Spelling} (λ x. record { blocks = x; disks = r.disks; copies = r.copies; costs = r.costs; starts = r.starts }) b
    ∙ ap {B = Spelling} (λ x. record { blocks = r'.blocks; disks = x; copies = r.copies; costs = r.costs; starts = r.starts }) n
    ∙ ap {B = Spelling} (λ x. record { blocks = r'.blocks; disks = r'.disks; copies = x; costs = r.costs; starts = r.starts }) c
    ∙ ap {B = Spelling} (λ x. record { blocks = r'.blocks; disks = r'.disks; copies = r'.copies; costs = x; starts = r.starts }) k
    ∙ ap {B = Spelling} (λ x. record { blocks = r'.blocks; disks = r'.disks; copies = r'.copies; costs = r'.costs; starts = x }) s

same_lists : {m m' : Case} {r r' : Spelling} → m ≡ m' → Spells m r → Spells m' r' → r ≡ r'
same_lists {r = r} {r' = r'} e v w =
    let same = spelled_injective v.starts_long w.starts_long (v.case ∙ e ∙ sym w.case) in
    same_spelling r r'
    (v.blocks ∙ ap (λ (m : Case). m.blocks) e ∙ sym w.blocks)
    (v.disks ∙ ap (λ (m : Case). m.disks) e ∙ sym w.disks)
    (v.copies_held ∙ ap (pad_to 0 blocks_most) same.0 ∙ sym w.copies_held)
    (v.costs_held ∙ ap (pad_to 0 disks_most) same.1 ∙ sym w.costs_held)
    (v.starts_held ∙ ap (pad_to 0 disks_most) same.2 ∙ sym w.starts_held)

pub ask_unique : {o : Out Case} {bytes : ℕ} {r r' : Result Spelling Fault} → Asks o bytes r → Asks o bytes r' → r ≡ r'
ask_unique {r = Ok x} {r' = Ok y} a b =
    let h : got (case_lent x) _ ≡ got (case_lent y) _ = a.told ∙ sym b.told in
    let e : case_lent x ≡ case_lent y = cc in ap Ok (same_lists e a.lists b.lists)
ask_unique {r = Ok x} {r' = Err f} a b = absurd (not_refused (a.told ∙ sym b.told))
ask_unique {r = Err e} {r' = Ok y} a b = absurd (not_refused (b.told ∙ sym a.told))
ask_unique {r = Err e} {r' = Err f} a b =
    let h : refused (note_of e) ≡ refused (note_of f) = a.told ∙ sym b.told in
    let n : note_of e ≡ note_of f = cc in ap Err (note_injective e f n)

pub plan_into_unique : {number tenancy : ℕ} {o : Out Case} {out : List ℕ} {a b : Result ℕ Fault} {x y : List ℕ}
    → Answered number tenancy o out a x → Answered number tenancy o out b y → (a ≡ b) × (x ≡ y)
plan_into_unique {number} {tenancy} {o} {out} {a} {b} {x} {y} v w =
    let same : w.plan ≡ v.plan = plans_unique o w.plans v.plans in
    sent_unique (draft_of number tenancy v.plan) out a b x y v.sent
    (subst (λ (z : Out Plan). Sent (draft_of number tenancy z) out b y) same w.sent)
