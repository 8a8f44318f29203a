-- What an accepted request says: for those who call the reader.
--     block_sendable, block_used, sheet_blocks   what is known of a block that was read, whatever the bytes
--     said_kind, said_age_none                   its kind is 2 or 4; with kind 2 the age is 0
--     age_spelt, said_age_small                  the bytes of the age; it has 32 bits
--     Accepts, accepted                          what is known of the kind, the age and the copies that are handed out
--     accepted_at, accepted_used                 the same of one block
--     refused_sheet                              what a refusal says of the sheet
use mathlib.Core.Path.{◌≡◌, refl, sym, ap, ◌∙◌, subst}
use mathlib.Core.Bool.{Bool}
use mathlib.Core.Logic.{◌⊎◌}
use mathlib.Core.List.{List}
use Prim.Native.Nat.{ℕ, ◌+◌, ◌-◌, ◌^◌, ◌≤◌, ◌<◌}
use native.Mathlib.Omega.{arith}
use borrow.Author.Tests.{eqb-true, eqb-false, ltb-true, ltb-false}
use lib.Dec.{eqb, ltb}
use lib.ListN.{length, take, drop, get_or, replicate}
use lib.Seq.{get_or-take}
use Rattle.basics.proofs.Tests.{by_cases}
use Rattle.number.specs.Bytes.{Bytes}
use Rattle.mask.specs.Count.{members}
use Rattle.mask.specs.Has.{has}
use Rattle.mask.proofs.Has.{has_zero}
use Rattle.basics.proofs.Count.{count_none}
use Rattle.field.specs.declared.Fault.{Fault}
use Rattle.field.specs.Refusal.{note_of}
use Rattle.field.specs.Sheet.{Note, Out, got, refused, Parser}
use Rattle.basics.proofs.Lists.{all_at}
use Rattle.field.proofs.Unique.{not_refused}
use Rattle.field.proofs.Opened.{opening_kind, opening_spelt}
use Rattle.field.proofs.Spelt.{Spelt, spelt_none, number_spelt}
use Rattle.field.proofs.Values.{ascending_rises, times_all}
use Rattle.basics.specs.Lists.{All, Rises}
use Rattle.std.specs.Prelude.{Ok, Err}
use Rattle.request.specs.declared.Request.{Request}
use Rattle.request.specs.Disks.{mask_of}
use Rattle.mask.specs.Disks.{disks_of}
use Rattle.request.specs.Draft.{age_bytes}
use Rattle.request.specs.Request.{kinds, Said, last_disk, used, block, age, request_sheet}
use Rattle.request.specs.Told.{request_of, handed, Told}
use Rattle.request.proofs.Aged.{kind_either, age_held, age_empty}
use Rattle.request.proofs.Disks.{disks_mask, mask_under}
use Rattle.request.proofs.Used.{InUse, used_some}
use Rattle.request.proofs.Writing.{disks_count, Sendable}
use Rattle.request.proofs.Reading.{last_under, last_few, last_all, said, Listed, block_got, age_four, age_none, Whole, sheet_got}
use Rattle.basics.specs.Limits.{disks_most, blocks_most, copies_most}
use Rattle.basics.specs.Padded.{pad_to}
use Rattle.basics.proofs.Padded.{pad_front, pad_rest}

-- ---- whatever the bytes

-- the last disk of N, where N is in its range
pub last_of : (n : ℕ) → (n ≡ 0 → ⊥) → n ≤ disks_most → last_disk n + 1 ≡ n
last_of n z l =
    by_cases (ltb n disks_most)
    (λ t. omega (arith, last_few n (ltb-true n disks_most t), z))
    (λ f. let e : disks_most ≤ n = ltb-false n disks_most f in omega (arith, last_all n e))

-- as many disks as bits
pub count_of : (m : ℕ) → length (disks_of m) ≡ members disks_most m
unfolding disks_of
count_of m = disks_count m disks_most

-- the copies of a rising list can be sent
sendable : (n : ℕ) → (n ≡ 0 → ⊥) → n ≤ disks_most → (k : ℕ) (ds : List ℕ) → Rises 0 (last_disk n) ds → length ds ≡ k
    → (k ≡ 0 → ⊥) → k ≤ copies_most
    → Sendable n (mask_of ds)
sendable n known within k ds r e some few =
    let same : disks_of (mask_of ds) ≡ ds = disks_mask (last_disk n) ds (last_under n) r in
    let count : members disks_most (mask_of ds) ≡ k = sym (count_of (mask_of ds)) ∙ ap length same ∙ e in
    record {
      some = λ z. some (sym count ∙ ap (members disks_most) z ∙ count_none disks_most (has 0) (λ d _. has_zero d));
      few = omega (arith, count);
      under = subst (λ (j : ℕ). mask_of ds < 2 ^ j) (last_of n known within)
          (omega (arith, mask_under 0 (last_disk n) 0 ds r (omega arith) (omega arith)));
    }

pub block_sendable : (n : ℕ) → (n ≡ 0 → ⊥) → n ≤ disks_most → (out : ℕ → Bool) (s : List ℕ) (at m e : ℕ)
    → block (last_disk n) out s at ≡ got m e → Sendable n m
block_sendable n known within out s at m e h =
    let w : Listed (last_disk n) out s at m e = block_got (last_disk n) out s at m e h in
    let r : (length w.disks ≡ w.count)
    × Rises 0 (last_disk n) w.disks = ascending_rises (last_disk n) s w.count 0 w.mid w.disks e w.rest in
    subst (Sendable n) w.sum (sendable n known within w.count w.disks r.1 r.0 w.some w.few)

-- some copy of it is in use
pub block_used : (n : ℕ) (out : ℕ → Bool) (s : List ℕ) (at m e : ℕ) → block (last_disk n) out s at ≡ got m e → InUse out m
block_used n out s at m e h =
    let w : Listed (last_disk n) out s at m e = block_got (last_disk n) out s at m e h in
    let r = ascending_rises (last_disk n) s w.count 0 w.mid w.disks e w.rest in
    let same : disks_of m ≡ w.disks = ap disks_of (sym w.sum) ∙ disks_mask (last_disk n) w.disks (last_under n) r.1 in
    used_some out m (ap (used out) same ∙ w.some_in)

-- an accepted sheet, as the definition has it
module _ (unit t n : ℕ) (out : ℕ → Bool) (s : List ℕ) (r : Said) (e : ℕ) where
  pub sheet_blocks : n ≤ disks_most → request_sheet unit t n out s 0 ≡ got r e
      → (0 < n) × (length r.copies ≤ blocks_most) × All (Sendable n) r.copies × All (InUse out) r.copies
  sheet_blocks l h =
      let w : Whole unit t n out s r e = sheet_got unit t n out s r e h in
      let known : 0 < n = ltb-true 0 n w.headed.known in
      let one : Parser ℕ = block (last_disk n) out in
      let j = times_all one (Sendable n) s (block_sendable n (λ z. omega arith) l out s) w.count w.mid r.copies e w.rest in
      let u = times_all one (InUse out) s (block_used n out s) w.count w.mid r.copies e w.rest in
      (known, omega (arith, j.0, w.small), j.1, u.1)

  pub said_kind : request_sheet unit t n out s 0 ≡ got r e → (r.kind ≡ 2) ⊎ (r.kind ≡ 4)
  said_kind h = kind_either r.kind (opening_kind unit t kinds s 0 (sheet_got unit t n out s r e h).headed.first)

  pub said_age_none : request_sheet unit t n out s 0 ≡ got r e → r.kind ≡ 2 → r.age ≡ 0
  said_age_none h k =
      let w : Whole unit t n out s r e = sheet_got unit t n out s r e h in
      let g : got 0 w.headed.mid ≡ got r.age w.headed.next =
      sym (age_none r.kind s w.headed.mid (λ z. omega arith)) ∙ w.headed.aged in
      cc

-- ---- of bytes

pub age_spelt : (k : ℕ) (s : List ℕ) → Bytes s → (at a e : ℕ) → at ≤ length s → age k s at ≡ got a e
    → Spelt s at e (age_bytes k a) × (a < 2 ^ 32)
age_spelt k s b at a e l h =
    by_cases (eqb k 4)
    (λ t. let z : k ≡ 4 = eqb-true k 4 t in rw (age_held k a z) (number_spelt s at a e b (sym (age_four k s at z) ∙ h)))
    (λ f.
    let z : k ≡ 4 → ⊥ = eqb-false k 4 f in
    let g : got 0 at ≡ got a e = sym (age_none k s at z) ∙ h in
    let none : a ≡ 0 = cc in
    let here : e ≡ at = cc in
    rw (age_empty k a z, here) (spelt_none s at l, omega arith))

pub said_age_small : (unit t n : ℕ) (out : ℕ → Bool) (s : List ℕ) (r : Said) (e : ℕ) → Bytes s → request_sheet unit t n out s 0 ≡ got r e
    → r.age < 2 ^ 32
said_age_small unit t n out s r e b h =
    let w = (sheet_got unit t n out s r e h).headed in
    let f = opening_spelt unit t kinds s 0 w.first b in
    (age_spelt r.kind s b w.mid r.age w.next f.0.within w.aged).1

-- ---- what is handed out

pub record Accepts (unit t n : ℕ) (out : ℕ → Bool) (s : List ℕ) (q kind age : ℕ) (copies : List ℕ) : Type 0 where
  pub sheet : request_sheet unit t n out s 0 ≡ got (said kind age (take q copies)) (length s)
  pub known : 0 < n
  pub small : q ≤ blocks_most
  pub count : length (take q copies) ≡ q
  pub blocks : All (Sendable n) (take q copies)
  pub used : All (InUse out) (take q copies)
  pub beyond : drop q copies ≡ replicate (blocks_most - q) 0

-- by cases on what the definition says
handed_got : (o : Out Said) (len : ℕ) (q : Request) → got q len ≡ handed o → (r : Said) × (o ≡ got r len) × (q ≡ request_of r)
handed_got (got r e) len q h = (r, cc, cc)
handed_got (refused n) len q h = absurd (not_refused h)

handed_refused : (o : Out Said) (n : Note) → refused n ≡ handed o → o ≡ refused n
handed_refused (got r e) n h = absurd (not_refused (sym h))
handed_refused (refused m) n h = cc

module _ (unit t n : ℕ) (out : ℕ → Bool) (s : List ℕ) where
  accepts : n ≤ disks_most → (r : Said) → request_sheet unit t n out s 0 ≡ got r (length s)
      → Accepts unit t n out s (length r.copies) r.kind r.age (pad_to 0 blocks_most r.copies)
  accepts l r h =
      let ms : List ℕ = r.copies in
      let front : take (length ms) (pad_to 0 blocks_most ms) ≡ ms = pad_front 0 blocks_most ms (length ms) refl in
      let b = sheet_blocks unit t n out s r (length s) l h in
      record {
        sheet = h ∙ ap (λ (x : List ℕ). got (said r.kind r.age x) (length s)) (sym front);
        known = b.0;
        small = b.1;
        count = ap length front;
        blocks = subst (All (Sendable n)) (sym front) b.2;
        used = subst (All (InUse out)) (sym front) b.3;
        beyond = pad_rest 0 blocks_most ms (length ms) refl;
      }

  pub accepted : (r : Request) → n ≤ disks_most → Told (length s) (request_sheet unit t n out s 0) (Ok r)
      → Accepts unit t n out s r.blocks r.kind r.age r.copies
  accepted r l a =
      let w : (x : Said) × (request_sheet unit t n out s 0 ≡ got x (length s)) × (r ≡ request_of x) =
      handed_got (request_sheet unit t n out s 0) (length s) r a in
      subst (λ (q : Request). Accepts unit t n out s q.blocks q.kind q.age q.copies) (sym w.2) (accepts l w.0 w.1)

module _ {unit t n : ℕ} {out : ℕ → Bool} {s : List ℕ} {q kind age : ℕ} {copies : List ℕ} (a : Accepts unit t n out s q kind age copies)
    (i : ℕ) (l : i < q) where
  each : (P : ℕ → Type 0) → All P (take q copies) → P (get_or copies i 0)
  each P h = subst P (get_or-take q copies i 0 l) (all_at P (take q copies) h i 0 (omega (arith, a.count)))

  -- each block has copies, at most eight, all below N
  pub accepted_at : Sendable n (get_or copies i 0)
  accepted_at = each (Sendable n) a.blocks

  -- and one of them is in use
  pub accepted_used : InUse out (get_or copies i 0)
  accepted_used = each (InUse out) a.used

pub refused_sheet : (len : ℕ) (o : Out Said) (e : Fault) → Told len o (Err e) → o ≡ refused (note_of e)
refused_sheet len o e a = handed_refused o (note_of e) a
