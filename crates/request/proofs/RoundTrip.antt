-- Reading what was written, and writing what was read.
--     reads_request         the bytes of a request are read as its kind, age and copies
--     same_but_kind         with age 0 kind 2 and kind 4 say the same age and the same copies
--     reads_sheet           the bytes of a draft are read as the values that it was made of
--     read_written          reading what the writer wrote gives the same kind, age and copies, if each block has a copy in use
--     read_written_all      so it does where no disk is out
--     write_accepted, written_accepted     writing what the reader accepted gives the same bytes
--     read_again            what is accepted while some disks are out says the same while others are
use mathlib.Core.Path.{◌≡◌, refl, sym, ap, ◌∙◌, subst}
use mathlib.Core.Bool.{Bool, true, false}
use mathlib.Core.Logic.{inl, inr, ⊎_elim}
use mathlib.Core.List.{List, [], ◌∷◌, ◌++◌}
use Prim.Native.Nat.{ℕ, ◌+◌, ◌-◌, ◌^◌, ◌≤◌, ◌<◌}
use native.Mathlib.Omega.{arith}
use borrow.Author.Tests.{lt-ltb, eqb-false, ltb-true}
use lib.Dec.{eqb}
use lib.ListN.{length, take, get_or}
use Rattle.number.specs.Bytes.{Bytes}
use Rattle.number.specs.Encode.{encode}
use Rattle.std.specs.Prelude.{Result, Ok}
use Rattle.field.specs.declared.Fault.{Fault}
use Rattle.field.specs.Sheet.{got, note, pure}
use Rattle.field.specs.Put.{spell_all, opening_bytes}
use Rattle.basics.specs.Buffer.{over}
use Rattle.basics.specs.Choice.{pick}
use Rattle.basics.proofs.Lists.{all_at, all_by}
use Rattle.basics.proofs.Tests.{by_cases}
use Rattle.field.specs.Send.{sheet, Sent}
use Rattle.field.proofs.Sends.{sent_sheet, sent_room}
use Rattle.field.proofs.Read.{Reads, reads_bind, reads_pure, reads_here, reads_require, reads_tested, reads_checked, reads_number}
use Rattle.field.proofs.Read.{reads_between, reads_whole}
use Rattle.field.proofs.Spelt.{Spelt, spelt_join, spelt_whole, number_spelt, between_spelt}
use Rattle.field.proofs.Opened.{reads_opening, opening_spelt, opening_tenancy}
use Rattle.basics.specs.Lists.{All, Rises, listed}
use Rattle.field.proofs.Lists.{reads_times, reads_ascending, times_spelt, ascending_spelt}
use Rattle.request.specs.declared.Head.{Head}
use Rattle.request.specs.Disks.{mask_of}
use Rattle.mask.specs.Disks.{disks_of}
use Rattle.request.specs.Request.{kinds, Said, last_disk, block, opening, age, heading, body, request_sheet}
use Rattle.request.specs.Draft.{block_bytes, age_bytes, heading_bytes, request_bytes, aged, request_draft}
use Rattle.request.proofs.Aged.{kind_either, kind_listed, kind_small, aged_two, aged_zero, aged_other}
use Rattle.request.proofs.Disks.{lt_up, mask_all, disks_mask, disks_rise}
use Rattle.request.proofs.Used.{InUse, some_used, none_out}
use Rattle.request.proofs.Reading.{last_under, said, Listed, block_got, Headed, Whole, sheet_got}
use Rattle.request.proofs.Accepted.{last_of, count_of, block_sendable, said_kind, said_age_none, said_age_small, age_spelt}
use Rattle.request.proofs.Writing.{HeadingFits, Sendable, Drafted, drafted, draft_of_law}
use Rattle.basics.specs.Limits.{disks_most, blocks_most, copies_most}

-- ---- reading what was written

-- no disks: the number is 0
no_disks : (ds : List ℕ) → length ds ≡ 0 → mask_of ds ≡ 0
unfolding mask_of
no_disks [] h = refl
no_disks (d ∷ ds) h = absurd (omega arith)

-- of a kind without the field the age is 0
reads_age : (k a : ℕ) → a < 2 ^ 32 → ((k ≡ 4 → ⊥) → a ≡ 0) → Reads (age k) (age_bytes k a) a
unfolding age age_bytes pick
reads_age k a h z =
    by_cases (eqb k 4) (λ t. rw t (reads_number a h))
    (λ f. rw f (subst (λ (x : ℕ). Reads (pure 0) [] x) (sym (z (eqb-false k 4 f))) (reads_pure 0)))

module _ (n : ℕ) (out : ℕ → Bool) (known : n ≡ 0 → ⊥) (within : n ≤ disks_most) where
  reads_block : (m : ℕ) → Sendable n m × InUse out m → Reads (block (last_disk n) out) (block_bytes m) m
  unfolding block block_bytes
  reads_block m (s, u) =
      let all : m < 2 ^ 64 = lt_up s.under within in
      let top : m < 2 ^ (last_disk n + 1) = subst (λ (k : ℕ). m < 2 ^ k) (sym (last_of n known within)) s.under in
      let back : mask_of (disks_of m) ≡ m = mask_all m all in
      let some : length (disks_of m) ≡ 0 → ⊥ = λ z. s.some (sym back ∙ no_disks (disks_of m) z) in
      let few : length (disks_of m) ≤ copies_most = omega (arith, count_of m, s.few) in
      subst (λ (k : ℕ). Reads (block (last_disk n) out) (block_bytes m) k) back
      (reads_bind _ (reads_between 1 copies_most 7 6 (length (disks_of m)) (omega (arith, some)) few (omega arith))
      (reads_checked _ (reads_ascending (last_disk n) (omega (arith, last_under n)) 0 (disks_of m)
      (disks_rise (last_disk n) m (last_under n) top))
      (reads_here _ λ next. reads_tested (reads_require (note 20 (next - 1)) (some_used out m all u)) (reads_pure (mask_of (disks_of m))))))

  reads_body : (h : Head) (ms : List ℕ) → h.blocks ≡ length ms → All (Sendable n) ms → All (InUse out) ms
      → Reads (body h (last_disk n) out) (spell_all block_bytes ms) (said h.kind h.age ms)
  unfolding body
  reads_body h ms e each stay =
      let both : All (λ m. Sendable n m × InUse out m) ms =
      all_by _ 0 ms (λ i l. (all_at (Sendable n) ms each i 0 l, all_at (InUse out) ms stay i 0 l)) in
      rw e (reads_checked _ (reads_times (block (last_disk n) out) block_bytes _ reads_block ms both) (reads_pure _))

module _ (k unit t a n q : ℕ) (u : unit < 2 ^ 32) (v : t < 2 ^ 32) (w : a < 2 ^ 32) (h : HeadingFits k t a n q) where
  reads_open : Reads (opening unit t n) (opening_bytes k unit t) k
  unfolding opening
  reads_open =
      reads_checked _ (reads_opening unit t u (omega (arith, h.rented)) v kinds k h.kind (omega (arith, kind_small k h.kind)))
      (reads_here _ λ at. reads_tested (reads_require (note 10 at) (lt-ltb 0 n (omega (arith, h.known)))) (reads_pure k))

  reads_heading : Reads (heading unit t n) (heading_bytes k unit t a q) (record { kind = k; age = a; blocks = q })
  unfolding heading heading_bytes
  reads_heading =
      let young : (k ≡ 4 → ⊥) → a ≡ 0 =
      λ z. ⊎_elim (λ e. aged_two k a h.aged e) (λ e. absurd (z e)) (kind_either k h.kind) in
      reads_bind _ reads_open (reads_bind _ (reads_age k a w young)
      (reads_checked _ (reads_between 0 blocks_most 6 6 q (omega arith) h.count (omega (arith, h.count))) (reads_pure _)))

-- the bytes of a request are read as its kind, its age and its copies, if each block has a copy in use
pub reads_request : (k unit t a n : ℕ) (out : ℕ → Bool) (ms : List ℕ) → unit < 2 ^ 32 → t < 2 ^ 32 → a < 2 ^ 32
    → HeadingFits k t a n (length ms) → All (Sendable n) ms → All (InUse out) ms
    → request_sheet unit t n out (request_bytes k unit t a ms) 0 ≡ got (said k a ms) (length (request_bytes k unit t a ms))
unfolding request_sheet request_bytes
reads_request k unit t a n out ms u v w h each stay =
    reads_whole (reads_bind (λ x. body x (last_disk n) out) (reads_heading k unit t a n (length ms) u v w h)
    (reads_body n out h.known h.within _ ms refl each stay))

-- with age 0 a request may be of either kind, and says the same but for it
pub same_but_kind : (unit t n : ℕ) (out : ℕ → Bool) (ms : List ℕ) → unit < 2 ^ 32 → t < 2 ^ 32 → 0 < t → 0 < n → n ≤ disks_most
    → length ms ≤ blocks_most → All (Sendable n) ms → All (InUse out) ms
    → (request_sheet unit t n out (request_bytes 2 unit t 0 ms) 0 ≡ got (said 2 0 ms) (length (request_bytes 2 unit t 0 ms)))
    × (request_sheet unit t n out (request_bytes 4 unit t 0 ms) 0 ≡ got (said 4 0 ms) (length (request_bytes 4 unit t 0 ms)))
same_but_kind unit t n out ms u v rented known within count each stay =
    let head : (k : ℕ) → listed kinds k ≡ true → HeadingFits k t 0 n (length ms) = λ k l. record {
      kind = l;
      rented = λ z. omega arith;
      aged = aged_zero k 0 (omega arith);
      known = λ z. omega arith;
      within = within;
      count = count;
    } in (
      reads_request 2 unit t 0 n out ms u v (omega arith) (head 2 (kind_listed 2 (inl refl))) each stay,
      reads_request 4 unit t 0 n out ms u v (omega arith) (head 4 (kind_listed 4 (inr refl))) each stay,
    )

-- the bytes of a draft are read as the values that it was made of
pub reads_sheet : (k unit t a n : ℕ) (out : ℕ → Bool) (ms bs : List ℕ) → unit < 2 ^ 32 → t < 2 ^ 32 → a < 2 ^ 32 → All (InUse out) ms
    → request_draft k unit t a n ms ≡ sheet bs → request_sheet unit t n out bs 0 ≡ got (said k a ms) (length bs)
reads_sheet k unit t a n out ms bs u v w stay h =
    let d : Drafted k unit t a n ms bs = drafted k unit t a n ms bs h in
    subst (λ (x : List ℕ). request_sheet unit t n out x 0 ≡ got (said k a ms) (length x)) (sym d.bytes)
    (reads_request k unit t a n out ms u v w d.head d.blocks stay)

-- the writer was told this kind, this age and these copies, and the reader finds them in the bytes that it wrote, disks that are out among
-- them, if each block has a copy in use
pub read_written : (k unit t a n : ℕ) (gone : ℕ → Bool) (ms out : List ℕ) (len : ℕ) (after : List ℕ) → unit < 2 ^ 32 → t < 2 ^ 32
    → a < 2 ^ 32 → All (InUse gone) ms → Sent (request_draft k unit t a n ms) out (Ok len) after
    → request_sheet unit t n gone (take len after) 0 ≡ got (said k a ms) len
read_written k unit t a n gone ms out len after u v y stay w =
    let b = sent_sheet (request_draft k unit t a n ms) out len after w in
    ap (λ x. request_sheet unit t n gone x 0) b.3 ∙ reads_sheet k unit t a n gone ms b.0 u v y stay b.1
    ∙ ap (got (said k a ms)) (sym b.2)

-- where no disk is out, whatever was written
pub read_written_all : (k unit t a n : ℕ) (ms out : List ℕ) (len : ℕ) (after : List ℕ) → unit < 2 ^ 32 → t < 2 ^ 32 → a < 2 ^ 32
    → Sent (request_draft k unit t a n ms) out (Ok len) after
    → request_sheet unit t n (λ _. false) (take len after) 0 ≡ got (said k a ms) len
read_written_all k unit t a n ms out len after u v y w =
    let b = sent_sheet (request_draft k unit t a n ms) out len after w in
    let d = drafted k unit t a n ms b.0 b.1 in
    let stay : All (InUse (λ _. false)) ms = all_by _ 0 ms (λ i l.
    let m = all_at (Sendable n) ms d.blocks i 0 l in none_out (get_or ms i 0) (lt_up m.under d.head.within) m.some) in
    read_written k unit t a n (λ _. false) ms out len after u v y stay w

-- ---- writing what was read

module _ (s : List ℕ) (bytes : Bytes s) (n : ℕ) (known : n ≡ 0 → ⊥) (within : n ≤ disks_most) where
  block_spelt : (out : ℕ → Bool) (at m e : ℕ) → block (last_disk n) out s at ≡ got m e → Spelt s at e (block_bytes m) × Sendable n m
  unfolding block_bytes
  block_spelt out at m e h =
      let w : Listed (last_disk n) out s at m e = block_got (last_disk n) out s at m e h in
      let a : Spelt s at w.mid (encode w.count) × (w.count < 2 ^ 32) = number_spelt s at w.count w.mid bytes w.first in
      let b : Spelt s w.mid e (spell_all encode w.disks) × (length w.disks ≡ w.count)
      × Rises 0 (last_disk n) w.disks =
      ascending_spelt (last_disk n) s bytes w.count 0 w.mid w.disks e a.0.within w.rest in
      let same : disks_of m ≡ w.disks = ap disks_of (sym w.sum) ∙ disks_mask (last_disk n) w.disks (last_under n) b.2 in
      let joined : Spelt s at e (encode (length w.disks) ++ spell_all encode w.disks) =
      subst (λ (k : ℕ). Spelt s at e (encode k ++ spell_all encode w.disks)) (sym b.1) (spelt_join a.0 b.0) in (
        subst (λ (ds : List ℕ). Spelt s at e (encode (length ds) ++ spell_all encode ds)) (sym same) joined,
        block_sendable n known within out s at m e h,
      )

  heading_spelt : (unit t : ℕ) (h : Head) (e : ℕ) → Headed unit t n s 0 h e
      → Spelt s 0 e (heading_bytes h.kind unit t h.age h.blocks)
  unfolding heading_bytes
  heading_spelt unit t h e w =
      let f = opening_spelt unit t kinds s 0 w.first bytes in
      let a = age_spelt h.kind s bytes w.mid h.age w.next f.0.within w.aged in
      let q = between_spelt s bytes w.next 0 blocks_most 6 6 w.last in
      spelt_join f.0 (spelt_join a.0 q.0)

-- the draft of what an accepted sheet says is that sheet. N is at most 64: the reader takes a greater one as 64, the writer refuses it.
pub write_accepted : (unit t n : ℕ) (out : ℕ → Bool) (s : List ℕ) (r : Said) (e : ℕ) → Bytes s → n ≤ disks_most
    → request_sheet unit t n out s 0 ≡ got r e → request_draft r.kind unit t r.age n r.copies ≡ sheet s
unfolding request_bytes
write_accepted unit t n out s r e b l h =
    let ms : List ℕ = r.copies in
    let w : Whole unit t n out s r e = sheet_got unit t n out s r e h in
    let known : n ≡ 0 → ⊥ = λ z. (let p : 0 < n = ltb-true 0 n w.headed.known in omega arith) in
    let rented : 0 < t = opening_tenancy unit t kinds s 0 w.headed.first in
    let young : aged r.kind r.age ≡ true =
    ⊎_elim (λ k. aged_zero r.kind r.age (omega (arith, said_age_none unit t n out s r e h k)))
    (λ k. aged_other r.kind r.age (λ z. omega arith)) (said_kind unit t n out s r e h) in
    let i = heading_spelt s b n known l unit t _ w.mid w.headed in
    let j : Spelt s w.mid e (spell_all block_bytes ms) × (length ms ≡ w.count)
    × All (Sendable n) ms = times_spelt (block (last_disk n) out) block_bytes (Sendable n) s (block_spelt s b n known l out) w.count
    w.mid ms e i.within w.rest in
    let joined : Spelt s 0 e (heading_bytes r.kind unit t r.age (length ms) ++ spell_all block_bytes ms) =
    rw j.1 (spelt_join i j.0) in
    draft_of_law r.kind unit t r.age n ms s (record {
      head = record {
        kind = kind_listed r.kind (said_kind unit t n out s r e h);
        rented = λ z. omega arith;
        aged = young;
        known = known;
        within = l;
        count = omega (arith, w.small, j.1);
      };
      blocks = j.2;
      bytes = spelt_whole s e _ w.ends joined;
    })

-- with room for it, the writer leaves the same bytes
pub written_accepted : (unit t n : ℕ) (gone : ℕ → Bool) (s : List ℕ) (r : Said) (e : ℕ) → Bytes s → n ≤ disks_most
    → request_sheet unit t n gone s 0 ≡ got r e → (out : List ℕ) (a : Result ℕ Fault) (after : List ℕ) → length s ≤ length out
    → Sent (request_draft r.kind unit t r.age n r.copies) out a after → (a ≡ Ok (length s)) × (after ≡ over s out)
written_accepted unit t n gone s r e b l h out a after room w =
    sent_room out a after (write_accepted unit t n gone s r e b l h) room w

-- whichever disks are out, an accepted sheet says the same of kind, age and copies, if each block has a copy in use
pub read_again : (unit t n : ℕ) (out others : ℕ → Bool) (s : List ℕ) (r : Said) (e : ℕ) → Bytes s → n ≤ disks_most
    → unit < 2 ^ 32 → t < 2 ^ 32 → request_sheet unit t n out s 0 ≡ got r e → All (InUse others) r.copies
    → request_sheet unit t n others s 0 ≡ got r (length s)
read_again unit t n out others s r e b l u v h stay =
    reads_sheet r.kind unit t r.age n others r.copies s u v (said_age_small unit t n out s r e b h) stay
    (write_accepted unit t n out s r e b l h)
