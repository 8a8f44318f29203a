-- Laws of reading a request.
--     last_few, last_all, last_under                       the last disk
--     gather_done, gather_step, gather_stop                the disks of a block, one by one
--     Gathering                                            as a loop: the disks read so far are in m, the rest is still to be read
--     disk_above, disk_stops                               a byte above the last disk is no disk
--     if_used, block_of                                    a block whose copies are not all out; a block, by its copy count
--     block_stops, block_breaks, block_tested, behind      a block, by its copy count, its disks, and whether some of them are in use
--     opening_stops, opening_unset, opening_known          kind, unit, tenancy and settings, by where they stop
--     age_four, age_none                                   the age, by the kind
--     heading_stops, heading_age, heading_count, heading_of     the fields before the blocks, by where they stop
--     said                                                 what a request says, of these values
--     Filling, filling_start, filling_step, filling_stop, filling_extra, filling_done    the blocks, as a loop
--     told_stopped, sheet_next, sheet_stops                the whole sheet
--     Listed, Headed, Whole, block_got, heading_got, sheet_got     what an accepted block, heading or sheet says of each part
use mathlib.Core.Path.{◌≡◌, refl, sym, ap, ap₂, ◌∙◌, subst, subst⁻¹}
use mathlib.Core.Bool.{Bool, true, false, ◌||◌}
use mathlib.Core.List.{List, ◌∷◌, ◌++◌}
use Prim.Native.Nat.{ℕ, suc, ◌+◌, ◌-◌, ◌^◌, ◌≤◌, ◌<◌}
use native.Mathlib.Omega.{arith}
use borrow.Author.Tests.{eq-eqb, ne_eqb, lt-ltb, le-ltb, ltb-true}
use lib.Dec.{eqb, ltb, lit<}
use lib.ListN.{length, replicate, take, drop, set, length-set, get_or}
use lib.Seq.{take-length}
use Rattle.std.proofs.lemmas.List.{drop-replicate, take_more_set}
use Rattle.basics.specs.Choice.{pick}
use Rattle.basics.proofs.Choice.{pick_true, pick_false, pick_elim}
use Rattle.std.specs.Prelude.{Result, Err}
use Rattle.field.specs.declared.Fault.{Fault}
use Rattle.field.specs.Refusal.{note_of}
use Rattle.field.specs.Told.{told_by}
use Rattle.field.specs.Sheet.{Note, Out, got, refused, note, Parser, and_then, ◌>>=◌, ◌>>◌, pure, here, require, times}
use Rattle.field.specs.Field.{number, between, opening as opened, inside, rising, ascending, end, whole}
use Rattle.field.proofs.Sheet.{next, then, stops, halts, pass, fail, at_here, Step, bind_got, passed, pure_got}
use Rattle.field.proofs.Values.{between_within, between_range, ascending_rises}
use Rattle.field.proofs.Lists.{prefix, times_start, times_step, times_stop, times_done}
use Rattle.field.proofs.Whole.{whole_next, whole_stops, whole_refused, whole_got, end_place}
use Rattle.request.specs.declared.Head.{Head}
use Rattle.request.specs.declared.Request.{Request}
use Rattle.request.specs.Disks.{mask_of}
use Rattle.mask.specs.Disks.{disks_of}
use Rattle.request.specs.Request.{kinds, Said, last_disk, used, block, opening, age, heading, body, request_sheet}
use Rattle.request.specs.Parts.{masked}
use Rattle.request.specs.Told.{request_of, handed, Told}
use Rattle.basics.specs.Limits.{disks_most, blocks_most, copies_most}
use Rattle.basics.specs.Padded.{pad_to}
use Rattle.mask.specs.Has.{has}
use Rattle.field.proofs.Readers.{between_got, between_above, between_under, between_stops}
use Rattle.field.proofs.OneByte.{number_ends, number_byte, number_above, ascending_last}
use Rattle.request.proofs.Disks.{put_sum, plus_lt, lt_up, disks_mask}

-- ---- the last disk

pub last_few : (n : ℕ) → n < disks_most → last_disk n ≡ n - 1
unfolding last_disk
last_few n h = pick_true _ _ (lt-ltb n disks_most h)

pub last_all : (n : ℕ) → disks_most ≤ n → last_disk n ≡ disks_most - 1
unfolding last_disk
last_all n h = pick_false _ _ (le-ltb n disks_most h)

pub last_under : (n : ℕ) → last_disk n < disks_most
unfolding last_disk
last_under n = pick_elim (λ (k : ℕ). k < disks_most) _ _ _ (λ t. omega (arith, ltb-true n disks_most t)) (λ f. omega arith)

-- ---- the disks of a block

-- one disk more among the others
masked_more : (m v : ℕ) (o : Out (List ℕ)) → masked m (and_then o (λ vs n. got (v ∷ vs) n)) ≡ masked (m + 2 ^ v) o
unfolding masked and_then mask_of
masked_more m v (got vs n) = ap (λ (k : ℕ). got k n) (omega arith)
masked_more m v (refused e) = refl

listed : (m v : ℕ) (q : Parser (List ℕ)) (s : List ℕ) (at : ℕ) → masked m ((q >>= λ vs. pure (v ∷ vs)) s at) ≡ masked (m + 2 ^ v) (q s at)
unfolding ◌>>=◌ pure
listed m v q s at = masked_more m v (q s at)

module _ (high : ℕ) (s : List ℕ) (left floor at m : ℕ) where
  pub gather_done : left ≡ 0 → masked m (ascending left floor high s at) ≡ got m at
  unfolding ascending masked mask_of pure
  gather_done z = ap (λ (k : ℕ). masked m (ascending k floor high s at)) z ∙ ap (λ (k : ℕ). got k at) (omega arith)

  pub gather_step : {v e : ℕ} (r : ℕ) → r ≡ m + 2 ^ v → (left ≡ 0 → ⊥) → rising floor high s at ≡ got v e
      → masked m (ascending left floor high s at) ≡ masked r (ascending (left - 1) (v + 1) high s e)
  unfolding ascending
  gather_step {v} {e} r q z h =
      let k : left ≡ suc (left - 1) = omega arith in
      ap (λ (k : ℕ). masked m (ascending k floor high s at)) k ∙ ap (masked m) (next (rising floor high) _ s at h)
      ∙ listed m v (ascending (left - 1) (v + 1) high) s e ∙ ap (λ (k : ℕ). masked k (ascending (left - 1) (v + 1) high s e)) (sym q)

  pub gather_stop : {n : Note} → (left ≡ 0 → ⊥) → rising floor high s at ≡ refused n → masked m (ascending left floor high s at) ≡ refused n
  unfolding ascending masked
  gather_stop {n} z h =
      let k : left ≡ suc (left - 1) = omega arith in
      ap (λ (k : ℕ). masked m (ascending k floor high s at)) k ∙ ap (masked m) (stops (rising floor high) _ s at h)

-- ---- byte by byte

-- i disks are read, into m; the rest of k is still to be read from p on
pub record Gathering (high : ℕ) (s : List ℕ) (at k m floor p i : ℕ) : Type 0 where
  pub rest : masked m (ascending (k - i) floor high s p) ≡ masked 0 (ascending k 0 high s at)
  pub above : m < 2 ^ floor

pub gathering_start : (high : ℕ) (s : List ℕ) (at k : ℕ) → Gathering high s at k 0 0 at 0
gathering_start high s at k = record {
  rest = ap (λ (j : ℕ). masked 0 (ascending j 0 high s at)) {x = k - 0} {y = k} (omega arith);
  above = lit< tt;
}

module _ {high : ℕ} {s : List ℕ} {at k m floor p i : ℕ} (g : Gathering high s at k m floor p i) where
  -- the first refusal stands
  pub gathering_stop : {n : Note} → i < k → rising floor high s p ≡ refused n → refused n ≡ masked 0 (ascending k 0 high s at)
  gathering_stop l h = sym (gather_stop high s (k - i) floor p m (λ z. omega (arith, l, z)) h) ∙ g.rest

  pub gathering_ends : i < k → length s ≤ p → refused (note 1 (length s)) ≡ masked 0 (ascending k 0 high s at)
  gathering_ends l h = gathering_stop l (between_stops s p (number_ends s p h) floor high 8 16)

  module _ {d : ℕ} (few : high < disks_most) (here : p < length s) (is : d ≡ get_or s p 0) (within : d ≤ high) where
    stands : number s p ≡ got d (p + 1)
    stands = number_byte s p here (omega (arith, is)) ∙ ap (λ (v : ℕ). got v (p + 1)) (sym is)

    pub gathering_low : i < k → d < floor → refused (note 8 p) ≡ masked 0 (ascending k 0 high s at)
    gathering_low l b = gathering_stop l (between_under s p stands floor high 8 16 within b)

    pub gathering_step : {r : ℕ} → i < k → floor ≤ d → r < 2 ^ 64 → ((e : ℕ) → has r e ≡ (eqb e d || has m e))
        → Gathering high s at k r (d + 1) (p + 1) (i + 1)
    gathering_step {r} l b fits a =
        let up : m < 2 ^ d = lt_up g.above b in
        let sum : r ≡ m + 2 ^ d = put_sum m d r (omega arith) up fits a in
        record {
          rest = ap (λ (j : ℕ). masked r (ascending j (d + 1) high s (p + 1))) {x = k - (i + 1)} {y = k - i - 1} (omega arith)
              ∙ sym (gather_step high s (k - i) floor p m r sum (λ z. omega (arith, l, z))
              (between_got s p stands floor high 8 16 b within))
              ∙ g.rest;
          above = subst⁻¹ (λ (x : ℕ). x < 2 ^ (d + 1)) sum (plus_lt d m up);
        }

  pub gathering_done : k ≤ i → got m p ≡ masked 0 (ascending k 0 high s at)
  gathering_done z = sym (gather_done high s (k - i) floor p m (omega arith)) ∙ g.rest

-- a number whose first byte is above the last disk is no disk's
module _ (high : ℕ) (s : List ℕ) (at floor : ℕ) where
  pub disk_above : {v e : ℕ} → high < disks_most → at < length s → high < get_or s at 0 → number s at ≡ got v e
      → rising floor high s at ≡ refused (note 16 at)
  disk_above few here over h = between_above s at h floor high 8 16 (number_above s at here (omega arith) over h)

  pub disk_stops : {n : Note} → number s at ≡ refused n → rising floor high s at ≡ refused n
  disk_stops h = between_stops s at h floor high 8 16

-- ---- a block

-- what an answer told of its disks
masked_got : (o : Out (List ℕ)) (m e : ℕ) → got m e ≡ masked 0 o → (ds : List ℕ) × (o ≡ got ds e) × (mask_of ds ≡ m)
unfolding masked
masked_got (got ds n) m e h = (ds, cc, let q : m ≡ 0 + mask_of ds = cc in omega arith)
masked_got (refused r) m e h = absurd (let z : ◌≡◌ {A = ℕ} 0 1 = cc in omega arith)

masked_refused : (o : Out (List ℕ)) {n : Note} → refused n ≡ masked 0 o → o ≡ refused n
unfolding masked
masked_refused (got ds n) h = absurd (let z : ◌≡◌ {A = ℕ} 0 1 = cc in omega arith)
masked_refused (refused e) h = cc

-- the test behind the disks
tested : (b : Bool) (n : Note) (m : ℕ) (s : List ℕ) (at : ℕ) → (require b n >> pure m) s at ≡ pick b (got m at) (refused n)
unfolding ◌>>◌ require pure and_then pick
tested true n m s at = refl
tested false n m s at = refl

-- that some of the disks are in use, and their number
abbrev chosen : (ℕ → Bool) → List ℕ → Parser ℕ
chosen out ds = here >>= λ next. require (used out ds) (note 20 (next - 1)) >> pure (mask_of ds)

-- the copies of a block, where some are in use: 20 else, at the last of them
unfoldable pub if_used : (ℕ → Bool) → Out ℕ → Out ℕ
if_used out (got m at) = pick (used out (disks_of m)) (got m at) (refused (note 20 (at - 1)))
if_used out (refused e) = refused e

chosen_masked : (out : ℕ → Bool) (s : List ℕ) (o : Out (List ℕ)) → ((ds : List ℕ) (e : ℕ) → o ≡ got ds e → disks_of (mask_of ds) ≡ ds)
    → and_then o (λ ds n. chosen out ds s n) ≡ if_used out (masked 0 o)
unfolding and_then masked if_used
chosen_masked out s (got ds n) h =
    let last : Out ℕ = refused (note 20 (n - 1)) in
    at_here _ s n ∙ tested (used out ds) (note 20 (n - 1)) (mask_of ds) s n
    ∙ ap (λ (x : List ℕ). pick (used out x) (got (mask_of ds) n) last) (sym (h ds n refl))
    ∙ ap (λ (k : ℕ). pick (used out (disks_of k)) (got k n) last) {x = mask_of ds} {y = 0 + mask_of ds} (omega arith)
chosen_masked out s (refused e) h = refl

module _ (high : ℕ) (out : ℕ → Bool) (s : List ℕ) (at : ℕ) where
  pub block_stops : {n : Note} → between 1 copies_most 7 6 s at ≡ refused n → block high out s at ≡ refused n
  unfolding block
  block_stops h = stops (between 1 copies_most 7 6) _ s at h

  module _ {k e : ℕ} (h : between 1 copies_most 7 6 s at ≡ got k e) where
    pub block_of : high < disks_most → block high out s at ≡ if_used out (masked 0 (ascending k 0 high s e))
    unfolding block ◌>>=◌
    block_of few =
        next (between 1 copies_most 7 6) (λ k. ascending k 0 high >>= chosen out) s at h
        ∙ chosen_masked out s (ascending k 0 high s e) (λ ds i g. disks_mask high ds few (ascending_rises high s k 0 e ds i g).1)

    pub block_breaks : {n : Note} → refused n ≡ masked 0 (ascending k 0 high s e) → block high out s at ≡ refused n
    unfolding block
    block_breaks w = next (between 1 copies_most 7 6) _ s at h ∙ stops (ascending k 0 high) _ s e (masked_refused _ w)

    module _ (few : high < disks_most) {m i : ℕ} (w : got m i ≡ masked 0 (ascending k 0 high s e)) where
      pub block_tested : block high out s at ≡ pick (used out (disks_of m)) (got m i) (refused (note 20 (i - 1)))
      unfolding block
      block_tested =
          let g = masked_got (ascending k 0 high s e) m i w in
          let same : disks_of (mask_of g.0) ≡ g.0 = disks_mask high g.0 few (ascending_rises high s k 0 e g.0 i g.1).1 in
          let last : Out ℕ = refused (note 20 (i - 1)) in
          next (between 1 copies_most 7 6) (λ k. ascending k 0 high >>= chosen out) s at h
          ∙ next (ascending k 0 high) (chosen out) s e g.1 ∙ at_here _ s i ∙ tested (used out g.0) (note 20 (i - 1)) (mask_of g.0) s i
          ∙ ap (λ (x : List ℕ). pick (used out x) (got (mask_of g.0) i) last) (sym same)
          ∙ ap (λ (x : ℕ). pick (used out (disks_of x)) (got x i) last) g.2

      -- its disks stand behind some byte
      pub behind : 0 < i
      behind =
          let g = masked_got (ascending k 0 high s e) m i w in
          let more : k ≡ suc (k - 1) = omega (arith, (between_range 1 copies_most 7 6 s at h).0) in
          (ascending_last high (omega arith) s (k - 1) 0 e g.0 i (ap (λ (j : ℕ). ascending j 0 high s e) (sym more) ∙ g.1)).0

-- what an accepted block says of each field
pub record Listed (high : ℕ) (out : ℕ → Bool) (s : List ℕ) (at m e : ℕ) : Type 0 where
  pub count : ℕ
  pub mid : ℕ
  pub disks : List ℕ
  pub first : number s at ≡ got count mid
  pub some : count ≡ 0 → ⊥
  pub few : count ≤ copies_most
  pub rest : ascending count 0 high s mid ≡ got disks e
  pub some_in : used out disks ≡ true
  pub sum : mask_of disks ≡ m

pub block_got : (high : ℕ) (out : ℕ → Bool) (s : List ℕ) (at m e : ℕ) → block high out s at ≡ got m e → Listed high out s at m e
unfolding block
block_got high out s at m e h =
    let f : Step (between 1 copies_most 7 6 s at) (λ k j. (ascending k 0 high >>= chosen out) s j) m e =
    bind_got (between 1 copies_most 7 6) s at m e (λ k. ascending k 0 high >>= chosen out) h in
    let w = between_within 1 copies_most 7 6 s at f.first in
    let j : Step (ascending f.found 0 high s f.mid) (λ ds k. chosen out ds s k) m e =
    bind_got (ascending f.found 0 high) s f.mid m e (chosen out) f.last in
    let g = passed _ _ _ s j.mid m e (sym (at_here _ s j.mid) ∙ j.last) in
    let p : (mask_of j.found ≡ m) × (j.mid ≡ e) = pure_got (mask_of j.found) m s j.mid e g.1 in
    record {
      count = f.found;
      mid = f.mid;
      disks = j.found;
      first = w.0;
      some = λ z. omega (arith, w.1);
      few = w.2;
      rest = j.first ∙ ap (got j.found) p.1;
      some_in = g.0;
      sum = p.0;
    }

-- ---- the fields before the blocks

module _ (unit t n : ℕ) (s : List ℕ) where
  pub opening_stops : {m : Note} → opened kinds unit t s 0 ≡ refused m → opening unit t n s 0 ≡ refused m
  unfolding opening
  opening_stops h = stops (opened kinds unit t) _ s 0 h

  module _ {k e : ℕ} (h : opened kinds unit t s 0 ≡ got k e) where
    pub opening_unset : n ≡ 0 → opening unit t n s 0 ≡ refused (note 10 e)
    unfolding opening
    opening_unset z = next (opened kinds unit t) _ s 0 h ∙ at_here _ s e ∙ fail (note 10 e) _ s e (le-ltb 0 n (omega arith))

    pub opening_known : (n ≡ 0 → ⊥) → opening unit t n s 0 ≡ got k e
    unfolding opening pure
    opening_known z = next (opened kinds unit t) _ s 0 h ∙ at_here _ s e ∙ pass (note 10 e) _ s e (lt-ltb 0 n (omega arith))

module _ (k : ℕ) (s : List ℕ) (at : ℕ) where
  pub age_four : k ≡ 4 → age k s at ≡ number s at
  unfolding age
  age_four z = ap (λ (p : Parser ℕ). p s at) (pick_true number (pure 0) (eq-eqb k 4 z))

  pub age_none : (k ≡ 4 → ⊥) → age k s at ≡ got 0 at
  unfolding age pure
  age_none z = ap (λ (p : Parser ℕ). p s at) (pick_false number (pure 0) (ne_eqb k 4 z))

module _ (unit t n : ℕ) (s : List ℕ) where
  pub heading_stops : {m : Note} → opening unit t n s 0 ≡ refused m → heading unit t n s 0 ≡ refused m
  unfolding heading
  heading_stops h = stops (opening unit t n) _ s 0 h

  module _ {k i : ℕ} (h : opening unit t n s 0 ≡ got k i) where
    pub heading_age : {m : Note} → age k s i ≡ refused m → heading unit t n s 0 ≡ refused m
    unfolding heading
    heading_age g = next (opening unit t n) _ s 0 h ∙ stops (age k) _ s i g

    module _ {a j : ℕ} (g : age k s i ≡ got a j) where
      pub heading_count : {m : Note} → inside 0 blocks_most 6 s j ≡ refused m → heading unit t n s 0 ≡ refused m
      unfolding heading
      heading_count c = next (opening unit t n) _ s 0 h ∙ next (age k) _ s i g ∙ stops (inside 0 blocks_most 6) _ s j c

      pub heading_of : {q e : ℕ} → inside 0 blocks_most 6 s j ≡ got q e
          → heading unit t n s 0 ≡ got (record { kind = k; age = a; blocks = q }) e
      unfolding heading pure
      heading_of c = next (opening unit t n) _ s 0 h ∙ next (age k) _ s i g ∙ next (inside 0 blocks_most 6) _ s j c

-- what an accepted heading says of each part: the age stands at `mid`, Q at `next`
pub record Headed (unit t n : ℕ) (s : List ℕ) (at : ℕ) (h : Head) (e : ℕ) : Type 0 where
  pub mid : ℕ
  pub next : ℕ
  pub first : opened kinds unit t s at ≡ got h.kind mid
  pub known : ltb 0 n ≡ true
  pub aged : age h.kind s mid ≡ got h.age next
  pub last : inside 0 blocks_most 6 s next ≡ got h.blocks e

record Opened (unit t n : ℕ) (s : List ℕ) (at k e : ℕ) : Type 0 where
  first : opened kinds unit t s at ≡ got k e
  known : ltb 0 n ≡ true

opening_got : (unit t n : ℕ) (s : List ℕ) (at k e : ℕ) → opening unit t n s at ≡ got k e → Opened unit t n s at k e
unfolding opening
opening_got unit t n s at k e h =
    let due : ℕ → Parser ℕ = λ k. here >>= λ at. require (ltb 0 n) (note 10 at) >> pure k in
    let f : Step (opened kinds unit t s at) (λ k m. due k s m) k e = bind_got (opened kinds unit t) s at k e due h in
    let g : (ltb 0 n ≡ true) × (pure f.found s f.mid ≡ got k e) =
    passed (ltb 0 n) (note 10 f.mid) (pure f.found) s f.mid k e (sym (at_here _ s f.mid) ∙ f.last) in
    let p : (f.found ≡ k) × (f.mid ≡ e) = pure_got f.found k s f.mid e g.1 in
    record { first = f.first ∙ ap (λ (x : ℕ). got x f.mid) p.0 ∙ ap (got k) p.1; known = g.0 }

pub heading_got : (unit t n : ℕ) (s : List ℕ) (at : ℕ) (h : Head) (e : ℕ) → heading unit t n s at ≡ got h e → Headed unit t n s at h e
unfolding heading
heading_got unit t n s at h e w =
    let made : ℕ → ℕ → ℕ → Parser Head = λ k a q. pure (record { kind = k; age = a; blocks = q }) in
    let count : ℕ → ℕ → Parser Head = λ k a. inside 0 blocks_most 6 >>= made k a in
    let f = bind_got (opening unit t n) s at h e (λ k. age k >>= count k) w in
    let o : Opened unit t n s at f.found f.mid = opening_got unit t n s at f.found f.mid f.first in
    let g = bind_got (age f.found) s f.mid h e (count f.found) f.last in
    let c = bind_got (inside 0 blocks_most 6) s g.mid h e (made f.found g.found) g.last in
    let p = pure_got _ h s c.mid e c.last in
    subst (λ (x : Head). Headed unit t n s at x e) p.0 (record {
      mid = f.mid;
      next = g.mid;
      first = o.first;
      known = o.known;
      aged = g.first;
      last = c.first ∙ ap (got c.found) p.1;
    })

-- Q is in its range
pub heading_within : (unit t n : ℕ) (s : List ℕ) (at : ℕ) {h : Head} {e : ℕ} → heading unit t n s at ≡ got h e → h.blocks ≤ blocks_most
heading_within unit t n s at {h} {e} w =
    let g : Headed unit t n s at h e = heading_got unit t n s at h e w in (between_range 0 blocks_most 6 6 s g.next g.last).1

-- ---- the blocks

-- the first i blocks are read: their copies stand in the first i of Q places
pub record Filling (q high : ℕ) (out : ℕ → Bool) (s : List ℕ) (at : ℕ) (copies : List ℕ) (p i : ℕ) : Type 0 where
  pub within : i ≤ q
  pub long : length copies ≡ q
  pub held : times q (block high out) s at ≡ prefix (take i copies) (times (q - i) (block high out) s p)

module _ (q high : ℕ) (out : ℕ → Bool) (s : List ℕ) (at : ℕ) where
  pub filling_start : (copies : List ℕ) → length copies ≡ q → Filling q high out s at copies at 0
  filling_start copies e = record { within = omega arith; long = e; held = times_start (block high out) s q at }

  pub filling_step : (copies : List ℕ) (p i : ℕ) → Filling q high out s at copies p i → {m e : ℕ} → i < q
      → block high out s p ≡ got m e → Filling q high out s at (set copies i m) e (i + 1)
  filling_step copies p i f {m} {e} l h =
      let room : i < length copies = omega (arith, f.long) in
      record {
        within = omega arith;
        long = length-set copies i m ∙ f.long;
        held = f.held ∙ times_step (block high out) s q i p (take i copies) l h
            ∙ ap (λ (x : List ℕ). prefix x (times (q - (i + 1)) (block high out) s e)) (sym (take_more_set copies i m room));
      }

-- what a request of these values says
abbrev pub said : ℕ → ℕ → List ℕ → Said
said k a ms = record { kind = k; age = a; copies = ms }

module _ (h : Head) (high : ℕ) (out : ℕ → Bool) (s : List ℕ) (at : ℕ) where
  body_of : {ms : List ℕ} {e : ℕ} → times h.blocks (block high out) s at ≡ got ms e
      → body h high out s at ≡ got (said h.kind h.age ms) e
  unfolding body pure
  body_of w = next (times h.blocks (block high out)) _ s at w

  body_stops : {n : Note} → times h.blocks (block high out) s at ≡ refused n → whole (body h high out) s at ≡ refused n
  unfolding body
  body_stops w = whole_refused (body h high out) s at (stops (times h.blocks (block high out)) _ s at w)

  module _ (copies : List ℕ) (p i : ℕ) (f : Filling h.blocks high out s at copies p i) where
    pub filling_stop : {n : Note} → i < h.blocks → block high out s p ≡ refused n → whole (body h high out) s at ≡ refused n
    filling_stop l w = body_stops (f.held ∙ times_stop (block high out) s h.blocks i p (take i copies) l w)

    all_read : h.blocks ≤ i → body h high out s at ≡ got (said h.kind h.age copies) p
    all_read l =
        let e : i ≡ length copies = omega (arith, f.within, f.long) in
        body_of (f.held ∙ times_done (block high out) s h.blocks i p (take i copies) l
        ∙ ap (λ (x : List ℕ). got x p) (ap (λ (k : ℕ). take k copies) e ∙ take-length copies))

    pub filling_extra : {n : Note} → h.blocks ≤ i → end s p ≡ refused n → whole (body h high out) s at ≡ refused n
    unfolding whole
    filling_extra l w = next (body h high out) _ s at (all_read l) ∙ halts end _ s p w

    -- what is handed out: 0 from Q on
    pub filling_done : {v e : ℕ} → h.blocks ≤ i → end s p ≡ got v e
        → got (record { blocks = h.blocks; kind = h.kind; age = h.age; copies = copies ++ drop h.blocks (replicate blocks_most 0) })
        (length s) ≡ handed (whole (body h high out) s at)
    unfolding whole pure pad_to
    filling_done {v} {e} l w =
        let o : whole (body h high out) s at ≡ got (said h.kind h.age copies) e =
        next (body h high out) _ s at (all_read l) ∙ then end _ s p w in
        let made : ℕ → List ℕ → Out Request =
        λ k c. got (record { blocks = k; kind = h.kind; age = h.age; copies = copies ++ c }) (length s) in
        ap₂ made (sym f.long) (drop-replicate h.blocks blocks_most 0 ∙ ap (λ (k : ℕ). replicate (blocks_most - k) 0) (sym f.long))
        ∙ ap (got (request_of (said h.kind h.age copies))) (sym (end_place s p v e w)) ∙ sym (ap handed o)

-- ---- the whole sheet

-- a refusal that is handed on is told
pub told_stopped : (len : ℕ) (o : Out Said) {r : Result Request Fault} {f : Fault} → r ≡ Err f → o ≡ refused (note_of f) → Told len o r
told_stopped len o q h = ap (told_by (λ x. got x len)) q ∙ sym (ap handed h)

module _ (unit t n : ℕ) (out : ℕ → Bool) (s : List ℕ) where
  pub sheet_next : {h : Head} {e : ℕ} → heading unit t n s 0 ≡ got h e
      → request_sheet unit t n out s 0 ≡ whole (body h (last_disk n) out) s e
  unfolding request_sheet
  sheet_next w = whole_next (heading unit t n) (λ h. body h (last_disk n) out) s 0 w

  pub sheet_stops : {m : Note} → heading unit t n s 0 ≡ refused m → request_sheet unit t n out s 0 ≡ refused m
  unfolding request_sheet
  sheet_stops w = whole_stops (heading unit t n) (λ h. body h (last_disk n) out) s 0 w

-- what an accepted sheet says of its two parts
pub record Whole (unit t n : ℕ) (out : ℕ → Bool) (s : List ℕ) (r : Said) (e : ℕ) : Type 0 where
  pub count : ℕ
  pub mid : ℕ
  pub headed : Headed unit t n s 0 (record { kind = r.kind; age = r.age; blocks = count }) mid
  pub small : count ≤ blocks_most
  pub rest : times count (block (last_disk n) out) s mid ≡ got r.copies e
  pub ends : e ≡ length s

pub sheet_got : (unit t n : ℕ) (out : ℕ → Bool) (s : List ℕ) (r : Said) (e : ℕ) → request_sheet unit t n out s 0 ≡ got r e
    → Whole unit t n out s r e
unfolding request_sheet body
sheet_got unit t n out s r e h =
    let w = whole_got (heading unit t n >>= λ h. body h (last_disk n) out) s r e h in
    let f = bind_got (heading unit t n) s 0 r e (λ h. body h (last_disk n) out) w.0 in
    let made : List ℕ → Said = λ ms. said f.found.kind f.found.age ms in
    let g = bind_got (times f.found.blocks (block (last_disk n) out)) s f.mid r e (λ ms. pure (made ms)) f.last in
    let p : (made g.found ≡ r) × (g.mid ≡ e) = pure_got (made g.found) r s g.mid e g.last in
    subst (λ (x : Said). Whole unit t n out s x e) p.0 (record {
      count = f.found.blocks;
      mid = f.mid;
      headed = heading_got unit t n s 0 f.found f.mid f.first;
      small = heading_within unit t n s 0 f.first;
      rest = g.first ∙ ap (got g.found) p.1;
      ends = w.1;
    })
