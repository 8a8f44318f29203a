-- Laws of writing a request.
--     disks_in, disks_out, disks_length, disks_count    one place more of a number of copies; its bytes, and how many disks it has
--     block_length, block_put                           the bytes of a block
--     Left, left_all, left_small, left_next, left_none  the disks of a block, as a loop
--     known_in, known_out                               a number of copies has no disk at N or above, or it has one
--     Counting                                          so many blocks can be sent, and their bytes are counted
--     counting_start, counting_step, counting_done, counting_none, counting_many, counting_high     as a loop
--     HeadingFits, headed_all, headed_pass              what is known of the fields before the blocks, where they can be sent
--     headed_kind, headed_tenancy, headed_age, headed_unset, headed_large, headed_long     why they can't, in field order
--     Sendable, checked_all, checked_pass               what is known of the copies of a block that can be sent
--     Drafted, drafted, draft_of_law                        a draft that is a sheet: what is known of its values
--     draft_elim                                        what holds of each refusal and of the sheet holds of the draft
--     judged_got                                        what was judged of the fields before the blocks
--     heading_length, blocks_bound, request_length      the lengths
--     request_sent                                      a request that was put
use mathlib.Core.Path.{◌≡◌, refl, sym, ap, ◌∙◌, subst}
use mathlib.Core.Bool.{true, false, not, ◌&&◌, Bool, true≢false, and-true, and-false}
use mathlib.Core.List.{List, [], ◌∷◌, ◌++◌, append-nil}
use Prim.Native.Nat.{ℕ, zero, suc, ◌+◌, ◌^◌, ◌≤◌, ◌<◌, ◌*◌}
use native.Mathlib.Omega.{arith}
use lib.Dec.{eqb, ltb, leb}
use lib.ListN.{length, get_or, length-append, drop}
use lib.Seq.{drop-cons, drop-length}
use Rattle.number.specs.Encode.{encode, width_of}
use Rattle.basics.proofs.Choice.{pick_true, pick_false, pick_elim}
use Rattle.basics.proofs.Tests.{by_cases}
use Rattle.number.proofs.Encode.{width_one}
use Rattle.mask.specs.Has.{has}
use Rattle.mask.specs.Count.{members}
use Rattle.basics.specs.Count.{bit, sum, count}
use Rattle.basics.proofs.Count.{count_most}
use Rattle.field.specs.declared.Pen.{Pen}
use Rattle.field.specs.Pen.{Puts, Lays}
use Rattle.field.specs.Put.{spell_all, opening_bytes}
use Rattle.field.proofs.Pens.{lays_none, lays_one, lays_join, lays_same, lays_sent}
use Rattle.field.proofs.Spell.{spell_append}
use Rattle.mask.specs.Disks.{disks_below, disks_of}
use Rattle.mask.proofs.Listed.{disks_small, each_first}
use Rattle.request.specs.Draft.{block_bytes, age_bytes, heading_bytes, request_bytes, aged, headed, checked, request_draft}
use Rattle.request.specs.Judged.{Judged}
use Rattle.request.specs.Request.{kinds}
use borrow.Author.Tests.{eq-eqb, ne_eqb, lt-ltb, le-ltb, le-leb, lt-leb, ltb-true, ltb-false, eqb-false, leb-false}
use Rattle.mask.specs.Member.{Below}
use Rattle.mask.proofs.Has.{has_zero, has_above, has_bound, mask_some}
use Rattle.field.specs.Send.{Draft, none, sheet, Sent}
use Rattle.field.specs.Sheet.{Note, unplaced}
use Rattle.request.specs.Parts.{Counted}
use Rattle.basics.specs.Choice.{pick}
use Rattle.field.specs.declared.Fault.{Fault}
use Rattle.std.specs.Prelude.{Result, Ok, Err}
use Rattle.field.specs.Refusal.{note_of}
use Rattle.basics.specs.Lists.{All, listed}
use Rattle.field.proofs.Known.{Own, own_three, own_six, own_seven, own_fifteen, own_sixteen}
use Rattle.field.proofs.Sends.{sent_refused}
use Rattle.field.proofs.Opened.{opening_length}
use Rattle.basics.specs.Limits.{disks_most, blocks_most, copies_most}

-- ---- the disks of a block

module _ (m : ℕ) where
  pub disks_in : (d : ℕ) → has m d ≡ true → spell_all encode (disks_below (suc d) m) ≡ spell_all encode (disks_below d m) ++ encode d
  unfolding disks_below spell_all
  disks_in d h =
      ap (λ (x : List ℕ). spell_all encode (disks_below d m ++ x)) (pick_true (d ∷ []) [] h)
      ∙ spell_append encode (disks_below d m) (d ∷ [])
      ∙ ap (λ (x : List ℕ). spell_all encode (disks_below d m) ++ x) (append-nil (encode d))

  pub disks_out : (d : ℕ) → has m d ≡ false → spell_all encode (disks_below (suc d) m) ≡ spell_all encode (disks_below d m)
  unfolding disks_below
  disks_out d h =
      ap (λ (x : List ℕ). spell_all encode (disks_below d m ++ x)) (pick_false (d ∷ []) [] h)
      ∙ ap (spell_all encode) (append-nil (disks_below d m))

  -- each disk below 128 is one byte
  pub disks_length : (n : ℕ) → n ≤ 128 → length (spell_all encode (disks_below n m)) ≡ members n m
  unfolding count sum bit disks_below spell_all width_of
  disks_length zero h = refl
  disks_length (suc d) h =
      by_cases (has m d)
      (λ t. omega (
        arith,
        ap length (disks_in d t),
        length-append (spell_all encode (disks_below d m)) (encode d),
        width_one d (omega arith),
        disks_length d (omega arith),
        ap bit t,
      ))
      (λ f. omega (arith, ap length (disks_out d f), disks_length d (omega arith), ap bit f))

  pub disks_count : (n : ℕ) → length (disks_below n m) ≡ members n m
  unfolding count sum bit disks_below
  disks_count zero = refl
  disks_count (suc d) =
      by_cases (has m d)
      (λ t. omega (
        arith,
        ap (λ (x : List ℕ). length (disks_below d m ++ x)) (pick_true (d ∷ []) [] t),
        length-append (disks_below d m) (d ∷ []),
        disks_count d,
        ap bit t,
      ))
      (λ f. omega (
        arith,
        ap (λ (x : List ℕ). length (disks_below d m ++ x)) (pick_false (d ∷ []) [] f),
        length-append (disks_below d m) [],
        disks_count d,
        ap bit f,
      ))

  -- ---- a block

  pub block_length : length (block_bytes m) ≡ 1 + members disks_most m
  unfolding block_bytes disks_of width_of
  block_length =
      omega (
        arith,
        length-append (encode (length (disks_below disks_most m))) (spell_all encode (disks_below disks_most m)),
        width_one (length (disks_below disks_most m)) (omega (arith, disks_count disks_most, count_most disks_most (has m))),
        disks_length disks_most (omega arith),
      )

  -- the copy count, and the disks behind it
  pub block_put : {k : ℕ} {pen mid last : Pen} → k ≡ members disks_most m → Puts k pen mid
      → Lays (spell_all encode (disks_of m)) mid last → Lays (block_bytes m) pen last
  unfolding block_bytes disks_of
  block_put {pen = pen} {mid = mid} e f w =
      lays_join (subst (λ (k : ℕ). Lays (encode k) pen mid) (e ∙ sym (disks_count disks_most)) (lays_one f)) w

-- ---- disk after disk

-- ds are left to be put: once they are, a pen has put the disks of m
pub record Left (m : ℕ) (ds : List ℕ) (pen mid : Pen) : Type 0 where
  pub small : All (λ d. d < disks_most) ds
  pub whole : {last : Pen} → Lays (spell_all encode ds) mid last → Lays (spell_all encode (disks_of m)) pen last

pub left_all : (m : ℕ) (pen : Pen) → Left m (disks_of m) pen pen
left_all m pen = record { small = disks_small m; whole = λ w. w }

module _ {m : ℕ} {ds : List ℕ} {pen mid : Pen} (left : Left m ds pen mid) where
  pub left_small : {d : ℕ} {rest : List ℕ} → ds ≡ d ∷ rest → d < disks_most
  left_small e = (each_first _ e left.small).0

  -- the first of them is put
  pub left_next : {d : ℕ} {rest : List ℕ} {next : Pen} → ds ≡ d ∷ rest → Puts d mid next → Left m rest pen next
  unfolding spell_all
  left_next e put = record {
    small = (each_first _ e left.small).1;
    whole = λ w. left.whole (lays_same (sym (ap (spell_all encode) e)) (lays_join (lays_one put) w));
  }

  pub left_none : ds ≡ [] → Lays (spell_all encode (disks_of m)) pen mid
  unfolding spell_all
  left_none e = left.whole (lays_same (sym (ap (spell_all encode) e)) (lays_none mid))

-- ---- disks at N or above

module _ (n m known rest : ℕ) (l : n ≤ disks_most) (b : Below n known) (h : m < 2 ^ 64)
    (w : (e : ℕ) → has rest e ≡ (has m e && not (has known e))) where
  beyond : (e : ℕ) → n ≤ e → has rest e ≡ has m e
  beyond e g = w e ∙ ap (λ (t : Bool). has m e && not t) (b.holds l e ∙ le-ltb e n g) ∙ and-true (has m e)

  pub known_in : rest ≡ 0 → m < 2 ^ n
  known_in z = has_bound disks_most n m h (λ d g. sym (beyond d g) ∙ ap (λ (x : ℕ). has x d) z ∙ has_zero d)

  pub known_out : rest < 2 ^ 64 → (rest ≡ 0 → ⊥) → 2 ^ n ≤ m
  known_out r z =
      by_cases (ltb m (2 ^ n))
      (λ t.
      let s : (d : ℕ) × (d < disks_most) × (has rest d ≡ true) = mask_some disks_most rest r (omega arith) in
      let under : m < 2 ^ n = ltb-true m (2 ^ n) t in
      by_cases (ltb s.0 n)
      (λ g. absurd (true≢false (sym s.2 ∙ w s.0 ∙ ap (λ (t : Bool). has m s.0 && not t) (b.holds l s.0 ∙ g)
      ∙ and-false (has m s.0))))
      (λ g. absurd (true≢false (sym s.2 ∙ beyond s.0 (ltb-false s.0 n g) ∙ has_above n under (ltb-false s.0 n g)))))
      (λ f. ltb-false m (2 ^ n) f)

-- ---- block by block

pub record Counting (n : ℕ) (ms : List ℕ) (total i : ℕ) : Type 0 where
  pub within : i ≤ length ms
  pub small : total ≤ (1 + copies_most) * i
  pub sum : total + length (spell_all block_bytes (drop i ms)) ≡ length (spell_all block_bytes ms)
  pub same : (d : Draft) → checked n ms d ≡ checked n (drop i ms) d

pub counting_start : (n : ℕ) (ms : List ℕ) → Counting n ms 0 0
counting_start n ms = record { within = omega arith; small = omega arith; sum = omega arith; same = λ d. refl }

module _ (n : ℕ) (ms : List ℕ) (total i : ℕ) (c : Counting n ms total i) where
  pub counting_done : length ms ≤ blocks_most → length ms ≤ i → Counted ms total × ((d : Draft) → checked n ms d ≡ d)
  unfolding spell_all checked
  counting_done b h =
      let e : i ≡ length ms = omega (arith, c.within) in
      let z : drop i ms ≡ [] = ap (λ (k : ℕ). drop k ms) e ∙ drop-length ms in (
        record {
          count = b;
          bytes = omega (arith, c.sum, ap (λ (x : List ℕ). length (spell_all block_bytes x)) z);
          small =
              omega (arith, c.small, e);
        },
        λ d. c.same d ∙ ap (λ (x : List ℕ). checked n x d) z,
      )

  module _ (l : i < length ms) (m : ℕ) (q : m ≡ get_or ms i 0) where
    here : drop i ms ≡ m ∷ drop (suc i) ms
    here = drop-cons ms i 0 l ∙ ap (λ (k : ℕ). k ∷ drop (suc i) ms) (sym q)

    at_block : (d : Draft) → checked n ms d ≡ checked n (m ∷ drop (suc i) ms) d
    at_block d = c.same d ∙ ap (λ (x : List ℕ). checked n x d) here

    pub counting_none : m ≡ 0 → (d : Draft) → checked n ms d ≡ none (unplaced 7)
    unfolding checked
    counting_none z d = at_block d ∙ pick_true _ _ (eq-eqb m 0 z)

    module _ (some : m ≡ 0 → ⊥) where
      pub counting_many : copies_most < members disks_most m → (d : Draft) → checked n ms d ≡ none (unplaced 6)
      unfolding checked
      counting_many k d = at_block d ∙ pick_false _ _ (ne_eqb m 0 some) ∙ pick_true _ _ (lt-ltb copies_most (members disks_most m) k)

      module _ (few : members disks_most m ≤ copies_most) where
        pub counting_high : 2 ^ n ≤ m → (d : Draft) → checked n ms d ≡ none (unplaced 16)
        unfolding checked
        counting_high g d = at_block d ∙ pick_false _ _ (ne_eqb m 0 some) ∙ pick_false _ _ (le-ltb copies_most (members disks_most m) few)
            ∙ pick_true _ _ (le-leb (2 ^ n) m g)

        pub counting_step : (k : ℕ) → k ≡ members disks_most m → m < 2 ^ n → Counting n ms (total + (1 + k)) (i + 1)
        unfolding checked spell_all
        counting_step k r g =
            let e : drop (suc i) ms ≡ drop (i + 1) ms = ap (λ (k : ℕ). drop k ms) {x = suc i} {y = i + 1} (omega arith) in
            record {
              within = omega arith;
              small = omega (arith, c.small, r);
              sum = omega (
                arith,
                c.sum,
                r,
                ap (λ (x : List ℕ). length (spell_all block_bytes x)) here,
                length-append (block_bytes m) (spell_all block_bytes (drop (suc i) ms)),
                block_length m,
                ap (λ (x : List ℕ). length (spell_all block_bytes x)) e,
              );
              same = λ d. at_block d ∙ pick_false _ _ (ne_eqb m 0 some) ∙ pick_false _ _ (le-ltb copies_most (members disks_most m) few)
                  ∙ pick_false _ _ (lt-leb (2 ^ n) m g)
                  ∙ ap (λ (x : List ℕ). checked n x d) e;
            }

-- ---- in field order

-- fields before the blocks that can be sent
pub record HeadingFits (k t a n q : ℕ) : Type 0 where
  pub kind : listed kinds k ≡ true
  pub rented : t ≡ 0 → ⊥
  pub aged : aged k a ≡ true
  pub known : n ≡ 0 → ⊥
  pub within : n ≤ disks_most
  pub count : q ≤ blocks_most

module _ (k t a n q : ℕ) (d : Draft) where
  pub headed_kind : listed kinds k ≡ false → headed k t a n q d ≡ none (unplaced 3)
  unfolding headed
  headed_kind f = pick_false _ _ f

  module _ (kind : listed kinds k ≡ true) where
    pub headed_tenancy : t ≡ 0 → headed k t a n q d ≡ none (unplaced 6)
    unfolding headed
    headed_tenancy z = pick_true _ _ kind ∙ pick_true _ _ (eq-eqb t 0 z)

    module _ (rented : t ≡ 0 → ⊥) where
      pub headed_age : aged k a ≡ false → headed k t a n q d ≡ none (unplaced 15)
      unfolding headed
      headed_age f = pick_true _ _ kind ∙ pick_false _ _ (ne_eqb t 0 rented) ∙ pick_false _ _ f

      module _ (young : aged k a ≡ true) where
        -- N and Q are judged last
        counts : headed k t a n q d
            ≡ pick (eqb n 0) (none (unplaced 6))
            (pick (ltb disks_most n) (none (unplaced 6)) (pick (ltb blocks_most q) (none (unplaced 6)) d))
        unfolding headed
        counts = pick_true _ _ kind ∙ pick_false _ _ (ne_eqb t 0 rented) ∙ pick_true _ _ young

        pub headed_unset : n ≡ 0 → headed k t a n q d ≡ none (unplaced 6)
        headed_unset z = counts ∙ pick_true _ _ (eq-eqb n 0 z)

        module _ (known : n ≡ 0 → ⊥) where
          pub headed_large : disks_most < n → headed k t a n q d ≡ none (unplaced 6)
          headed_large l = counts ∙ pick_false _ _ (ne_eqb n 0 known) ∙ pick_true _ _ (lt-ltb disks_most n l)

          module _ (few : n ≤ disks_most) where
            pub headed_long : blocks_most < q → headed k t a n q d ≡ none (unplaced 6)
            headed_long l =
                counts ∙ pick_false _ _ (ne_eqb n 0 known) ∙ pick_false _ _ (le-ltb disks_most n few)
                ∙ pick_true _ _ (lt-ltb blocks_most q l)

  pub headed_pass : HeadingFits k t a n q → headed k t a n q d ≡ d
  headed_pass h =
      counts h.kind h.rented h.aged ∙ pick_false _ _ (ne_eqb n 0 h.known) ∙ pick_false _ _ (le-ltb disks_most n h.within)
      ∙ pick_false _ _ (le-ltb blocks_most q h.count)

-- a refusal at no place, as it is told
pub none_as : {f g : Fault} → f ≡ g → none (note_of g) ≡ none (note_of f)
none_as e = ap (λ f. none (note_of f)) (sym e)

-- another name of a draft
pub sent_as : {d e : Draft} {out : List ℕ} {r : Result ℕ Fault} {after : List ℕ} → d ≡ e → Sent e out r after → Sent d out r after
sent_as {d} {e} {out} {r} {after} h s = subst (λ (x : Draft). Sent x out r after) (sym h) s

-- a draft that is none, where the refusal is handed on
pub sent_stops : {d : Draft} {out : List ℕ} {r : Result ℕ Fault} {e : Fault} → r ≡ Err e → d ≡ none (note_of e) → Sent d out r out
sent_stops {out = out} {e = e} q h = sent_as h (rw q (sent_refused e out))

-- ---- block by block

-- copies that can be sent to a unit that has n disks
pub record Sendable (n m : ℕ) : Type 0 where
  pub some : m ≡ 0 → ⊥
  pub few : members disks_most m ≤ copies_most
  pub under : m < 2 ^ n

pub checked_pass : (n : ℕ) (ms : List ℕ) (d : Draft) → All (Sendable n) ms → checked n ms d ≡ d
unfolding checked All
checked_pass n [] d a = refl
checked_pass n (m ∷ ms) d a =
    pick_false _ _ (ne_eqb m 0 a.0.some) ∙ pick_false _ _ (le-ltb copies_most (members disks_most m) a.0.few)
    ∙ pick_false _ _ (lt-leb (2 ^ n) m a.0.under) ∙ checked_pass n ms d a.1

-- a test that refuses did not hold where there is a sheet
passes : (b : Bool) (e : Note) (d : Draft) (bs : List ℕ) → pick b (none e) d ≡ sheet bs → (b ≡ false) × (d ≡ sheet bs)
unfolding pick
passes true e d bs h = absurd (let z : ◌≡◌ {A = ℕ} 0 1 = cc in omega arith)
passes false e d bs h = (refl, h)

pub checked_all : (n : ℕ) (ms : List ℕ) (d : Draft) (bs : List ℕ) → checked n ms d ≡ sheet bs → All (Sendable n) ms × (d ≡ sheet bs)
unfolding checked All
checked_all n [] d bs h = (tt, h)
checked_all n (m ∷ ms) d bs h =
    let f = passes (eqb m 0) _ _ bs h in
    let g = passes (ltb copies_most (members disks_most m)) _ _ bs f.1 in
    let i = passes (leb (2 ^ n) m) _ _ bs g.1 in
    let j : All (Sendable n) ms × (d ≡ sheet bs) = checked_all n ms d bs i.1 in (
      (
        record {
          some = eqb-false m 0 f.0;
          few = ltb-false copies_most (members disks_most m) g.0;
          under =
              leb-false (2 ^ n) m i.0;
        },
        j.0,
      ),
      j.1,
    )

-- the same of the fields before the blocks: there the test that passes goes on
goes : (b : Bool) (e : Note) (d : Draft) (bs : List ℕ) → pick b d (none e) ≡ sheet bs → (b ≡ true) × (d ≡ sheet bs)
unfolding pick
goes true e d bs h = (refl, h)
goes false e d bs h = absurd (let z : ◌≡◌ {A = ℕ} 0 1 = cc in omega arith)

pub headed_all : (k t a n q : ℕ) (d : Draft) (bs : List ℕ) → headed k t a n q d ≡ sheet bs → HeadingFits k t a n q × (d ≡ sheet bs)
unfolding headed
headed_all k t a n q d bs h =
    let kind = goes (listed kinds k) _ _ bs h in
    let rented = passes (eqb t 0) _ _ bs kind.1 in
    let young = goes (aged k a) _ _ bs rented.1 in
    let known = passes (eqb n 0) _ _ bs young.1 in
    let within = passes (ltb disks_most n) _ _ bs known.1 in
    let count = passes (ltb blocks_most q) _ _ bs within.1 in (
      record {
        kind = kind.0;
        rented = eqb-false t 0 rented.0;
        aged = young.0;
        known = eqb-false n 0 known.0;
        within = ltb-false disks_most n within.0;
        count = ltb-false blocks_most q count.0;
      },
      count.1,
    )

-- a draft that is a sheet: what is known of its values
pub record Drafted (k unit t a n : ℕ) (ms bs : List ℕ) : Type 0 where
  pub head : HeadingFits k t a n (length ms)
  pub blocks : All (Sendable n) ms
  pub bytes : bs ≡ request_bytes k unit t a ms

module _ (k unit t a n : ℕ) (ms bs : List ℕ) where
  pub drafted : request_draft k unit t a n ms ≡ sheet bs → Drafted k unit t a n ms bs
  unfolding request_draft
  drafted h =
      let f = headed_all k t a n (length ms) _ bs h in
      let g : All (Sendable n) ms × (sheet (request_bytes k unit t a ms) ≡ sheet bs) = checked_all n ms _ bs f.1 in
      let e : sheet (request_bytes k unit t a ms) ≡ sheet bs = g.1 in
      record { head = f.0; blocks = g.0; bytes = sym (cc) }

  -- and such values make that sheet
  pub draft_of_law : Drafted k unit t a n ms bs → request_draft k unit t a n ms ≡ sheet bs
  unfolding request_draft
  draft_of_law d = headed_pass k t a n (length ms) _ d.head ∙ checked_pass n ms _ d.blocks ∙ ap sheet (sym d.bytes)

-- ---- why there is no sheet

-- what holds of each refusal of the table but 11, at no place, and of the sheet, holds of the draft
module _ (P : Draft → Type 0) (refused : (m : ℕ) → Own m → P (none (unplaced m))) where
  checked_elim : (n : ℕ) (ms : List ℕ) (d : Draft) → P d → P (checked n ms d)
  unfolding checked
  checked_elim n [] d h = h
  checked_elim n (m ∷ ms) d h =
      pick_elim P _ _ _ (λ _. refused 7 own_seven)
      (λ _. pick_elim P _ _ _ (λ _. refused 6 own_six)
      (λ _. pick_elim P _ _ _ (λ _. refused 16 own_sixteen) (λ _. checked_elim n ms d h)))

  headed_elim : (k t a n q : ℕ) (d : Draft) → P d → P (headed k t a n q d)
  unfolding headed
  headed_elim k t a n q d h =
      let six : P (none (unplaced 6)) = refused 6 own_six in
      pick_elim P _ _ _
      (λ _. pick_elim P _ _ _ (λ _. six)
      (λ _. pick_elim P _ _ _
      (λ _. pick_elim P _ _ _ (λ _. six) (λ _. pick_elim P _ _ _ (λ _. six) (λ _. pick_elim P _ _ _ (λ _. six) (λ _. h))))
      (λ _. refused 15 own_fifteen)))
      (λ _. refused 3 own_three)

  pub draft_elim : (k unit t a n : ℕ) (ms : List ℕ) → P (sheet (request_bytes k unit t a ms)) → P (request_draft k unit t a n ms)
  unfolding request_draft
  draft_elim k unit t a n ms h = headed_elim k t a n (length ms) _ (checked_elim n ms _ h)

-- ---- what was judged

-- whatever follows the fields: so also where it is a sheet
pub judged_got : (k t a n q : ℕ) → Judged k t a n q (Ok tt) → HeadingFits k t a n q
judged_got k t a n q all = (headed_all k t a n q (sheet []) [] (all (sheet []))).0

-- ---- the lengths

-- every kind is one byte
pub heading_length : (k unit t a q : ℕ) → k < 128
    → length (heading_bytes k unit t a q) ≡ 1 + width_of unit + width_of t + length (age_bytes k a) + width_of q
unfolding heading_bytes width_of
heading_length k unit t a q h =
    omega (
      arith,
      length-append (opening_bytes k unit t) (age_bytes k a ++ encode q),
      length-append (age_bytes k a) (encode q),
      opening_length k unit t,
      width_one k h,
    )

pub blocks_bound : (n : ℕ) (ms : List ℕ) → All (Sendable n) ms → length (spell_all block_bytes ms) ≤ (1 + copies_most) * length ms
unfolding spell_all All
blocks_bound n [] a = omega arith
blocks_bound n (m ∷ ms) a =
    omega (arith, length-append (block_bytes m) (spell_all block_bytes ms), block_length m, a.0.few, blocks_bound n ms a.1)

-- ---- room for all of it

-- the length as the writer adds it up
pub request_length : (k unit t a q : ℕ) (ms : List ℕ) {w n : ℕ} → q ≡ length ms → w ≡ length (heading_bytes k unit t a q) → Counted ms n
    → length (request_bytes k unit t a ms) ≡ w + n
unfolding request_bytes
request_length k unit t a q ms s e c =
    omega (
      arith,
      e,
      ap (λ (x : ℕ). length (heading_bytes k unit t a x)) s,
      c.bytes,
      length-append (heading_bytes k unit t a (length ms)) (spell_all block_bytes ms),
    )

-- heading and blocks, from the buffer's start on
pub request_sent : (k unit t a q : ℕ) (ms : List ℕ) {pen mid last : Pen} {after : List ℕ} → q ≡ length ms
    → length (request_bytes k unit t a ms) ≤ length pen.out.now → Lays (heading_bytes k unit t a q) pen mid
    → Lays (spell_all block_bytes ms) mid last → pen.at ≡ 0 → (pen.out.ghost_name ≡ last.out.ghost_name → after ≡ last.out.now)
    → Sent (sheet (request_bytes k unit t a ms)) pen.out.now (Ok last.at) after
unfolding request_bytes
request_sent k unit t a q ms {pen} {mid} s room h b z e =
    lays_sent (lays_join (subst (λ (x : ℕ). Lays (heading_bytes k unit t a x) pen mid) s h) b) z room e
