-- Laws of reading a plan sheet.
--     any_none, any_some, any_most                 a bound that is 0 for no blocks
--     filled_more, filled_stop, filled_all         a list read entry by entry into the start of a buffer
--     ended_got, ended_refused                     what the place after a list says of the list
--     checked_refused                              a sheet that is refused
--     lists_disks, lists_size, lists_short, lists_end, lists_done     the disks, the size of the short set, its blocks, the end
--     check_opening, check_blocks, check_time, check_lists        the fields before them
--     received_refused, few_disks, few_members, received          the ways in which reading ends
--     again_disks, again_short                     a list that was read once is not refused when it is read again
--     found_whole                                  what was found of the sheet, for the answer
use mathlib.Core.Path.{◌≡◌, refl, sym, ap, ◌∙◌, subst}
use mathlib.Core.List.{List, [], ◌∷◌, ◌++◌}
use Prim.Native.Nat.{ℕ, zero, suc, ◌≤◌, ◌+◌, ◌<◌, ◌-◌}
use native.Mathlib.Omega.{arith}
use lib.ListN.{length, take, drop, set}
use lib.Seq.{take_all}
use Rattle.std.specs.Prelude.{Result, Ok, Err}
use Rattle.std.proofs.lemmas.List.{take_more_set}
use Rattle.basics.specs.Limits.{blocks_most, time_most}
use Rattle.basics.specs.Buffer.{over}
use Rattle.field.specs.declared.Fault.{Fault}
use Rattle.field.specs.declared.Refusal.TheVariants.{NoRoom}
use Rattle.field.specs.Refusal.{fault_at, note_of}
use Rattle.field.specs.Sheet.{Note, note, Out, got, refused, Parser, ◌>>=◌, ◌>>◌, pure, times}
use Rattle.field.specs.Field.{opening, inside, ascending, end, whole}
use Rattle.field.proofs.Lists.{prefix}
use Rattle.field.proofs.Values.{times_all, ascending_rises}
use Rattle.field.proofs.Whole.{whole_as, whole_refused, whole_got}
use Rattle.field.proofs.Sheet.{next, then, stops, halts}
use Rattle.field.proofs.Readers.{refused_as}
use Rattle.field.proofs.Unique.{not_refused}
use Rattle.plan.specs.declared.Frame.{Frame}
use Rattle.plan.specs.declared.Head.{Head}
use Rattle.plan.specs.Plan.{plan_of, if_any, disk, Plan, time_of, size_of, lists_of, plan_fields, plan_sheet}
use Rattle.plan.specs.Parts.{ended, Holds, ReadInto, Checked, Framed}
use Rattle.plan.specs.Receive.{if_room, heads, disks_left, short_left, Received}
use Rattle.plan.proofs.Room.{room_disks, room_short, room_both}

-- ---- a bound that is 0 for no blocks

pub any_none : (q n : ℕ) → q ≡ 0 → ◌≡◌ {A = ℕ} 0 (if_any q n)
unfolding if_any
any_none q n h = rw h

pub any_some : (q n : ℕ) → (q ≡ 0 → ⊥) → n ≡ if_any q n
unfolding if_any
any_some zero n h = absurd (h refl)
any_some (suc q) n h = refl

-- it is no larger
pub any_most : (q n : ℕ) → if_any q n ≤ n
unfolding if_any
any_most zero n = omega arith
any_most (suc q) n = omega arith

-- ---- a list into the start of a buffer, entry by entry

-- the list is what stands in the first i entries, and then what the sheet gives from there on
module _ {list : Out (List ℕ)} (xs : List ℕ) (i : ℕ) (rest : Out (List ℕ)) (w : list ≡ prefix (take i xs) rest) where
  pub filled_more : (v : ℕ) (rest' : Out (List ℕ)) → i < length xs → prefix (take i xs) rest ≡ prefix (take i xs ++ (v ∷ [])) rest'
      → list ≡ prefix (take (i + 1) (set xs i v)) rest'
  filled_more v rest' l h = w ∙ h ∙ ap (λ (x : List ℕ). prefix x rest') (sym (take_more_set xs i v l))

  pub filled_stop : {r : Result ℕ Fault} {e : Fault} (out after : List ℕ) → r ≡ Err e → prefix (take i xs) rest ≡ refused (note_of e)
      → ReadInto list out r after
  unfolding ended Holds
  filled_stop out after q h = rw (q, w ∙ h) (record { answer = refl; held = tt })

  pub filled_all : (p n : ℕ) (out : List ℕ) → length xs ≡ n → n ≤ i → prefix (take i xs) rest ≡ got (take i xs) p
      → ReadInto list out (Ok p) (xs ++ drop n out)
  unfolding ended Holds over
  filled_all p n out l k h =
      let e : list ≡ got xs p = w ∙ h ∙ ap (λ (x : List ℕ). got x p) (take_all i xs (omega arith)) in
      rw (e, sym l) (record { answer = refl; held = refl })

-- a list that ended was read
pub ended_got : (o : Out (List ℕ)) (e : ℕ) → got tt e ≡ ended o → (xs : List ℕ) × (o ≡ got xs e)
unfolding ended
ended_got (got xs n) e h = (xs, cc)
ended_got (refused n) e h = absurd (not_refused h)

pub ended_refused : (o : Out (List ℕ)) (n : Note) → refused n ≡ ended o → o ≡ refused n
unfolding ended
ended_refused (got xs e) n h = absurd (not_refused (sym h))
ended_refused (refused m) n h = cc

-- ---- the lists

-- a sheet that is refused
pub checked_refused : (s : List ℕ) (sheet : Out Plan) {r : Result Frame Fault} {e : Fault} → r ≡ Err e → sheet ≡ refused (note_of e)
    → Checked s sheet r
checked_refused s sheet q h = rw q h

module _ (q r : ℕ) (s : List ℕ) (at : ℕ) where
  pub lists_disks : {n : Note} → refused n ≡ ended (times q disk s at) → whole (lists_of q r) s at ≡ refused n
  unfolding lists_of
  lists_disks {n} h =
      whole_refused (lists_of q r) s at (stops (times q disk) _ s at (ended_refused (times q disk s at) n h))

  module _ {p : ℕ} (h : got tt p ≡ ended (times q disk s at)) where
    pub lists_size : {n : Note} → refused n ≡ size_of q s p → whole (lists_of q r) s at ≡ refused n
    unfolding lists_of
    lists_size z =
        let w : (ds : List ℕ) × (times q disk s at ≡ got ds p) = ended_got (times q disk s at) p h in
        whole_refused (lists_of q r) s at (next (times q disk) _ s at w.1 ∙ stops (size_of q) _ s p (sym z))

    module _ {m next-at : ℕ} (z : got m next-at ≡ size_of q s p) where
      rest : (ds : List ℕ) → Parser Plan
      rest ds = ascending m 0 (q - 1) >>= λ bs. pure (plan_of r ds bs)

      before : (ds : List ℕ) → times q disk s at ≡ got ds p → whole (lists_of q r) s at ≡ whole (rest ds) s next-at
      unfolding lists_of rest
      before ds w = whole_as (lists_of q r) s at (rest ds) next-at (next (times q disk) _ s at w ∙ next (size_of q) _ s p (sym z))

      pub lists_short : {n : Note} → refused n ≡ ended (ascending m 0 (q - 1) s next-at) → whole (lists_of q r) s at ≡ refused n
      unfolding rest
      lists_short {n} x =
          let w : (ds : List ℕ) × (times q disk s at ≡ got ds p) = ended_got (times q disk s at) p h in
          before w.0 w.1 ∙ whole_refused (rest w.0) s next-at
          (stops (ascending m 0 (q - 1)) _ s next-at (ended_refused (ascending m 0 (q - 1) s next-at) n x))

      module _ {e : ℕ} (x : got tt e ≡ ended (ascending m 0 (q - 1) s next-at)) where
        before_end : (ds : List ℕ) × (times q disk s at ≡ got ds p) × ((bs : List ℕ)
            × (ascending m 0 (q - 1) s next-at ≡ got bs e) × (whole (lists_of q r) s at ≡ (end >> pure (plan_of r ds bs)) s e))
        unfolding rest whole pure
        before_end =
            let w : (ds : List ℕ) × (times q disk s at ≡ got ds p) = ended_got (times q disk s at) p h in
            let y : (bs : List ℕ)
            × (ascending m 0 (q - 1) s next-at ≡ got bs e) = ended_got (ascending m 0 (q - 1) s next-at) e x in
            let z : rest w.0 s next-at ≡ got (plan_of r w.0 y.0) e =
            next (ascending m 0 (q - 1)) (λ bs. pure (plan_of r w.0 bs)) s next-at y.1 in
            (w.0, w.1, (y.0, y.1, before w.0 w.1 ∙ next (rest w.0) (λ a. end >> pure a) s next-at z))

        pub lists_end : {n : Note} → refused n ≡ end s e → whole (lists_of q r) s at ≡ refused n
        lists_end k = let w = before_end in w.2.2 ∙ halts end _ s e (sym k)

        pub lists_done : {v u : ℕ} → q ≤ blocks_most → got v u ≡ end s e
            → Checked s (whole (lists_of q r) s at) (Ok (record { blocks = q; time = r; size = m; disks = at; short = next-at }))
        unfolding pure
        lists_done {u = u} l k =
            let w = before_end in (
              plan_of r w.0 w.2.0,
              u,
              w.2.2 ∙ then end (pure (plan_of r w.0 w.2.0)) s e (sym k),
              record {
                few = l;
                blocks = (times_all disk (λ _. Unit) s (λ _ _ _ _. tt) q at w.0 p w.1).0;
                size = (ascending_rises (q - 1) s m 0 next-at w.2.0 e w.2.1).0;
                time = refl;
                disks_end = p;
                short_end = e;
                disks = w.1;
                short = w.2.1;
              },
            )

-- ---- the fields before the lists

-- the bounds of R and of m, as they were found
pub bounds_time : (q low high : ℕ) (s : List ℕ) (at : ℕ) {o : Out ℕ} → low ≡ if_any q 1 → high ≡ if_any q time_most
    → o ≡ inside low high 15 s at → o ≡ time_of q s at
unfolding time_of
bounds_time q low high s at l h e = e ∙ ap (λ (k : ℕ). inside low k 15 s at) h ∙ ap (λ (k : ℕ). inside k (if_any q time_most) 15 s at) l

pub bounds_size : (q low : ℕ) (s : List ℕ) (at : ℕ) {o : Out ℕ} → low ≡ if_any q 1 → o ≡ inside low q 6 s at → o ≡ size_of q s at
unfolding size_of
bounds_size q low s at l e = e ∙ ap (λ (k : ℕ). inside k q 6 s at) l

module _ (unit t : ℕ) (s : List ℕ) where
  pub check_opening : {n : Note} → refused n ≡ opening (3 ∷ []) unit t s 0 → plan_sheet unit t s 0 ≡ refused n
  unfolding plan_sheet plan_fields
  check_opening h = whole_refused (plan_fields unit t) s 0 (halts (opening (3 ∷ []) unit t) _ s 0 (sym h))

  module _ {v a : ℕ} (h : got v a ≡ opening (3 ∷ []) unit t s 0) where
    pub check_blocks : {n : Note} → refused n ≡ inside 0 blocks_most 6 s a → plan_sheet unit t s 0 ≡ refused n
    unfolding plan_sheet plan_fields
    check_blocks g =
        whole_refused (plan_fields unit t) s 0
        (then (opening (3 ∷ []) unit t) _ s 0 (sym h) ∙ stops (inside 0 blocks_most 6) _ s a (sym g))

    module _ {q b : ℕ} (g : got q b ≡ inside 0 blocks_most 6 s a) where
      pub check_time : {n : Note} → refused n ≡ time_of q s b → plan_sheet unit t s 0 ≡ refused n
      unfolding plan_sheet plan_fields
      check_time k =
          whole_refused (plan_fields unit t) s 0
          (then (opening (3 ∷ []) unit t) _ s 0 (sym h) ∙ next (inside 0 blocks_most 6) _ s a (sym g) ∙ stops (time_of q) _ s b (sym k))

      pub check_lists : {r c : ℕ} (x : Result Frame Fault) → got r c ≡ time_of q s b → Checked s (whole (lists_of q r) s c) x
          → Checked s (plan_sheet unit t s 0) x
      unfolding plan_sheet plan_fields
      check_lists {r} {c} x k y =
          let e : plan_sheet unit t s 0 ≡ whole (lists_of q r) s c =
          whole_as (plan_fields unit t) s 0 (lists_of q r) c (then (opening (3 ∷ []) unit t) _ s 0 (sym h)
          ∙ next (inside 0 blocks_most 6) _ s a (sym g) ∙ next (time_of q) _ s b (sym k)) in
          subst (λ (o : Out Plan). Checked s o x) (sym e) y

-- ---- the ways in which reading ends

-- the sheet is refused
pub received_refused : (sheet : Out Plan) (bytes : ℕ) (disks short : List ℕ) {r : Result Head Fault} {e : Fault} → r ≡ Err e
    → sheet ≡ refused (note_of e) → Received sheet bytes disks short r disks short
unfolding if_room heads disks_left short_left
received_refused sheet bytes disks short q h = rw (q, h) (record { answer = refl; blocks = refl; members = refl })

-- both lists are read again, and neither is refused now
module _ {s : List ℕ} {p : Plan} {f : Frame} (w : Framed s p f) where
  pub again_disks : {n : Note} → refused n ≡ ended (times f.blocks disk s f.disks) → ⊥
  again_disks {n} h = not_refused (sym w.disks ∙ ended_refused (times f.blocks disk s f.disks) n h)

  pub again_short : {n : Note} → refused n ≡ ended (ascending f.size 0 (f.blocks - 1) s f.short) → ⊥
  again_short {n} h = not_refused (sym w.short ∙ ended_refused (ascending f.size 0 (f.blocks - 1) s f.short) n h)

module _ (p : Plan) (e : ℕ) (disks short : List ℕ) where
  -- a list is too short
  no_room : {f : Fault} {n m : ℕ} → f ≡ fault_at NoRoom n → m ≡ n → if_room (got p e) disks short ≡ refused (note 11 m)
      → Received (got p e) e disks short (Err f) disks short
  unfolding heads disks_left short_left
  no_room {f} {n} q k x =
      let y : if_room (got p e) disks short ≡ refused (note 11 n) = x ∙ ap (λ (i : ℕ). refused (note 11 i)) k in
      record {
        answer = refused_as q ∙ sym (ap heads y);
        blocks = sym (ap (λ (o : Out Plan). disks_left o disks) y);
        members = sym (ap (λ (o : Out Plan). short_left o short) y);
      }

  module _ {s : List ℕ} {f : Frame} (w : Framed s p f) where
    pub few_disks : {g : Fault} → g ≡ fault_at NoRoom f.blocks → length disks < f.blocks
        → Received (got p e) e disks short (Err g) disks short
    few_disks q l = no_room q w.blocks (room_disks p e disks short (omega (arith, w.blocks)))

    pub few_members : {g : Fault} → g ≡ fault_at NoRoom f.size → f.blocks ≤ length disks → length short < f.size
        → Received (got p e) e disks short (Err g) disks short
    few_members q k l = no_room q w.size (room_short p e disks short (omega (arith, w.blocks)) (omega (arith, w.size)))

    -- both lists were filled
    pub received : {disks' short' : List ℕ} → f.blocks ≤ length disks → f.size ≤ length short
        → Holds (times f.blocks disk s f.disks) disks disks' → Holds (ascending f.size 0 (f.blocks - 1) s f.short) short short'
        → Received (got p e) e disks short (Ok (record { blocks = f.blocks; time = f.time; size = f.size })) disks' short'
    unfolding heads disks_left short_left Holds
    received {disks'} {short'} k l a b =
        let x : if_room (got p e) disks short ≡ got p e =
        room_both p e disks short (omega (arith, w.blocks)) (omega (arith, w.size)) in
        let ds : disks' ≡ over p.disks disks = rw w.disks at a in
        let bs : short' ≡ over p.short short = rw w.short at b in
        record {
          answer = cc (w.blocks, w.time, w.size, ap heads x);
          blocks = ds ∙ sym (ap (λ (o : Out Plan). disks_left o disks) x);
          members = bs ∙ sym (ap (λ (o : Out Plan). short_left o short) x);
        }

-- what was found of a whole sheet gives what its frame gives
pub found_whole : (unit t : ℕ) (s : List ℕ) (disks short disks' short' : List ℕ) (r : Result Head Fault) (f : Frame)
    → Checked s (plan_sheet unit t s 0) (Ok f) → ((p : Plan) (e : ℕ) → Framed s p f → Received (got p e) e disks short r disks' short')
    → Received (plan_sheet unit t s 0) (length s) disks short r disks' short'
unfolding plan_sheet
found_whole unit t s disks short disks' short' r f w k =
    let e : w.1 ≡ length s = (whole_got (plan_fields unit t) s w.0 w.1 w.2).1 in
    subst (λ (o : Out Plan). Received o (length s) disks short r disks' short') (sym w.2)
    (subst (λ (n : ℕ). Received (got w.0 w.1) n disks short r disks' short') e (k w.0 w.1 w.3))
