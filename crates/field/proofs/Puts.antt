-- Laws of fields put into a lent buffer.
--     put_room, put_none, put_past, put_of     what one field leaves
--     laid_none, put_one     these bytes from here on, all else as it was: no field yet, and one
--     laid_length, laid_join     the buffer's length; bytes behind bytes
--     rest_room     behind the first part there is room for the second
use mathlib.Core.Path.{◌≡◌, sym, ap, ◌∙◌}
use mathlib.Core.List.{List, [], ◌++◌}
use Prim.Native.Nat.{ℕ, ◌+◌, ◌-◌, ◌≤◌, ◌<◌}
use native.Mathlib.Omega.{arith}
use borrow.Author.Tests.{le-leb, lt-leb}
use borrow.Rule.Slice.PartMut.{put_mid}
use lib.ListN.{length, take, drop, length-append, length-drop, take-append-drop}
use Rattle.std.specs.Prelude.{Option}
use Rattle.std.specs.Option.{unwrap_or}
use Rattle.number.specs.Encode.{encode, width_of, WroteNumber}
use Rattle.basics.proofs.Choice.{pick_true, pick_false}
use Rattle.number.proofs.Encode.{wrote_cases}
use Rattle.basics.proofs.Buffer.{rest, put_rest, paste_length, paste_paste}
use Rattle.basics.specs.Buffer.{over, paste}
use Rattle.field.specs.Put.{has_room, PutOne, Laid}

-- ---- one field

module _ (v : ℕ) (out : List ℕ) (at : ℕ) where
  pub put_room : at + width_of v ≤ length out → PutOne v out at (at + width_of v) (paste out at (encode v))
  unfolding has_room
  put_room h = let t = le-leb _ _ h in record { place = sym (pick_true _ _ t); held = sym (pick_true _ _ t) }

  pub put_none : length out < at + width_of v → PutOne v out at at out
  unfolding has_room
  put_none h = let t = lt-leb _ _ h in record { place = sym (pick_false _ _ t); held = sym (pick_false _ _ t) }

  -- past the end nothing has room
  pub put_past : length out < at → PutOne v out at at out
  put_past h = put_none (omega arith)

  -- the number writer's work in `&mut out[at..]`
  pub put_of : (n : Option ℕ) (ys : List ℕ) → at ≤ length out → WroteNumber v (take (length out - at) (drop at out)) n ys
      → PutOne v out at (at + unwrap_or n 0) (put_mid at (length out - at) out ys)
  unfolding paste
  put_of n ys h w =
      wrote_cases {v = v} {out = drop at out} (rw rest at w)
      (λ room e q. let p = put_room (omega (arith, length-drop at out)) in record {
        place = ap (λ (k : Option ℕ). at + unwrap_or k 0) e ∙ p.place;
        held = put_rest out at ys ∙ ap (λ (z : List ℕ). take at out ++ z) q ∙ p.held;
      })
      (λ full e q. let p = put_none (omega (arith, length-drop at out)) in record {
        place = ap (λ (k : Option ℕ). at + unwrap_or k 0) e ∙ omega arith ∙ p.place;
        held = put_rest out at ys ∙ ap (λ (z : List ℕ). take at out ++ z) q ∙ take-append-drop at out ∙ p.held;
      })

-- ---- field after field

-- no field yet
pub laid_none : (out : List ℕ) (at : ℕ) → at ≤ length out → Laid out at [] out at
unfolding paste over
laid_none out at h =
    let e : at + 0 ≡ at = omega arith in
    record { fit = omega arith; held = sym (take-append-drop at out); place = sym e }

-- one field
pub put_one : {v : ℕ} {out : List ℕ} {at next : ℕ} {after : List ℕ} → PutOne v out at next after → at + width_of v ≤ length out
    → Laid out at (encode v) after next
unfolding width_of
put_one {v} {out} {at} f h =
    let r = put_room v out at h in record { fit = h; held = f.held ∙ sym r.held; place = f.place ∙ sym r.place }

-- ---- bytes behind bytes

pub laid_length : {out : List ℕ} {at : ℕ} {bs after : List ℕ} {next : ℕ} → Laid out at bs after next → length after ≡ length out
laid_length {out} {at} {bs} w = ap length w.held ∙ paste_length out at bs w.fit

pub laid_join : {out : List ℕ} {at : ℕ} {bs mid : List ℕ} {p : ℕ} {cs after : List ℕ} {next : ℕ} → Laid out at bs mid p
    → Laid mid p cs after next → Laid out at (bs ++ cs) after next
laid_join {out} {at} {bs} {mid} {p} {cs} {after} {next} f g =
    let same : length mid ≡ length out = laid_length f in
    record {
      fit = omega (arith, g.fit, f.place, length-append bs cs);
      held = g.held ∙ ap (λ (k : ℕ). paste mid k cs) f.place ∙ ap (λ (x : List ℕ). paste x (at + length bs) cs) f.held
          ∙ paste_paste out at bs cs (omega (arith, g.fit, f.place));
      place = omega (arith, g.place, f.place, length-append bs cs);
    }

-- behind the first there is room for the second
pub rest_room : {out : List ℕ} {at : ℕ} {bs mid : List ℕ} {p : ℕ} (cs : List ℕ) → Laid out at bs mid p
    → at + length (bs ++ cs) ≤ length out → p + length cs ≤ length mid
rest_room {bs = bs} cs w h = omega (arith, w.place, laid_length w, length-append bs cs)
