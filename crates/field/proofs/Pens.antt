-- Laws of a pen.
--     lays_none, lays_one, lays_join, lays_same     no byte, one field, bytes behind bytes, other names for them
--     lays_start, lays_entry     a list, entry by entry
--     lays_done, lays_sent     the buffer that a pen has left, and a writer's answer
use mathlib.Core.Path.{◌≡◌, refl, sym, ◌∙◌, subst}
use mathlib.Core.List.{List, [], ◌++◌}
use Prim.Native.Nat.{ℕ, ◌+◌, ◌≤◌, ◌<◌}
use native.Mathlib.Omega.{arith}
use lib.ListN.{length, take, get_or, length-append}
use Rattle.number.specs.Encode.{encode, width_of}
use Rattle.field.specs.declared.Pen.{Pen}
use Rattle.field.specs.Put.{spell_all, Laid}
use Rattle.field.specs.Pen.{Room, Puts, Lays}
use Rattle.field.specs.Send.{Sent, sheet}
use Rattle.field.proofs.Sends.{sent_fits}
use Rattle.std.specs.Prelude.{Ok}
use Rattle.field.proofs.Spell.{spell_more}
use Rattle.field.proofs.Puts.{laid_none, laid_join, put_one, rest_room}

pub lays_none : (pen : Pen) → Lays [] pen pen
lays_none pen = record { same = refl; laid = λ h. laid_none pen.out.now pen.at (omega arith) }

pub lays_one : {v : ℕ} {pen pen' : Pen} → Puts v pen pen' → Lays (encode v) pen pen'
unfolding width_of
lays_one p = record { same = p.same; laid = λ h. put_one p.one h }

pub lays_join : {bs cs : List ℕ} {first mid last : Pen} → Lays bs first mid → Lays cs mid last → Lays (bs ++ cs) first last
lays_join {bs} {cs} a b = record {
  same = b.same ∙ a.same;
  laid = λ h. let w = a.laid (omega (arith, h, length-append bs cs)) in laid_join w (b.laid (rest_room cs w h));
}

-- the same bytes under other names
pub lays_same : {bs cs : List ℕ} {first last : Pen} → bs ≡ cs → Lays bs first last → Lays cs first last
lays_same {first = first} {last = last} e a = subst (λ (z : List ℕ). Lays z first last) e a

-- ---- a list, entry by entry

module _ {A : Type 0} (spell : A → List ℕ) where
  pub lays_start : (pen : Pen) → Lays (spell_all spell []) pen pen
  unfolding spell_all
  lays_start pen = lays_none pen

  -- the entry at i is laid behind those before it
  pub lays_entry : {first mid last : Pen} {i : ℕ} (xs : List A) (x z : A) → i < length xs → x ≡ get_or xs i z
      → Lays (spell_all spell (take i xs)) first mid → Lays (spell x) mid last → Lays (spell_all spell (take (i + 1) xs)) first last
  lays_entry {first} {mid} {last} {i} xs x z h e a b =
      lays_same (spell_more spell xs i z h) (lays_join a (subst (λ (y : A). Lays (spell y) mid last) e b))

-- ---- a whole sheet

-- the buffer is then what the pen left
pub lays_done : {bs after : List ℕ} {pen last : Pen} → Lays bs pen last → Room bs pen
    → (pen.out.ghost_name ≡ last.out.ghost_name → after ≡ last.out.now) → Laid pen.out.now pen.at bs after last.at
lays_done {bs} {after} {pen} {last} a h e =
    subst (λ (x : List ℕ). Laid pen.out.now pen.at bs x last.at) (sym (e (sym a.same))) (a.laid h)

-- a sheet that has room, put from the buffer's start on
pub lays_sent : {bs after : List ℕ} {pen last : Pen} → Lays bs pen last → pen.at ≡ 0 → length bs ≤ length pen.out.now
    → (pen.out.ghost_name ≡ last.out.ghost_name → after ≡ last.out.now) → Sent (sheet bs) pen.out.now (Ok last.at) after
lays_sent {bs} {after} {pen} {last} a z h e =
    sent_fits (subst (λ (k : ℕ). Laid pen.out.now k bs after last.at) z (lays_done a (omega (arith, z)) e))
