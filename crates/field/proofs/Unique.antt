-- Each promise of this crate fixes the answer: no second one satisfies it.
use mathlib.Core.Path.{◌≡◌, refl, sym, ap, ◌∙◌}
use mathlib.Core.Bool.{Bool}
use mathlib.Core.List.{List}
use Prim.Native.Nat.{ℕ}
use native.Mathlib.Omega.{arith}
use lib.Dec.{eqb}
use lib.ListN.{length}
use Rattle.basics.specs.Choice.{pick}
use Rattle.std.specs.Prelude.{Result, Ok, Err}
use Rattle.field.specs.declared.Refusal.{Refusal}
use Rattle.field.specs.declared.Refusal.TheVariants.{SheetEnds, BadNumber, WrongKind, WrongUnit, WrongTenancy, OutOfRange, NoCopy}
use Rattle.field.specs.declared.Refusal.TheVariants.{NotRising, BytesFollow, NoSettings, NoRoom, Rented, NotAbove, NotTheTenant}
use Rattle.field.specs.declared.Refusal.TheVariants.{BadAmount, BadIndex, AllOut}
use Rattle.field.specs.declared.Fault.{Fault}
use Rattle.field.specs.declared.Pen.{Pen}
use Rattle.field.specs.Put.{field_if, PutOne, Laid}
use Rattle.field.specs.Pen.{Room, Puts, Lays}
use Rattle.field.specs.Refusal.{number_of, note_of}
use Rattle.field.specs.Sheet.{Note, Out, got, refused}
use Rattle.field.specs.Told.{told_by, told}

-- the refusal of a number of the paper
named : ℕ → Refusal
named n =
    pick (eqb n 1) SheetEnds
    (pick (eqb n 2) BadNumber
    (pick (eqb n 3) WrongKind
    (pick (eqb n 4) WrongUnit
    (pick (eqb n 5) WrongTenancy
    (pick (eqb n 6) OutOfRange
    (pick (eqb n 7) NoCopy
    (pick (eqb n 8) NotRising
    (pick (eqb n 9) BytesFollow
    (pick (eqb n 10) NoSettings
    (pick (eqb n 11) NoRoom
    (pick (eqb n 12) Rented
    (pick (eqb n 13) NotAbove
    (pick (eqb n 14) NotTheTenant
    (pick (eqb n 15) BadAmount
    (pick (eqb n 16) BadIndex
    AllOut)))))))))))))))

named_number : (r : Refusal) → named (number_of r) ≡ r
unfolding named pick
named_number SheetEnds = refl
named_number BadNumber = refl
named_number WrongKind = refl
named_number WrongUnit = refl
named_number WrongTenancy = refl
named_number OutOfRange = refl
named_number NoCopy = refl
named_number NotRising = refl
named_number BytesFollow = refl
named_number NoSettings = refl
named_number NoRoom = refl
named_number Rented = refl
named_number NotAbove = refl
named_number NotTheTenant = refl
named_number BadAmount = refl
named_number BadIndex = refl
named_number AllOut = refl

-- no two refusals have one number
pub number_injective : (a b : Refusal) → number_of a ≡ number_of b → a ≡ b
number_injective a b h = sym (named_number a) ∙ ap named h ∙ named_number b

-- nor two faults one number and one place
pub note_injective : (f g : Fault) → note_of f ≡ note_of g → f ≡ g
note_injective f g h =
    let n : f.refusal ≡ g.refusal = number_injective f.refusal g.refusal (ap (λ (x : Note). x.number) h) in
    let p : f.place ≡ g.place = ap (λ (x : Note). x.place) h in
    rw (n, p) refl

-- what was got is no refusal, and tells the value and the place
pub not_refused : {A : Type 0} {a : A} {n : ℕ} {e : Note} → got a n ≡ refused e → ⊥
not_refused h = let z : ◌≡◌ {A = ℕ} 0 1 = cc in omega arith

pair_same : {A : Type 0} (a b : A × ℕ) → got a.0 a.1 ≡ got b.0 b.1 → a ≡ b
pair_same (v, n) (w, m) h = cc

-- two answers that say the same are the same, where what is said without a refusal is no refusal and tells all of it
module _ {A B : Type 0} (say : A → Out B) (tells : (a b : A) → say a ≡ say b → a ≡ b)
    (accepts : (a : A) (e : Note) → say a ≡ refused e → ⊥) where
  pub told_by_injective : (a b : Result A Fault) → told_by say a ≡ told_by say b → a ≡ b
  told_by_injective (Ok a) (Ok b) h = ap Ok (tells a b h)
  told_by_injective (Ok a) (Err q) h = absurd (accepts a _ h)
  told_by_injective (Err r) (Ok b) h = absurd (accepts b _ (sym h))
  told_by_injective (Err r) (Err q) h = let n : note_of r ≡ note_of q = cc in ap Err (note_injective r q n)

-- `told`
pub told_injective : {A : Type 0} (a b : Result (A × ℕ) Fault) → told a ≡ told b → a ≡ b
told_injective = told_by_injective (λ r. got r.0 r.1) (λ a b h. pair_same a b h) (λ a e h. not_refused h)

-- the readers: whatever the definition says of a sheet and a place, one answer says it
pub reader_unique : {A : Type 0} (o : Out A) (a b : Result (A × ℕ) Fault) → told a ≡ o → told b ≡ o → a ≡ b
reader_unique o a b p q = told_injective a b (p ∙ sym q)

-- `PutOne`: the place and the buffer
pub put_unique : (v : ℕ) (out : List ℕ) (at n m : ℕ) (x y : List ℕ) → PutOne v out at n x → PutOne v out at m y → (n ≡ m) × (x ≡ y)
put_unique v out at n m x y p q = (p.place ∙ sym q.place, p.held ∙ sym q.held)

-- `put` of `Pen`: the pen's place, and what its buffer, which is still the same, then holds
pub puts_unique : (v : ℕ) (pen a b : Pen) → Puts v pen a → Puts v pen b
    → (a.at ≡ b.at) × (a.out.now ≡ b.out.now) × (a.out.ghost_name ≡ b.out.ghost_name)
puts_unique v pen a b p q = let u = put_unique v _ _ _ _ _ _ p.one q.one in (u.0, u.1, p.same ∙ sym q.same)

-- `number_of`: the number
pub number_unique : (e : Refusal) (n m : ℕ) → n ≡ number_of e → m ≡ number_of e → n ≡ m
number_unique e n m p q = p ∙ sym q

-- `width_if`: the width
pub width_if_unique : (held : Bool) (v n m : ℕ) → n ≡ length (field_if held v) → m ≡ length (field_if held v) → n ≡ m
width_if_unique held v n m p q = p ∙ sym q

-- `Laid`: the place and the buffer
pub laid_unique : (out : List ℕ) (at : ℕ) (bs : List ℕ) (n m : ℕ) (x y : List ℕ) → Laid out at bs x n
    → Laid out at bs y m → (n ≡ m) × (x ≡ y)
laid_unique out at bs n m x y p q = (p.place ∙ sym q.place, p.held ∙ sym q.held)

-- `opening`, `list` and `put_if` of `Pen`: where the bytes have room, the pen's place and what its buffer then holds
pub lays_unique : (bs : List ℕ) (pen a b : Pen) → Room bs pen → Lays bs pen a → Lays bs pen b
    → (a.at ≡ b.at) × (a.out.now ≡ b.out.now) × (a.out.ghost_name ≡ b.out.ghost_name)
lays_unique bs pen a b h p q = let u = laid_unique _ _ _ _ _ _ _ (p.laid h) (q.laid h) in (u.0, u.1, p.same ∙ sym q.same)
