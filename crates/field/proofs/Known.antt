-- Every refusal has one of the table's numbers, 1 to 16 and 20: so 0 in an answer's lowest bits says that it was accepted.
--     Known            a number of the table
--     Own              one of a reader's own: 11 is of a lent buffer or list alone (`own_six`, ..)
--     Says, Refuses    what reading gives is accepted, or is refused as something says; a reader that gives nothing else
--     Answers, Numbered     the same, with a reader's own numbers
--     Shared           the refusals that the fields of all sheets share (`refuses_number`, ..)
--     refused_so       what is known of a refusal
--     refusal_known    the numbers of the refusals that the code has
use Prim.Native.Nat.{ℕ, zero, suc, ◌+◌, ◌≤◌}
use mathlib.Core.Bool.{Bool}
use mathlib.Core.Logic.{◌⊎◌, inl, inr, ⊎_elim}
use mathlib.Core.Path.{◌≡◌, refl, subst}
use mathlib.Core.List.{List, [], ◌∷◌}
use native.Mathlib.Omega.{arith}
use lib.ListN.{length, drop}
use Rattle.basics.specs.Limits.{refusals_most}
use Rattle.basics.proofs.Choice.{pick_elim}
use Rattle.number.specs.Decode.{Decoded, value, under, more, decode, refused as bad}
use Rattle.field.specs.declared.Refusal.{Refusal}
use Rattle.field.specs.declared.Refusal.TheVariants.{SheetEnds, BadNumber, WrongKind, WrongUnit, WrongTenancy, OutOfRange, NoCopy}
use Rattle.field.specs.declared.Refusal.TheVariants.{NotRising, BytesFollow, NoSettings, NoRoom, Rented, NotAbove, NotTheTenant}
use Rattle.field.specs.declared.Refusal.TheVariants.{BadAmount, BadIndex, AllOut}
use Rattle.field.specs.Refusal.{number_of}
use Rattle.field.specs.Sheet.{Note, note, Out, got, refused, Parser, and_then, ◌>>=◌, ◌>>◌, pure, here, require, times}
use Rattle.field.specs.Field.{taken, number, between, inside, ascending, kind, addressed, opening, end, whole}

abbrev pub Known : ℕ → Type 0
Known n = (1 ≤ n) × (n ≤ refusals_most)

known : {n : ℕ} → 1 ≤ n → n ≤ refusals_most → Known n
known l m = (l, m)

abbrev pub Own : ℕ → Type 0
Own n = Known n × (n ≡ 11 → ⊥)

own : {n : ℕ} → 1 ≤ n → n ≤ refusals_most → (n ≡ 11 → ⊥) → Own n
own l m z = ((l, m), z)

pub own_three : Own 3
own_three = own (omega arith) (omega arith) (λ z. omega (arith, z))

pub own_six : Own 6
own_six = own (omega arith) (omega arith) (λ z. omega (arith, z))

pub own_seven : Own 7
own_seven = own (omega arith) (omega arith) (λ z. omega (arith, z))

pub own_ten : Own 10
own_ten = own (omega arith) (omega arith) (λ z. omega (arith, z))

pub own_fifteen : Own 15
own_fifteen = own (omega arith) (omega arith) (λ z. omega (arith, z))

pub own_sixteen : Own 16
own_sixteen = own (omega arith) (omega arith) (λ z. omega (arith, z))

pub own_twenty : Own 20
own_twenty = own (omega arith) (omega arith) (λ z. omega (arith, z))

abbrev pub Says : {A : Type 0} → (Note → Type 0) → Out A → Type 0
Says P (got a e) = Unit
Says P (refused n) = P n

-- of a sheet and a refusal
pub record Refuses {A : Type 0} (P : List ℕ → Note → Type 0) (p : Parser A) : Type 0 where
  pub answers : (s : List ℕ) (at : ℕ) → Says (P s) (p s at)

abbrev pub Owned : Note → Type 0
Owned n = Own n.number

unfoldable abbrev pub Answers : {A : Type 0} → Out A → Type 0
unfolding Says
Answers o = Says Owned o

abbrev pub Numbered : {A : Type 0} → Parser A → Type 0
Numbered p = Refuses (λ _. Owned) p

-- ---- one reader after another

pub says_after : (P : Note → Type 0) {A B : Type 0} (o : Out A) (k : A → ℕ → Out B) → Says P o
    → ((a : A) (n : ℕ) → o ≡ got a n → Says P (k a n)) → Says P (and_then o k)
unfolding and_then
says_after P (got a n) k h f = f a n refl
says_after P (refused e) k h f = h

module _ {P : List ℕ → Note → Type 0} {A B : Type 0} where
  pub numbered_bind : {p : Parser A} {k : A → Parser B} → Refuses P p → ((a : A) → Refuses P (k a)) → Refuses P (p >>= k)
  unfolding ◌>>=◌
  numbered_bind {p} {k} h f =
      record { answers = λ s at. says_after (P s) (p s at) (λ a n. k a s n) (h.answers s at) (λ a n _. (f a).answers s n) }

  pub numbered_then : {p : Parser A} {q : Parser B} → Refuses P p → Refuses P q → Refuses P (p >> q)
  unfolding ◌>>◌
  numbered_then {p} {q} h f =
      record { answers = λ s at. says_after (P s) (p s at) (λ a n. q s n) (h.answers s at) (λ a n _. f.answers s n) }

module _ {P : List ℕ → Note → Type 0} where
  pub numbered_pure : {A : Type 0} (a : A) → Refuses P (pure a)
  unfolding pure
  numbered_pure a = record { answers = λ s at. tt }

  pub numbered_here : Refuses P here
  unfolding here
  numbered_here = record { answers = λ s at. tt }

  pub numbered_require : (b : Bool) (e : Note) → ((s : List ℕ) → P s e) → Refuses P (require b e)
  unfolding require
  numbered_require b e h = record { answers = λ s at. pick_elim (Says (P s)) b _ _ (λ _. tt) (λ _. h s) }

  pub numbered_times : {A : Type 0} (n : ℕ) {p : Parser A} → Refuses P p → Refuses P (times n p)
  unfolding times
  numbered_times zero h = numbered_pure []
  numbered_times (suc n) h = numbered_bind h (λ a. numbered_bind (numbered_times n h) (λ as'. numbered_pure (a ∷ as')))

  pub refused_so : {A : Type 0} {p : Parser A} → Refuses P p → (s : List ℕ) (at : ℕ) {n : Note} → p s at ≡ refused n → P s n
  refused_so h s at q = subst (Says (P s)) q (h.answers s at)

-- ---- the fields

-- whatever the place
pub record Shared (P : List ℕ → Note → Type 0) : Type 0 where
  pub ends : (s : List ℕ) (p : ℕ) → P s (note 1 p)
  pub bad : (s : List ℕ) (p : ℕ) → P s (note 2 p)
  pub kind : (s : List ℕ) (p : ℕ) → P s (note 3 p)
  pub unit : (s : List ℕ) (p : ℕ) → P s (note 4 p)
  pub tenancy : (s : List ℕ) (p : ℕ) → P s (note 5 p)
  pub falls : (s : List ℕ) (p : ℕ) → P s (note 8 p)
  pub extra : (s : List ℕ) (p : ℕ) → P s (note 9 p)
  pub beyond : (s : List ℕ) (p : ℕ) → P s (note 16 p)

-- a number is refused with 1 or 2
unfoldable Decodes : Decoded → Type 0
Decodes (value v n) = Unit
Decodes (bad e) = (e ≡ 1) ⊎ (e ≡ 2)

decodes_under : (b : ℕ) (d : Decoded) → Decodes d → Decodes (under b d)
unfolding under Decodes
decodes_under b (value v n) h = tt
decodes_under b (bad e) h = h

decodes_more : (k : ℕ) (s : List ℕ) → Decodes (more k s)
unfolding more Decodes
decodes_more zero [] = inl refl
decodes_more zero (b ∷ s) =
    pick_elim Decodes _ _ _ (λ _. inr refl)
    (λ _. pick_elim Decodes _ _ _ (λ _. tt) (λ _. inr refl))
decodes_more (suc k) [] = inl refl
decodes_more (suc k) (b ∷ s) =
    pick_elim Decodes _ _ _ (λ _. inr refl)
    (λ _. pick_elim Decodes _ _ _ (λ _. tt) (λ _. decodes_under b (more k s) (decodes_more k s)))

decodes : (s : List ℕ) → Decodes (decode s)
unfolding decode Decodes
decodes [] = inl refl
decodes (b ∷ s) = pick_elim Decodes _ _ _ (λ _. tt) (λ _. decodes_under b (more 3 s) (decodes_more 3 s))

module _ {P : List ℕ → Note → Type 0} (c : Shared P) where
  says_taken : (s : List ℕ) (len at : ℕ) (d : Decoded) → Decodes d → Says (P s) (taken len at d)
  unfolding taken Decodes
  says_taken s len at (value v n) h = tt
  says_taken s len at (bad e) h = ⊎_elim (λ q. rw q (c.ends s _)) (λ q. rw q (c.bad s _)) h

  pub refuses_number : Refuses P number
  unfolding number
  refuses_number = record { answers = λ s at. says_taken s (length s) at (decode (drop at s)) (decodes (drop at s)) }

  pub refuses_between : (low high : ℕ) (under above : ℕ) → ((s : List ℕ) (p : ℕ) → P s (note under p))
      → ((s : List ℕ) (p : ℕ) → P s (note above p)) → Refuses P (between low high under above)
  unfolding between
  refuses_between low high under above u a =
      numbered_bind numbered_here (λ at.
      numbered_bind refuses_number (λ v.
      numbered_then (numbered_require _ _ (λ s. a s at)) (numbered_then (numbered_require _ _ (λ s. u s at)) (numbered_pure v))))

  pub refuses_ascending : (n floor high : ℕ) → Refuses P (ascending n floor high)
  unfolding ascending
  refuses_ascending zero floor high = numbered_pure []
  refuses_ascending (suc n) floor high =
      numbered_bind (refuses_between floor high 8 16 c.falls c.beyond)
      (λ v. numbered_bind (refuses_ascending n (v + 1) high) (λ vs. numbered_pure (v ∷ vs)))

  pub refuses_opening : (kinds : List ℕ) (unit t : ℕ) → Refuses P (opening kinds unit t)
  unfolding opening kind addressed
  refuses_opening kinds unit t =
      numbered_bind
      (numbered_bind numbered_here (λ at.
      numbered_bind refuses_number (λ k. numbered_then (numbered_require _ _ (λ s. c.kind s at)) (numbered_pure k))))
      (λ k. numbered_then
      (numbered_then
      (refuses_between unit unit 4 4 c.unit c.unit)
      (refuses_between _ t 5 5 c.tenancy c.tenancy))
      (numbered_pure k))

  refuses_end : Refuses P end
  unfolding end
  refuses_end = record { answers = λ s at. pick_elim (Says (P s)) _ _ _ (λ _. tt) (λ _. c.extra s at) }

  pub refuses_whole : {A : Type 0} {p : Parser A} → Refuses P p → Refuses P (whole p)
  unfolding whole
  refuses_whole h = numbered_bind h (λ a. numbered_then refuses_end (numbered_pure a))

-- ---- of a reader's own numbers

pub shared_own : Shared (λ _. Owned)
shared_own = record {
  ends = λ s p. own (omega arith) (omega arith) (λ z. omega (arith, z));
  bad = λ s p. own (omega arith) (omega arith) (λ z. omega (arith, z));
  kind = λ s p. own_three;
  unit = λ s p. own (omega arith) (omega arith) (λ z. omega (arith, z));
  tenancy = λ s p. own (omega arith) (omega arith) (λ z. omega (arith, z));
  falls = λ s p. own (omega arith) (omega arith) (λ z. omega (arith, z));
  extra = λ s p. own (omega arith) (omega arith) (λ z. omega (arith, z));
  beyond = λ s p. own_sixteen;
}

pub numbered_number : Numbered number
numbered_number = refuses_number shared_own

pub numbered_between : (low high : ℕ) {under above : ℕ} → Own under → Own above → Numbered (between low high under above)
numbered_between low high {under} {above} u a = refuses_between shared_own low high under above (λ s p. u) (λ s p. a)

pub numbered_inside : (low high e : ℕ) → Own e → Numbered (inside low high e)
numbered_inside low high e k = numbered_between low high k k

pub numbered_ascending : (n floor high : ℕ) → Numbered (ascending n floor high)
numbered_ascending n floor high = refuses_ascending shared_own n floor high

pub numbered_opening : (kinds : List ℕ) (unit t : ℕ) → Numbered (opening kinds unit t)
numbered_opening kinds unit t = refuses_opening shared_own kinds unit t

pub numbered_whole : {A : Type 0} {p : Parser A} → Numbered p → Numbered (whole p)
numbered_whole h = refuses_whole shared_own h

-- ---- the code's refusals

pub refusal_known : (e : Refusal) → Known (number_of e)
refusal_known SheetEnds = known (omega arith) (omega arith)
refusal_known BadNumber = known (omega arith) (omega arith)
refusal_known WrongKind = known (omega arith) (omega arith)
refusal_known WrongUnit = known (omega arith) (omega arith)
refusal_known WrongTenancy = known (omega arith) (omega arith)
refusal_known OutOfRange = known (omega arith) (omega arith)
refusal_known NoCopy = known (omega arith) (omega arith)
refusal_known NotRising = known (omega arith) (omega arith)
refusal_known BytesFollow = known (omega arith) (omega arith)
refusal_known NoSettings = known (omega arith) (omega arith)
refusal_known NoRoom = known (omega arith) (omega arith)
refusal_known Rented = known (omega arith) (omega arith)
refusal_known NotAbove = known (omega arith) (omega arith)
refusal_known NotTheTenant = known (omega arith) (omega arith)
refusal_known BadAmount = known (omega arith) (omega arith)
refusal_known BadIndex = known (omega arith) (omega arith)
refusal_known AllOut = known (omega arith) (omega arith)
