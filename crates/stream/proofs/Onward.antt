-- A reader does not go back, and a number has at least one byte.
--     Past, Onward               what was read ends at the place or behind it; a reader of which that holds
--     number_past, asked_past    a number, and a call, are past their first byte
use mathlib.Core.Bool.{Bool}
use mathlib.Core.List.{List, [], ◌∷◌}
use Prim.Native.Nat.{ℕ, ◌+◌, ◌≤◌}
use native.Mathlib.Omega.{arith}
use lib.Dec.{eqb, leb, ltb}
use lib.ListN.{length, drop}
use Rattle.basics.specs.Limits.{request_most}
use Rattle.basics.proofs.Choice.{pick_elim}
use Rattle.number.specs.Decode.{Decoded, value, decode, more, under, refused as bad}
use Rattle.field.specs.Field.{taken, number, between, inside}
use Rattle.field.specs.Sheet.{Note, Out, got, refused, Parser, and_then, ◌>>=◌, ◌>>◌, pure, here, require}
use Rattle.stream.specs.Frame.{bytes, sheet}
use Rattle.stream.specs.Call.{room_most, Asked, rents, returns, of_tenancy, of_settings, of_request, of_why, none, behind, asked}

unfoldable pub Past : {A : Type 0} → ℕ → Out A → Type 0
Past at (got a e) = at ≤ e
Past at (refused n) = Unit

pub record Onward {A : Type 0} (p : Parser A) : Type 0 where
  pub past : (s : List ℕ) (at : ℕ) → Past at (p s at)

-- ---- one number

-- at least one byte
Some : Decoded → Type 0
Some (value v n) = 1 ≤ n
Some (bad m) = Unit

some_under : (b : ℕ) (d : Decoded) → Some (under b d)
unfolding Some under
some_under b (value v n) = omega arith
some_under b (bad m) = tt

decode_some : (s : List ℕ) → Some (decode s)
unfolding Some decode
decode_some [] = tt
decode_some (b ∷ s) = pick_elim Some (ltb b 128) _ _ (λ _. omega arith) (λ _. some_under b (more 3 s))

taken_past : (len at : ℕ) (d : Decoded) → Some d → Past (at + 1) (taken len at d)
unfolding Past Some taken
taken_past len at (value v n) h = omega arith
taken_past len at (bad m) h = tt

pub number_past : (s : List ℕ) (at : ℕ) → Past (at + 1) (number s at)
unfolding number
number_past s at = taken_past (length s) at (decode (drop at s)) (decode_some (drop at s))

-- ---- one reader, then another

sooner : {A : Type 0} (at e : ℕ) (o : Out A) → at ≤ e → Past e o → Past at o
unfolding Past
sooner at e (got a m) l h = omega arith
sooner at e (refused n) l h = tt

pub then_past : {A B : Type 0} (at : ℕ) (o : Out A) (f : A → ℕ → Out B) → Past at o → ((a : A) (e : ℕ) → Past e (f a e))
    → Past at (and_then o f)
unfolding Past and_then
then_past at (got a e) f h g = sooner at e (f a e) h (g a e)
then_past at (refused n) f h g = tt

module _ {A B : Type 0} where
  onward_bind : {p : Parser A} {k : A → Parser B} → Onward p → ((a : A) → Onward (k a)) → Onward (p >>= k)
  unfolding ◌>>=◌
  onward_bind {p} {k} v w = record { past = λ s at. then_past at (p s at) _ (v.past s at) (λ a e. (w a).past s e) }

  onward_then : {p : Parser A} {q : Parser B} → Onward p → Onward q → Onward (p >> q)
  unfolding ◌>>◌
  onward_then {p} {q} v w = record { past = λ s at. then_past at (p s at) _ (v.past s at) (λ a e. w.past s e) }

onward_pure : {A : Type 0} (a : A) → Onward (pure a)
unfolding pure Past
onward_pure a = record { past = λ s at. omega arith }

onward_here : Onward here
unfolding here Past
onward_here = record { past = λ s at. omega arith }

onward_none : Onward none
unfolding none Past
onward_none = record { past = λ s at. tt }

onward_require : (b : Bool) (m : Note) → Onward (require b m)
unfolding require Past
onward_require b m = record { past = λ s at. pick_elim (Past {A = Unit} at) b _ _ (λ _. omega arith) (λ _. tt) }

onward_number : Onward number
onward_number = record { past = λ s at. sooner at (at + 1) (number s at) (omega arith) (number_past s at) }

onward_inside : (low high e : ℕ) → Onward (inside low high e)
unfolding between
onward_inside low high e =
    onward_bind onward_here
    (λ at. onward_bind onward_number
    (λ v. onward_then (onward_require _ _) (onward_then (onward_require _ _) (onward_pure v))))

onward_bytes : (n : ℕ) → Onward (bytes n)
unfolding bytes Past
onward_bytes n = record { past = λ s at. pick_elim (Past {A = List ℕ} at) (leb (at + n) (length s)) _ _ (λ _. omega arith) (λ _. tt) }

onward_sheet : Onward sheet
unfolding sheet
onward_sheet = onward_bind (onward_inside 0 request_most 6) onward_bytes

onward_tenancy : (ask : ℕ → Asked) → Onward (of_tenancy ask)
unfolding of_tenancy
onward_tenancy ask = onward_bind onward_number (λ t. onward_pure (ask t))

onward_why : Onward of_why
unfolding of_why
onward_why = onward_bind onward_number (λ b. onward_bind onward_number (λ d. onward_bind onward_sheet (λ s. onward_pure _)))

onward_behind : (c : ℕ) → Onward (behind c)
unfolding behind of_settings of_request
onward_behind c =
    pick_elim Onward (eqb c 1) _ _ (λ _. onward_tenancy rents) λ _.
    pick_elim Onward (eqb c 2) _ _ (λ _. onward_bind onward_sheet (λ s. onward_pure _)) λ _.
    pick_elim Onward (eqb c 3) _ _
    (λ _. onward_bind (onward_inside 0 room_most 6) (λ room. onward_bind onward_sheet (λ s. onward_pure _))) λ _.
    pick_elim Onward (eqb c 4) _ _ (λ _. onward_tenancy returns) λ _.
    pick_elim Onward (eqb c 5) _ _ (λ _. onward_why) λ _. onward_none

pub asked_past : (s : List ℕ) → Past 1 (asked s 0)
unfolding asked ◌>>=◌
asked_past s = then_past 1 (number s 0) _ (number_past s 0) (λ c e. (onward_behind c).past s e)
