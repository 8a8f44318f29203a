-- How far a reader goes: where it ends, and how many bytes are there while it wants more.
--     Far               it ends within the bytes and at most so far on; where it wants more bytes, fewer than so many are there
--     number_far, number_narrow, inside_far, sheet_far     each reader
--     asked_longest     a call wants more bytes only while fewer than the longest call's are there
use mathlib.Core.Path.{◌≡◌, refl, sym, subst}
use mathlib.Core.Bool.{Bool, true, false}
use mathlib.Core.List.{List, [], ◌∷◌}
use Prim.Native.Nat.{ℕ, zero, suc, ◌+◌, ◌≤◌, ◌<◌}
use native.Mathlib.Omega.{arith}
use borrow.Author.Tests.{eqb-true, eqb-false, leb-true, leb-false}
use lib.Dec.{eqb, leb, ltb}
use lib.ListN.{length, drop, length-drop}
use Rattle.basics.specs.Limits.{request_most}
use Rattle.basics.specs.Choice.{pick}
use Rattle.number.specs.Decode.{Decoded, value, decode, more, under, refused as bad}
use Rattle.basics.proofs.Choice.{pick_elim}
use Rattle.number.proofs.Decode.{decode_within}
use Rattle.field.specs.Field.{taken, number, between, inside}
use Rattle.field.specs.Sheet.{Note, Out, got, refused, Parser, and_then, ◌>>=◌, ◌>>◌, pure, here, require}
use Rattle.field.proofs.Values.{between_range}
use Rattle.stream.specs.Frame.{bytes, sheet}
use Rattle.stream.specs.Call.{room_most, call_most, Asked, rents, returns, of_tenancy, of_settings, of_request, of_why, none}
use Rattle.stream.specs.Call.{behind, asked}

-- ---- one number

-- the groups after the first: not 0, in so many bytes; one byte below 128; where the bytes end they are fewer
Groups : ℕ → List ℕ → Decoded → Type 0
Groups k s (value v n) = (1 ≤ v) × (n ≤ suc k) × (v < 128 → n ≤ 1)
Groups k s (bad m) = m ≡ 1 → length s ≤ k

groups_under : (k b : ℕ) (s : List ℕ) (d : Decoded) → Groups k s d → Groups (suc k) (b ∷ s) (under b d)
unfolding Groups under
groups_under k b s (value v n) h = (omega arith, omega arith, λ l. omega arith)
groups_under k b s (bad m) h = λ q. omega (arith, h q)

more_groups : (k : ℕ) (s : List ℕ) → Groups k s (more k s)
unfolding Groups more
more_groups zero [] = λ q. omega arith
more_groups (suc k) [] = λ q. omega arith
more_groups zero (b ∷ s) =
    pick_elim (Groups 0 (b ∷ s)) (eqb b 0) _ _ (λ _ q. absurd (omega arith)) λ z.
    pick_elim (Groups 0 (b ∷ s)) (ltb b 16) _ _ (λ l. (omega (arith, eqb-false b 0 z), omega arith, λ _. omega arith))
    λ _ q. absurd (omega arith)
more_groups (suc k) (b ∷ s) =
    pick_elim (Groups (suc k) (b ∷ s)) (eqb b 0) _ _ (λ _ q. absurd (omega arith)) λ z.
    pick_elim (Groups (suc k) (b ∷ s)) (ltb b 128) _ _ (λ l. (omega (arith, eqb-false b 0 z), omega arith, λ _. omega arith)) λ _.
    groups_under k b s (more k s) (more_groups k s)

-- five bytes at the most, one below 128, two below 128 * 128
Narrow : List ℕ → Decoded → Type 0
Narrow s (value v n) = (n ≤ 5) × (v < 128 → n ≤ 1) × (v < 16384 → n ≤ 2)
Narrow s (bad m) = m ≡ 1 → length s < 5

narrow_under : (b : ℕ) (s : List ℕ) (d : Decoded) → Groups 3 s d → Narrow (b ∷ s) (under b d)
unfolding Groups Narrow under
narrow_under b s (value v n) h = (omega arith, λ l. omega arith, λ l. omega (arith, h.2 (omega arith)))
narrow_under b s (bad m) h = λ q. omega (arith, h q)

decode_narrow : (s : List ℕ) → Narrow s (decode s)
unfolding Narrow decode
decode_narrow [] = λ q. omega arith
decode_narrow (b ∷ s) =
    pick_elim (Narrow (b ∷ s)) (ltb b 128) _ _ (λ l. (omega arith, λ _. omega arith, λ _. omega arith)) λ _.
    narrow_under b s (more 3 s) (more_groups 3 s)

-- ---- readers

-- of n bytes, read from a place on
unfoldable pub Far : {A : Type 0} → ℕ → ℕ → ℕ → ℕ → Out A → Type 0
Far n at k w (got a e) = (e ≤ n) × (e ≤ at + k)
Far n at k w (refused m) = m.number ≡ 1 → n < at + w

-- from an earlier place, or less narrowly
pub far_on : {A : Type 0} (n at e : ℕ) (k w j v : ℕ) (o : Out A) → Far n e k w o → e + k ≤ at + j → e + w ≤ at + v → Far n at j v o
unfolding Far
far_on n at e k w j v (got a m) h p q = (h.0, omega arith)
far_on n at e k w j v (refused m) h p q = λ x. omega (arith, h x)

-- one reader, then another
pub far_then : {A B : Type 0} (n at j v k w : ℕ) (o : Out A) (f : A → ℕ → Out B) → Far n at j v o → v ≤ w
    → ((a : A) (e : ℕ) → o ≡ got a e → e ≤ n → e ≤ at + j → Far n at k w (f a e)) → Far n at k w (and_then o f)
unfolding Far and_then
far_then n at j v k w (got a e) f h l g = g a e refl h.0 h.1
far_then n at j v k w (refused m) f h l g = λ x. omega (arith, h x)

far_taken : (s : List ℕ) (at : ℕ) (d : Decoded) → d ≡ decode (drop at s) → at ≤ length s → Narrow (drop at s) d
    → Far (length s) at 5 5 (taken (length s) at d)
unfolding Far Narrow taken
far_taken s at (value v n) q l h = (omega (arith, decode_within (drop at s) v n (sym q), length-drop at s), omega arith)
far_taken s at (bad m) q l h = λ x. omega (arith, h x, length-drop at s)

pub number_far : (s : List ℕ) (at : ℕ) → at ≤ length s → Far (length s) at 5 5 (number s at)
unfolding number
number_far s at l = far_taken s at (decode (drop at s)) refl l (decode_narrow (drop at s))

taken_narrow : (s : List ℕ) (len at v e : ℕ) (d : Decoded) → Narrow s d → taken len at d ≡ got v e → (v < 128 → e ≤ at + 1)
    × (v < 16384 → e ≤ at + 2)
unfolding Narrow taken
taken_narrow s len at v e (value w n) h q =
    let a : w ≡ v = cc in
    let b : at + n ≡ e = cc in
    (λ l. omega (arith, h.1 (omega arith)), λ l. omega (arith, h.2 (omega arith)))
taken_narrow s len at v e (bad m) h q = absurd (let z : ◌≡◌ {A = ℕ} 0 1 = cc in omega arith)

-- a small number has few bytes
pub number_narrow : (s : List ℕ) (at v e : ℕ) → number s at ≡ got v e → (v < 128 → e ≤ at + 1) × (v < 16384 → e ≤ at + 2)
unfolding number
number_narrow s at v e q = taken_narrow (drop at s) (length s) at v e (decode (drop at s)) (decode_narrow (drop at s)) q

-- a test on the way that refuses with another number than 1
far_require : {A : Type 0} (n at k w : ℕ) (b : Bool) (m : Note) (q : Parser A) (s : List ℕ) (e : ℕ) → (m.number ≡ 1 → ⊥)
    → (b ≡ true → Far n at k w (q s e)) → Far n at k w ((require b m >> q) s e)
unfolding require ◌>>◌ and_then pick Far
far_require n at k w true m q s e z h = h refl
far_require n at k w false m q s e z h = λ x. absurd (z x)

-- a number in a range of two bytes at the most
pub inside_far : (s : List ℕ) (at low high : ℕ) → at ≤ length s → high < 16384 → Far (length s) at 2 5 (inside low high 6 s at)
unfolding between ◌>>=◌ and_then here Far pure
inside_far s at low high l b =
    far_then (length s) at 5 5 2 5 (number s at) _ (number_far s at l) (omega arith) λ v e q i j.
    far_require (length s) at 2 5 (leb v high) _ _ s e (λ x. omega arith) λ t.
    far_require (length s) at 2 5 (leb low v) _ (pure v) s e (λ x. omega arith) λ _.
    (i, (number_narrow s at v e q).1 (omega (arith, leb-true v high t)))

-- so many bytes
bytes_far : (s : List ℕ) (at n : ℕ) → Far (length s) at n n (bytes n s at)
unfolding bytes Far
bytes_far s at n =
    pick_elim (Far (length s) at n n) (leb (at + n) (length s)) _ _ (λ t. (leb-true (at + n) (length s) t, omega arith))
    (λ f _. leb-false (at + n) (length s) f)

pub sheet_far : (s : List ℕ) (at : ℕ) → at ≤ length s → Far (length s) at (2 + request_most) (2 + request_most) (sheet s at)
unfolding sheet ◌>>=◌
sheet_far s at l =
    far_then (length s) at 2 5 (2 + request_most) (2 + request_most) (inside 0 request_most 6 s at) _
    (inside_far s at 0 request_most l (omega arith)) (omega arith) λ n e q i j.
    let b : n ≤ request_most = (between_range 0 request_most 6 6 s at q).1 in
    far_on (length s) at e n n (2 + request_most) (2 + request_most) (bytes n s e) (bytes_far s e n) (omega arith) (omega arith)

-- ---- one call

tenancy_far : (ask : ℕ → Asked) (s : List ℕ) (at : ℕ) → at ≤ length s → Far (length s) at 5 5 (of_tenancy ask s at)
unfolding of_tenancy ◌>>=◌ pure Far
tenancy_far ask s at l = far_then (length s) at 5 5 5 5 (number s at) _ (number_far s at l) (omega arith) λ t e q i j. (i, j)

settings_far : (s : List ℕ) (at : ℕ) → at ≤ length s → Far (length s) at (2 + request_most) (2 + request_most) (of_settings s at)
unfolding of_settings ◌>>=◌ pure Far
settings_far s at l =
    far_then (length s) at (2 + request_most) (2 + request_most) (2 + request_most) (2 + request_most) (sheet s at) _ (sheet_far s at l)
    (omega arith) λ x e q i j. (i, j)

request_far : (s : List ℕ) (at : ℕ) → at ≤ length s → Far (length s) at (4 + request_most) (4 + request_most) (of_request s at)
unfolding of_request ◌>>=◌ pure Far
request_far s at l =
    far_then (length s) at 2 5 (4 + request_most) (4 + request_most) (inside 0 room_most 6 s at) _
    (inside_far s at 0 room_most l (omega arith))
    (omega arith) λ room e q i j.
    far_then (length s) at (4 + request_most) (4 + request_most) (4 + request_most) (4 + request_most) (sheet s e) _
    (far_on (length s) at e (2 + request_most) (2 + request_most) (4 + request_most) (4 + request_most) (sheet s e) (sheet_far s e i)
    (omega arith) (omega arith)) (omega arith) λ x f r m o. (m, o)

why_far : (s : List ℕ) (at : ℕ) → at ≤ length s → Far (length s) at (12 + request_most) (12 + request_most) (of_why s at)
unfolding of_why ◌>>=◌ pure Far
why_far s at l =
    let m : ℕ = 12 + request_most in
    far_then (length s) at 5 5 m m (number s at) _ (number_far s at l) (omega arith) λ b e q i j.
    far_then (length s) at 10 10 m m (number s e) _
    (far_on (length s) at e 5 5 10 10 (number s e) (number_far s e i) (omega arith) (omega arith)) (omega arith) λ d f r u v.
    far_then (length s) at m m m m (sheet s f) _
    (far_on (length s) at f (2 + request_most) (2 + request_most) m m (sheet s f) (sheet_far s f u) (omega arith) (omega arith))
    (omega arith) λ x g t y z. (y, z)

none_far : (n at k w : ℕ) (s : List ℕ) (e : ℕ) → Far n at k w (none s e)
unfolding none Far
none_far n at k w s e = λ x. absurd (omega arith)

-- what follows the call's number, within the longest call
abbrev Ends : List ℕ → ℕ → Parser Asked → Type 0
Ends s e p = Far (length s) 0 call_most call_most (p s e)

module _ (s : List ℕ) (c e : ℕ) (q : number s 0 ≡ got c e) (i : e ≤ length s) (j : e ≤ 5) where
  -- each of the five numbers is one byte
  one : (k : ℕ) → k < 128 → eqb c k ≡ true → e ≤ 1
  one k l t = (number_narrow s 0 c e q).0 (omega (arith, eqb-true c k t))

  shorter : (p : Parser Asked) (k : ℕ) → Far (length s) e k k (p s e) → e + k ≤ call_most → Ends s e p
  shorter p k h l = far_on (length s) 0 e k k call_most call_most (p s e) h l l

  behind_far : Ends s e (behind c)
  unfolding behind
  behind_far =
      pick_elim (Ends s e) (eqb c 1) _ _ (λ _. shorter (of_tenancy rents) 5 (tenancy_far rents s e i) (omega arith)) λ _.
      pick_elim (Ends s e) (eqb c 2) _ _
      (λ t. shorter of_settings (2 + request_most) (settings_far s e i) (omega (arith, one 2 (omega arith) t))) λ _.
      pick_elim (Ends s e) (eqb c 3) _ _
      (λ t. shorter of_request (4 + request_most) (request_far s e i) (omega (arith, one 3 (omega arith) t))) λ _.
      pick_elim (Ends s e) (eqb c 4) _ _ (λ _. shorter (of_tenancy returns) 5 (tenancy_far returns s e i) (omega arith)) λ _.
      pick_elim (Ends s e) (eqb c 5) _ _
      (λ t. shorter of_why (12 + request_most) (why_far s e i) (omega (arith, one 5 (omega arith) t))) λ _.
      none_far (length s) 0 call_most call_most s e

asked_far : (s : List ℕ) → Ends s 0 asked
unfolding asked ◌>>=◌
asked_far s =
    far_then (length s) 0 5 5 call_most call_most (number s 0) _ (number_far s 0 (omega arith)) (omega arith) λ c e q i j.
    behind_far s c e q i (omega arith)

-- a call wants more bytes only while fewer than the longest call's are there
pub asked_longest : (s : List ℕ) {m : Note} → asked s 0 ≡ refused m → m.number ≡ 1 → length s < call_most
unfolding Far
asked_longest s q = subst (Far (length s) 0 call_most call_most) q (asked_far s)

-- so does a number
pub number_longest : (s : List ℕ) {m : Note} → number s 0 ≡ refused m → m.number ≡ 1 → length s < 5
unfolding Far
number_longest s q = subst (Far (length s) 0 5 5) q (number_far s 0 (omega arith))
