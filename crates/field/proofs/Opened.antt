-- Laws of kind, unit and tenancy, with which every sheet opens.
--     addressed_tenancy, opening_tenancy     the tenancy that an accepted sheet is for is not 0
--     opening_kind     its kind is one that the call takes
--     reads_addressed, reads_opening     reading what was written
--     addressed_spelt, opening_spelt, opening_one     the bytes of what was read; where a call takes one kind
--     opening_length     how many they are
use mathlib.Core.Path.{◌≡◌, subst}
use mathlib.Core.Bool.{true}
use mathlib.Core.List.{List, [], ◌∷◌, ◌++◌, append-nil}
use Prim.Native.Nat.{ℕ, ◌+◌, ◌^◌, ◌<◌}
use native.Mathlib.Omega.{arith}
use lib.ListN.{length, length-append}
use Rattle.basics.specs.Lists.{listed}
use Rattle.basics.proofs.Lists.{listed_one}
use Rattle.number.specs.Bytes.{Bytes}
use Rattle.number.specs.Encode.{encode, width_of}
use Rattle.field.specs.Sheet.{got, ◌>>◌, pure}
use Rattle.field.specs.Field.{exactly, tenancy, kind, addressed, opening}
use Rattle.field.specs.Put.{opening_bytes}
use Rattle.field.proofs.Sheet.{bind_got, after_got, pure_got}
use Rattle.field.proofs.Values.{tenancy_within, kind_within}
use Rattle.field.proofs.Read.{Reads, reads_bind, reads_then, reads_pure, reads_between, reads_kind}
use Rattle.field.proofs.Spelt.{Spelt, spelt_join, between_spelt, kind_spelt}

-- where an accepted opening stands: its kind, then unit and tenancy
record Opened (kinds : List ℕ) (unit due : ℕ) (s : List ℕ) (at k e : ℕ) : Type 0 where
  mid : ℕ
  tenant : ℕ
  kind_got : kind kinds s at ≡ got k mid
  rest_got : addressed unit due s mid ≡ got tenant e

module _ (unit due : ℕ) where
  pub addressed_tenancy : (s : List ℕ) (at : ℕ) {v e : ℕ} → addressed unit due s at ≡ got v e → 0 < due
  unfolding addressed
  addressed_tenancy s at {v} {e} h =
      let u = after_got (exactly unit 4) s at v e (tenancy due) h in (tenancy_within due s u.mid u.last).1

  pub addressed_spelt : (s : List ℕ) (at : ℕ) {v e : ℕ} → Bytes s → addressed unit due s at ≡ got v e
      → Spelt s at e (encode unit ++ encode due)
  unfolding addressed
  addressed_spelt s at {v} {e} b h =
      let u = after_got (exactly unit 4) s at v e (tenancy due) h in
      let y = between_spelt s b at unit unit 4 4 u.first in
      let z = between_spelt s b u.mid _ due 5 5 u.last in
      spelt_join (subst (λ (n : ℕ). Spelt s at u.mid (encode n)) {x = u.found} {y = unit} (omega arith) y.0)
      (subst (λ (n : ℕ). Spelt s u.mid e (encode n)) (tenancy_within due s u.mid u.last).0 z.0)

  module _ (kinds : List ℕ) (s : List ℕ) (at : ℕ) {k e : ℕ} (h : opening kinds unit due s at ≡ got k e) where
    opened : Opened kinds unit due s at k e
    unfolding opening
    opened =
        let w = bind_got (kind kinds) s at k e (λ x. addressed unit due >> pure x) h in
        let u = after_got (addressed unit due) s w.mid k e (pure w.found) w.last in
        let q = pure_got w.found k s u.mid e u.last in
        record {
          mid = w.mid;
          tenant = u.found;
          kind_got = subst (λ (z : ℕ). kind kinds s at ≡ got z w.mid) q.0 w.first;
          rest_got = subst (λ (z : ℕ). addressed unit due s w.mid ≡ got u.found z) q.1 u.first;
        }

    pub opening_spelt : Bytes s → Spelt s at e (opening_bytes k unit due) × (listed kinds k ≡ true)
    unfolding opening_bytes
    opening_spelt b =
        let x = kind_spelt s b at kinds opened.kind_got in
        (spelt_join x.0 (addressed_spelt s opened.mid b opened.rest_got), x.1)

    -- an accepted one is for a tenancy, which is not 0
    pub opening_tenancy : 0 < due
    opening_tenancy = addressed_tenancy s opened.mid opened.rest_got

    pub opening_kind : listed kinds k ≡ true
    opening_kind = (kind_within kinds s at opened.kind_got).1

  -- where a call takes one kind, it is that
  pub opening_one : (k : ℕ) (s : List ℕ) (at : ℕ) {v e : ℕ} → Bytes s → opening (k ∷ []) unit due s at ≡ got v e
      → Spelt s at e (opening_bytes k unit due) × (0 < due)
  opening_one k s at {v} {e} b h =
      let w = opening_spelt (k ∷ []) s at h b in
      (subst (λ (z : ℕ). Spelt s at e (opening_bytes z unit due)) (listed_one k v w.1) w.0, opening_tenancy (k ∷ []) s at h)

  module _ (u : unit < 2 ^ 32) (l : 0 < due) (h : due < 2 ^ 32) where
    pub reads_addressed : Reads (addressed unit due) (encode unit ++ encode due) due
    unfolding addressed
    reads_addressed =
        reads_then (reads_between unit unit 4 4 unit (omega arith) (omega arith) u)
        (reads_between _ due 5 5 due (omega arith) (omega arith) h)

    pub reads_opening : (kinds : List ℕ) (k : ℕ) → listed kinds k ≡ true → k < 2 ^ 32
        → Reads (opening kinds unit due) (opening_bytes k unit due) k
    unfolding opening opening_bytes
    reads_opening kinds k t m = reads_bind _ (reads_kind kinds k t m) (rw append-nil at (reads_then reads_addressed (reads_pure k)))

module _ (kind unit t : ℕ) where
  pub opening_length : length (opening_bytes kind unit t) ≡ width_of kind + width_of unit + width_of t
  unfolding opening_bytes width_of
  opening_length = omega (arith, length-append (encode kind) (encode unit ++ encode t), length-append (encode unit) (encode t))
