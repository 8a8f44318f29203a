-- The longest settings sheets: 652 bytes, which are kind 1, unit 5, tenancy 5, N 1, and 64 rows of 3 + 4 + 3; on a sheet of kind 6 the rule
-- and each mark are one more, 717 in all.
use mathlib.Core.Path.{◌≡◌, refl, ap}
use mathlib.Core.List.{List}
use Prim.Native.Nat.{ℕ, ◌+◌, ◌*◌, ◌≤◌, ◌<◌}
use native.Mathlib.Omega.{arith}
use lib.Dec.{eqb}
use lib.ListN.{length, replicate}
use Rattle.basics.specs.Choice.{pick}
use Rattle.basics.specs.Count.{bit}
use Rattle.basics.specs.Limits.{disks_most, cost_most, load_most, delay_most, settings_most}
use Rattle.basics.proofs.Count.{bit_le}
use Rattle.number.specs.Bytes.{Bytes}
use Rattle.number.specs.Encode.{encode, encode_by}
use Rattle.number.proofs.Encode.{width_bounds}
use Rattle.field.specs.Put.{spell_all, opening_bytes}
use Rattle.field.specs.Send.{sheet}
use Rattle.field.specs.Sheet.{got}
use Rattle.field.proofs.Opened.{opening_kind}
use Rattle.model.specs.declared.Rule.{Rule}
use Rattle.model.specs.declared.Rule.TheVariants.{Sum, Larger}
use Rattle.settings.specs.declared.Table.{Table}
use Rattle.settings.specs.Kind.{kind_number}
use Rattle.settings.specs.Row.{disk, in_range, all_in_range, marked_bytes, row_bytes}
use Rattle.settings.specs.Table.{costs, loads, delays, marks}
use Rattle.settings.specs.Sheet.{kinds, settings_sheet}
use Rattle.settings.specs.Draft.{rows_of, heading_bytes, sheet_bytes, lists_fit}
use Rattle.settings.specs.Draft.{sheet_draft, settings_draft, marked_draft}
use Rattle.settings.proofs.Rules.{kind_small}
use Rattle.settings.proofs.Rows.{rows_top, rows_all_top}
use Rattle.settings.proofs.Writing.{rule_length, sheet_length, drafted}
use Rattle.settings.proofs.Accepted.{sheet_steps}
use Rattle.settings.proofs.RoundTrip.{write_accepted}

-- on a sheet of a kind
abbrev pub most : ℕ → ℕ
most k = 652 + 65 * bit (eqb k 6)

-- a sheet that is written
pub longest_written : (k unit t r : ℕ) (cs ls ds ms bs : List ℕ) → k < 128 → sheet_draft k unit t r cs ls ds ms ≡ sheet bs
    → length bs ≤ most k
longest_written k unit t r cs ls ds ms bs small h =
    let rows = rows_of cs ls ds ms in
    let d = drafted k unit t r cs ls ds ms bs h in
    let w = d.0 in
    let few : length rows ≤ disks_most = omega (arith, w.long, w.fit.few) in
    omega (
      arith,
      ap length d.1,
      sheet_length k unit t small r rows few,
      rule_length k r w.high,
      rows_top k rows w.good,
      rows_all_top k (length rows) few,
      width_bounds unit,
      width_bounds t,
    )

-- a sheet that is accepted
pub longest_accepted : (unit t : ℕ) (s : List ℕ) (T : Table) (e : ℕ) → Bytes s → settings_sheet unit t s 0 ≡ got T e
    → length s ≤ settings_most
longest_accepted unit t s T e b h =
    let o = (sheet_steps unit t s T e h).front_got.opening_got in
    let k = kind_number (sheet_steps unit t s T e h).front.kind in
    omega (
      arith,
      longest_written k unit t _ (costs T) (loads T) (delays T) (marks T) s (kind_small k (opening_kind unit t kinds s 0 o))
          (write_accepted unit t s T e k _ b h o),
      bit_le (eqb k 6),
    )

-- one is as long: 64 disks, each with the greatest cost, load and delay
pub longest_reached : (r : Rule) → (bs : List ℕ)
    × (settings_draft r 4294967295 4294967295 (replicate disks_most cost_most) (replicate disks_most load_most)
    (replicate disks_most delay_most)
    ≡ sheet bs)
    × (length bs ≡ 652)
unfolding settings_draft sheet_draft lists_fit pick all_in_range in_range rows_of sheet_bytes heading_bytes
    marked_bytes opening_bytes
    spell_all row_bytes encode encode_by
longest_reached Sum = (sheet_bytes 1 4294967295 4294967295 1 (replicate disks_most (disk cost_most load_most delay_most 0)), refl, refl)
longest_reached Larger = (sheet_bytes 5 4294967295 4294967295 2 (replicate disks_most (disk cost_most load_most delay_most 0)), refl, refl)

-- and with marks
pub longest_marked : (bs : List ℕ)
    × (marked_draft 4294967295 4294967295 2 (replicate disks_most cost_most) (replicate disks_most load_most)
    (replicate disks_most delay_most)
    (replicate disks_most 1) ≡ sheet bs)
    × (length bs ≡ settings_most)
unfolding sheet_draft lists_fit pick all_in_range in_range rows_of sheet_bytes heading_bytes marked_bytes opening_bytes spell_all
    row_bytes encode
    encode_by
longest_marked = (sheet_bytes 6 4294967295 4294967295 2 (replicate disks_most (disk cost_most load_most delay_most 1)), refl, refl)
