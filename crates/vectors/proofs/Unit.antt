-- The unit's life, call by call: unit 7, tenancy 300, document 01's settings. Its plans stand in Example, Overlap and Out.
--     let_out      rented, nothing set yet
--     ready        with document 01's settings
--     overlapped, summed     with settings of kind 5, and of kind 1 for the same disks
--     marked       with settings of kind 6 for them, disk 0 out
--     back         given back
use mathlib.Core.Bool.{true, false}
use mathlib.Core.Path.{◌≡◌, refl}
use mathlib.Core.List.{[], ◌∷◌, map}
use lib.ListN.{drop}
use Rattle.field.specs.Sheet.{note, unplaced}
use Rattle.model.specs.declared.Rule.TheVariants.{Sum, Larger}
use Rattle.settings.specs.Table.{table, no_table}
use Rattle.unit.specs.declared.Unit.{Unit as Shelf}
use Rattle.unit.specs.Life.{accepted, refused, rent, set, give_back}
use Rattle.unit.specs.Unit.{new_unit, tenancy_of}
use Rattle.vectors.proofs.Opened.{unit_opened}
use Rattle.vectors.proofs.Settings.{example as settings, three, overlap, queued, busy, marked as marking, pulled}

abbrev pub let_out : Shelf
let_out = record { number = 7; last = 300; rented = true; table = no_table }

abbrev pub ready : Shelf
ready = record { number = 7; last = 300; rented = true; table = table 3 Sum three }

abbrev pub overlapped : Shelf
overlapped = record { number = 7; last = 300; rented = true; table = table 3 Larger busy }

abbrev pub summed : Shelf
summed = record { number = 7; last = 300; rented = true; table = table 3 Sum busy }

abbrev pub marked : Shelf
marked = record { number = 7; last = 300; rented = true; table = table 3 Sum pulled }

abbrev pub back : Shelf
back = record { number = 7; last = 300; rented = false; table = no_table }

-- ---- new

-- last tenancy 0, not rented, N = 0, the rule the sum, all rows 0
new_unit_law : new_unit 7 ≡ record { number = 7; last = 0; rented = false; table = no_table }
unfolding unit_opened
new_unit_law = refl

-- ---- tenancy

-- none while new, the current one while rented, none once given back
tenancies : map tenancy_of (new_unit 7 ∷ let_out ∷ ready ∷ back ∷ []) ≡ 0 ∷ 300 ∷ 300 ∷ 0 ∷ []
unfolding unit_opened
tenancies = refl

-- ---- rent

-- Rent while rented, of a tenancy that is not above the last: 12 before 13
pub rent_rented : rent ready 299 ≡ record { verdict = refused (unplaced 12); unit = ready }
unfolding unit_opened
rent_rented = refl

-- the same tenancy again
pub rent_again : rent back 300 ≡ record { verdict = refused (unplaced 13); unit = back }
unfolding unit_opened
rent_again = refl

-- the next tenant finds nothing of the one before
rent_next : rent (give_back ready 300).unit 301 ≡ rent (new_unit 7) 301
unfolding unit_opened
rent_next = refl

-- nor its start rule
rent_next_overlapped : rent (give_back overlapped 300).unit 301 ≡ rent (new_unit 7) 301
unfolding unit_opened
rent_next_overlapped = refl

-- nor its marks
rent_next_marked : rent (give_back marked 300).unit 301 ≡ rent (new_unit 7) 301
unfolding unit_opened
rent_next_marked = refl

-- ---- settings

-- not rented
pub set_free : set back settings ≡ record { verdict = refused (note 5 2); unit = back }
unfolding unit_opened
set_free = refl

-- kind 5 is for the whole unit, until settings of kind 1 come
set_overlap : set ready overlap ≡ record { verdict = accepted; unit = overlapped }
unfolding unit_opened
set_overlap = refl

set_sum : set overlapped queued ≡ record { verdict = accepted; unit = summed }
unfolding unit_opened
set_sum = refl

-- the start rule of a new unit, with kind 5, with kind 1 after it, given back, and let out to the next tenant
rules : map (λ u. u.table.rule) (new_unit 7 ∷ overlapped ∷ (set overlapped queued).unit ∷ (give_back overlapped 300).unit
    ∷ (rent (give_back overlapped 300).unit 301).unit ∷ []) ≡ Sum ∷ Larger ∷ Sum ∷ Sum ∷ Sum ∷ []
unfolding unit_opened
rules = refl

-- kind 6 too; kinds 1 and 5 after it put all disks in use
set_marked : set ready marking ≡ record { verdict = accepted; unit = marked }
unfolding unit_opened
set_marked = refl

pub set_sum_after : set marked queued ≡ record { verdict = accepted; unit = summed }
unfolding unit_opened
set_sum_after = refl

set_overlap_after : set marked overlap ≡ record { verdict = accepted; unit = overlapped }
unfolding unit_opened
set_overlap_after = refl

-- another kind changes nothing
pub set_kind_nine : set overlapped (9 ∷ drop 1 queued) ≡ record { verdict = refused (unplaced 3); unit = overlapped }
unfolding unit_opened
set_kind_nine = refl

-- ---- give_back

-- not rented, N = 0, the rule the sum, all rows 0: the last tenancy number remains
pub return_300 : give_back ready 300 ≡ record { verdict = accepted; unit = back }
unfolding unit_opened
return_300 = refl

-- the sum again
pub return_overlapped : give_back overlapped 300 ≡ record { verdict = accepted; unit = back }
unfolding unit_opened
return_overlapped = refl

-- of another tenancy
pub return_other : give_back ready 299 ≡ record { verdict = refused (unplaced 14); unit = ready }
unfolding unit_opened
return_other = refl
