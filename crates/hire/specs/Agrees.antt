-- What two units show of what they were before.
--     Alike      two units of one number that are not rented and hold the same table: only the last tenancy may differ
--     Parts      a Rent that one of the two refuses with 13 and the other accepts
--     Agrees     two lists of replies to the same calls agree to the end, or up to such a Rent
use Rattle.std.specs.Prelude.{ℕ, ◌≡◌, false, List, [], ◌∷◌, ◌⊎◌}
use Rattle.unit.specs.declared.Unit.{Unit as Shelf}
use Rattle.field.specs.Sheet.{unplaced}
use Rattle.unit.specs.Life.{accepted, refused}
use Rattle.hire.specs.Calls.{Call, renting, Reply, said}

pub record Alike (u v : Shelf) : Type 0 where
  pub number : u.number ≡ v.number
  pub free : u.rented ≡ false
  pub free' : v.rented ≡ false
  pub table : u.table ≡ v.table

-- one is refused with 13, the other accepted
abbrev low : Reply
low = said (refused (unplaced 13))

abbrev pub Parts : Reply → Reply → Type 0
Parts r s = ((r ≡ low) × (s ≡ said accepted)) ⊎ ((r ≡ said accepted) × (s ≡ low))

pub data Agrees : List Call → List Reply → List Reply → Type 0 where
  end : Agrees [] [] []
  same : {c : Call} {cs : List Call} {r : Reply} {rs ss : List Reply} → Agrees cs rs ss → Agrees (c ∷ cs) (r ∷ rs) (r ∷ ss)
  part : {t : ℕ} {cs : List Call} {r s : Reply} {rs ss : List Reply} → Parts r s → Agrees (renting t ∷ cs) (r ∷ rs) (s ∷ ss)
