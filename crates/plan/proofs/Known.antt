-- Every refusal of a plan sheet has one of the table's numbers.
use Prim.Native.Nat.{ℕ, ◌-◌}
use mathlib.Core.List.{[], ◌∷◌}
use Rattle.field.proofs.Known.{Numbered, numbered_bind, numbered_then, numbered_pure, numbered_times, numbered_inside, numbered_ascending}
use Rattle.field.proofs.Known.{numbered_opening, numbered_whole, own_six, own_fifteen, own_sixteen}
use Rattle.plan.specs.Plan.{time_of, size_of, lists_of, plan_fields, plan_sheet}
use Rattle.basics.specs.Limits.{disks_most, blocks_most}

numbered_time : (q : ℕ) → Numbered (time_of q)
unfolding time_of
numbered_time q = numbered_inside _ _ 15 own_fifteen

numbered_size : (q : ℕ) → Numbered (size_of q)
unfolding size_of
numbered_size q = numbered_inside _ _ 6 own_six

numbered_lists : (q r : ℕ) → Numbered (lists_of q r)
unfolding lists_of
numbered_lists q r =
    numbered_bind (numbered_times q (numbered_inside 0 (disks_most - 1) 16 own_sixteen))
    (λ ds. numbered_bind (numbered_size q) (λ m. numbered_bind (numbered_ascending m 0 (q - 1)) (λ bs. numbered_pure _)))

pub numbered_plan : (unit t : ℕ) → Numbered (plan_sheet unit t)
unfolding plan_sheet plan_fields
numbered_plan unit t =
    numbered_whole
    (numbered_then (numbered_opening (3 ∷ []) unit t)
    (numbered_bind (numbered_inside 0 blocks_most 6 own_six)
    (λ q. numbered_bind (numbered_time q) (λ r. numbered_lists q r))))
