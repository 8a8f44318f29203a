-- Through the desk: the bytes that answer a request, read by the exported plan reader for that unit and tenancy, give the plan.
use Prim.Native.Nat.{ℕ, ◌*◌, ◌^◌, ◌≤◌, ◌<◌}
use mathlib.Core.List.{List}
use mathlib.Core.Path.{◌≡◌}
use native.Mathlib.Omega.{arith}
use lib.ListN.{length, take}
use Rattle.std.specs.Prelude.{Ok}
use Rattle.basics.specs.Limits.{blocks_most}
use Rattle.number.specs.Bytes.{Bytes}
use Rattle.model.specs.Case.{Case}
use Rattle.field.specs.Sheet.{got}
use Rattle.plan.specs.Plan.{Plan}
use Rattle.desk.specs.Desk.{PlanRead}
use Rattle.desk.proofs.Caller.{Handed, plan_handed}
use Rattle.planner.specs.Asked.{PlanFor}
use Rattle.unit.specs.declared.Requested.{Requested}
use Rattle.unit.specs.declared.Unit.{Unit as Shelf}
use Rattle.unit.specs.Request.{asked_of, Replied}
use Rattle.unit.specs.Sound.{Sound}
use Rattle.unit.specs.Unit.{tenancy_of}
use Rattle.unit.proofs.Replies.{replied_read}

-- a sound unit, numbers of 32 bits, a request that was answered with n bytes, and lists with room for every plan
pub replied_handed : {u : Shelf} {s out after : List ℕ} (w : Sound u) (i : u.number < 2 ^ 32) (j : tenancy_of u < 2 ^ 32)
    {r : Requested} (a : Replied u s out r after) {m : Case} {e : ℕ} (g : asked_of u s ≡ got m e) {n : ℕ} (h : r.answer ≡ Ok n)
    {disks set disks' set' : List ℕ} {x : ℕ} → Bytes (take n after) → blocks_most ≤ length disks → 2 * blocks_most ≤ length set
    → PlanRead u.number (tenancy_of u) (take n after) disks set x disks' set'
    → (p : Plan) × PlanFor m p × Handed p x disks' set'
replied_handed w i j a g {n} h b l k v =
    let q = replied_read w i j a g h in
    let range = q.1.range in
    (q.0, q.1, plan_handed q.0 n b q.2 (omega (arith, range.few)) (omega (arith, range.few, range.size_to)) v)
