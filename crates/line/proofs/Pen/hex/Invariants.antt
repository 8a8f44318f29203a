use Prim.Native.Nat.{◌+◌, ◌*◌}
use mathlib.Core.Path.{◌≡◌}
use lib.ListN.{length, take}
use Rattle.line.specs.Parts.{Writes}
use Rattle.line.specs.Text.{hex}
use Rattle.line.proofs.Pen.hex.Given as goal

-- the pen has put the digits of the bytes passed, and its place is to be moved behind them
abbrev pub invariant-loop-b : goal.invariant-loop-b
invariant-loop-b l =
    Writes (hex (take l.b-index l.xs)) l.initial.self (record { out = l.self.out; at = l.at })
    × (l.at ≡ l.initial.self.at + 2 * l.b-index) × (length l.self.out.now ≡ length l.initial.self.out.now)
