use Prim.Native.Nat.{ℕ, ◌≤◌, ◌<◌}
use mathlib.Core.Path.{◌≡◌}
use lib.ListN.{length, get_or, take}
use Rattle.row.specs.Row.{region, crossings_at}
use Rattle.row.proofs.pass.Given as goal

abbrev pub invariant-loop-i : goal.invariant-loop-i
invariant-loop-i l =
    (q : ℕ) → q < length l.row.xs.now → (get_or l.counts q 0 ≤ l.i-index)
    × (region l.fl l.counts (length l.list) q ≡ crossings_at l.s l.row.b l.row.y l.row.z l.row.xs.now (take l.i-index l.list) q)
