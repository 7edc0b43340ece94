use Prim.Native.Nat.{◌*◌, ◌/◌, ◌-◌}
use mathlib.Core.Path.{◌≡◌}
use lib.ListN.{length}
use Rattle.filling.specs.Lists.{triangles_at, mesh}
use Rattle.filling.specs.Inside.{bounds_from, bounds}
use Rattle.accelerator.proofs.bounds_of.Given as goal

abbrev pub invariant-loop-i : goal.invariant-loop-i
invariant-loop-i l = bounds_from l.b (triangles_at l.s (72 * l.i) (length l.s / 72 - l.i)) ≡ bounds (mesh l.s)
