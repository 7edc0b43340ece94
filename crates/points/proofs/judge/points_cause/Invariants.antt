use Prim.Native.Nat.{◌+◌, ◌*◌, ◌-◌}
use mathlib.Core.Path.{◌≡◌}
use Rattle.rym1.specs.File.{points_at, points_cause}
use Rattle.points.proofs.judge.points_cause.Given as goal

abbrev pub invariant-loop-i : goal.invariant-loop-i
invariant-loop-i l = points_cause l.g (points_at l.file 64 l.n) ≡ points_cause l.g (points_at l.file (64 + 16 * l.i) (l.n - l.i))
