use Prim.Native.Nat.{◌+◌, ◌*◌, ◌-◌}
use mathlib.Core.Path.{◌≡◌}
use Rattle.rym1.specs.File.{points_at, working}
use Rattle.points.proofs.judge.is_working.Given as goal

abbrev pub invariant-loop-i : goal.invariant-loop-i
invariant-loop-i l = working l.g 0 (points_at l.file.bytes.now 64 l.n) ≡ working l.g l.low (points_at l.file.bytes.now (64 + 16 * l.i) (l.n - l.i))
