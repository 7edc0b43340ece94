use mathlib.Core.Path.{◌≡◌}
use lib.ListN.{length}
use Rattle.rym1.specs.File.{grid, count}
use Rattle.lookup.proofs.Words.{Entering}
use Rattle.lookup.proofs.enter_points.Given as goal

abbrev pub invariant-loop-i : goal.invariant-loop-i
invariant-loop-i l = (length l.words ≡ length l.initial.words) × Entering l.words l.file.bytes.now (grid l.file.bytes.now) l.i (count l.file.bytes.now)
