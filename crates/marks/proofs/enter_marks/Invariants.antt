use mathlib.Core.Path.{◌≡◌}
use lib.ListN.{length}
use Rattle.rym1.specs.File.{grid, count}
use Rattle.marks.proofs.Entered.{Entering}
use Rattle.marks.proofs.enter_marks.Given as goal

abbrev pub invariant-loop-i : goal.invariant-loop-i
invariant-loop-i l = (length l.words ≡ length l.initial.words) × Entering l.words l.file.file.bytes.now (grid l.file.file.bytes.now) l.i (count l.file.file.bytes.now)
